use Rattle.std.proofs.Common.{refl, subst}
use Rattle.concurrent_queue.specs.declared.cells.QueueForm.TheVariants.{Unbounded}
use Rattle.concurrent_queue.specs.Walked.{WalkedFrom}
use Rattle.concurrent_queue.specs.declared.call.QueueAsk.TheVariants as ask
use Rattle.concurrent_queue.specs.declared.call.QueueReply.{QueueReply}
use Rattle.concurrent_queue.specs.declared.call.QueueReply.TheVariants as reply
use Rattle.concurrent_queue.specs.declared.queue_call.CallState.TheVariants.{Asked}
use Rattle.concurrent_queue.proofs.Traces.{answered, went_on}
use Rattle.concurrent_queue.proofs.shared.endless.Endless.pop.Goals as goal

pub returns-in-Ok : goal.returns-in-Ok
returns-in-Ok g c =
    record {
      walked = answered g.S.Trace.did Unbounded Unbounded c.cells.result.trace c.args.trace refl c.cells.ensures.trace (λ r. reply.Pop r) (Asked ask.Pop) c.pop_fast-made.result.1 c.pop_fast-made.result.0 c.pop_fast-made.ensures.deeds
          c.in-Ok.answer c.in-Ok.is;
    }

pub returns-in-Pop : goal.returns-in-Pop
returns-in-Pop g c =
    let made = c.finish_apart-reply.result in
    let walked = subst (λ (r : QueueReply g.row.T.Denot). WalkedFrom g.S.Trace.did Unbounded c.in-Err.rest.state c.pop_fast-made.result.1 r made.1) c.in-Pop.is c.finish_apart-reply.ensures.walked in
    record {
      walked = went_on g.S.Trace.did Unbounded Unbounded c.cells.result.trace c.args.trace refl c.cells.ensures.trace (λ r. reply.Pop r) (Asked ask.Pop) c.pop_fast-made.result.1 c.pop_fast-made.result.0 c.pop_fast-made.ensures.deeds
          c.in-Err.rest (reply.Pop c.in-Pop.answer) made.1 c.in-Err.is walked;
    }
