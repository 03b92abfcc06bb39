use Rattle.std.proofs.Common.{refl, subst}
use Rattle.concurrent_queue.specs.declared.cells.QueueForm.TheVariants.{Unbounded}
use Rattle.concurrent_queue.specs.Walked.{WalkedFrom}
use Rattle.concurrent_queue.specs.declared.call.QueueAsk.TheVariants as ask
use Rattle.concurrent_queue.specs.declared.call.QueueReply.{QueueReply}
use Rattle.concurrent_queue.specs.declared.call.QueueReply.TheVariants as reply
use Rattle.concurrent_queue.specs.declared.queue_call.CallState.TheVariants.{Asked}
use Rattle.concurrent_queue.proofs.Traces.{answered, went_on}
use Rattle.concurrent_queue.proofs.shared.endless.Endless.push.Goals as goal

pub returns-in-Ok-clause-walked : goal.returns-in-Ok-clause-walked
returns-in-Ok-clause-walked g c =
    answered g.S.Trace.did Unbounded Unbounded c.cells.result.trace c.args.trace refl c.cells.ensures.trace (λ r. reply.Push r) (Asked (ask.Push c.args.value)) c.push_fast-made.result.1 c.push_fast-made.result.0 c.push_fast-made.ensures.deeds
    c.in-Ok.answer c.in-Ok.is

pub returns-in-Push-clause-walked : goal.returns-in-Push-clause-walked
returns-in-Push-clause-walked g c =
    let made = c.finish_apart-reply.result in
    let walked = subst (λ (r : QueueReply g.row.T.Denot). WalkedFrom g.S.Trace.did Unbounded c.in-Err.rest.state c.push_fast-made.result.1 r made.1) c.in-Push.is c.finish_apart-reply.ensures.walked in
    went_on g.S.Trace.did Unbounded Unbounded c.cells.result.trace c.args.trace refl c.cells.ensures.trace (λ r. reply.Push r) (Asked (ask.Push c.args.value)) c.push_fast-made.result.1 c.push_fast-made.result.0 c.push_fast-made.ensures.deeds
    c.in-Err.rest (reply.Push c.in-Push.answer) made.1 c.in-Err.is walked
