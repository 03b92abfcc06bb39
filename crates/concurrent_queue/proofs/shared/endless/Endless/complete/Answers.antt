use Rattle.std.proofs.Common.{refl}
use Rattle.concurrent_queue.specs.declared.cells.QueueForm.TheVariants.{Unbounded}
use Rattle.concurrent_queue.specs.declared.call.QueueReply.{QueueReply}
use Rattle.concurrent_queue.proofs.Traces.{answered, went_on}
use Rattle.concurrent_queue.proofs.shared.endless.Endless.complete.Goals as goal

pub returns-in-Ok-clause-walked : goal.returns-in-Ok-clause-walked
returns-in-Ok-clause-walked g c =
    answered g.S.Trace.did Unbounded Unbounded c.cells.result.trace c.args.trace refl c.cells.ensures.trace (λ (r : QueueReply g.row.T.Denot). r) c.args.call.state c.call_fast-made.result.1 c.call_fast-made.result.0 c.call_fast-made.ensures.deeds
    c.in-Ok.reply c.in-Ok.is

pub returns-in-Err-clause-walked : goal.returns-in-Err-clause-walked
returns-in-Err-clause-walked g c =
    went_on g.S.Trace.did Unbounded Unbounded c.cells.result.trace c.args.trace refl c.cells.ensures.trace (λ (r : QueueReply g.row.T.Denot). r) c.args.call.state c.call_fast-made.result.1 c.call_fast-made.result.0 c.call_fast-made.ensures.deeds
    c.in-Err.rest c.finish.result.0 c.finish.result.1 c.in-Err.is c.finish.ensures.walked
