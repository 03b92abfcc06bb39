use Rattle.std.proofs.Common.{refl}
use Rattle.concurrent_queue.specs.declared.cells.QueueForm.TheVariants.{Unbounded}
use Rattle.concurrent_queue.specs.declared.queue_call.CallState.TheVariants.{Asked}
use Rattle.concurrent_queue.proofs.Traces.{walked_here}
use Rattle.concurrent_queue.proofs.shared.endless.Endless.tell.Goals as goal

pub returns-clause-walked : goal.returns-clause-walked
returns-clause-walked g c =
    walked_here g.S.Trace.did Unbounded Unbounded c.words.result.trace c.args.trace refl c.words.ensures.trace (Asked c.args.ask) c.tell.result.0 c.tell.result.1 c.tell.ensures.walked
