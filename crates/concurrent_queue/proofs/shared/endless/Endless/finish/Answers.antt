use Rattle.std.proofs.Common.{refl}
use Rattle.concurrent_queue.specs.declared.cells.QueueForm.TheVariants.{Unbounded}
use Rattle.concurrent_queue.proofs.Traces.{walked_here}
use Rattle.concurrent_queue.proofs.shared.endless.Endless.finish.Goals as goal

pub returns-clause-walked : goal.returns-clause-walked
returns-clause-walked g c =
    walked_here g.S.Trace.did Unbounded Unbounded c.cells.result.trace c.args.trace refl c.cells.ensures.trace c.args.call.state c.finish.result.0 c.finish.result.1 c.finish.ensures.walked
