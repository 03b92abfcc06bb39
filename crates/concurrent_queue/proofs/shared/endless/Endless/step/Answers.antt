use Rattle.std.proofs.Common.{refl}
use Rattle.concurrent_queue.specs.declared.cells.QueueForm.TheVariants.{Unbounded}
use Rattle.concurrent_queue.proofs.Traces.{step_here}
use Rattle.concurrent_queue.proofs.shared.endless.Endless.step.Goals as goal

pub returns-clause-deed : goal.returns-clause-deed
returns-clause-deed g c =
    step_here g.S.Trace.did Unbounded Unbounded c.cells.result.trace c.args.trace refl c.cells.ensures.trace c.args.call.now c.step.new.call c.step.result.0 c.step.result.1 c.step.ensures.deed
