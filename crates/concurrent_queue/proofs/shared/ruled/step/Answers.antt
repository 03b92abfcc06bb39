use Rattle.std.proofs.Common.{subst}
use Rattle.concurrent_queue.specs.QueueTables.{form_of}
use Rattle.concurrent_queue.specs.Replies.{Follows}
use Rattle.concurrent_queue.specs.declared.cells.QueueForm.{QueueForm}
use Rattle.concurrent_queue.proofs.Traces.{step_here}
use Rattle.concurrent_queue.proofs.shared.ruled.step.Goals as goal

pub returns-clause-deed : goal.returns-clause-deed
returns-clause-deed g c =
    step_here g.S.Trace.did (form_of c.args.table.now) c.foreign_cells.result.cells.seat.me.0.form c.foreign_cells.result.trace c.args.trace c.foreign_cells.ensures.form c.foreign_cells.ensures.trace c.args.call.now c.step.new.call c.step.result.0 c.step.result.1 c.step.ensures.deed

pub returns-clause-answers : goal.returns-clause-answers
returns-clause-answers g c =
    subst (λ (f : QueueForm). Follows f c.args.call.now c.step.new.call c.step.result.0) c.foreign_cells.ensures.form c.step.ensures.answers
