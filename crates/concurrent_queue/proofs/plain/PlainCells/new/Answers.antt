use Rattle.std.proofs.Common.{sym, subst}
use Rattle.concurrent_queue.specs.Made.{IsNew}
use Rattle.concurrent_queue.specs.Plain.{contents_of}
use Rattle.concurrent_queue.specs.declared.cells.QueueForm.{QueueForm}
use Rattle.concurrent_queue.proofs.FitsFacts.{new_blocks}
use Rattle.concurrent_queue.proofs.plain.PlainCells.new.Goals as goal

pub returns-in-Unbounded : goal.returns-in-Unbounded
returns-in-Unbounded g c =
    subst (λ (f : QueueForm). IsNew f (contents_of c.unbounded.result)) (sym c.in-Unbounded.is) (new_blocks g.row.T.Denot c.unbounded.result c.unbounded.ensures)
