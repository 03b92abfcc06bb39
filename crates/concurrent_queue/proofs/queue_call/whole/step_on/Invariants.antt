use Rattle.std.proofs.Common.{◌≡◌, ℕ}
use Rattle.concurrent_queue.specs.SharedQueue.{IsStillOf}
use Rattle.concurrent_queue.specs.Walked.{StateMakes, standing}
use Rattle.concurrent_queue.specs.machine.FastPath.{Leads}
use Rattle.concurrent_queue.proofs.queue_call.whole.step_on.Given as goal

abbrev pub invariant-loop : goal.invariant-loop
invariant-loop g l =
    let form = g.C.Cells.form_of l.initial.cells in
    IsStillOf form (g.C.Cells.form_of l.cells) l.fn.call l.call
    × (g.C.Cells.form_of l.cells ≡ form)
    × ((n : ℕ) × Leads (StateMakes g.C.Cells.did form) n l.initial.cells l.fn.call.state l.cells l.call.state)
    × g.C.Cells.stands (standing (g.C.Cells.form_of l.cells) l.call.state) l.cells
