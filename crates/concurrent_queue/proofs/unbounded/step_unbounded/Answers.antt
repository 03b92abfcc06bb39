use Rattle.std.proofs.Common.{subst, sym}
use Rattle.concurrent_queue.specs.machine.BlocksMakes.{ProgressMakes}
use Rattle.concurrent_queue.specs.Replies.{EndFollows}
use Rattle.concurrent_queue.specs.declared.unbounded.action.UnboundedAction.{UnboundedAction}
use Rattle.concurrent_queue.proofs.unbounded.step_unbounded.Goals as goal

pub returns-in-PopRetire-clause-ends : goal.returns-in-PopRetire-clause-ends
returns-in-PopRetire-clause-ends g c =
    subst (λ (x : UnboundedAction g.row.T.Denot). EndFollows x c.pop_retire.result) (sym c.in-PopRetire.is) (c.pop_retire.ensures.ends c.in-PopRetire.field-0)

pub returns-in-PopRetire-clause-deed : goal.returns-in-PopRetire-clause-deed
returns-in-PopRetire-clause-deed g c =
    subst (λ (x : UnboundedAction g.row.T.Denot). ProgressMakes g.C.Cells.did c.args.cells.now x c.pop_retire.new.cells c.pop_retire.result) (sym c.in-PopRetire.is) (c.pop_retire.ensures.deed c.in-PopRetire.field-0)
