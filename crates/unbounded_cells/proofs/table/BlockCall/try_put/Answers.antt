use Rattle.std.specs.Prelude.{Err}
use Rattle.concurrent_queue.specs.Deeds.{did_put}
use Rattle.unbounded_cells.proofs.Absent.{none_put}
use Rattle.unbounded_cells.proofs.CallSteps.{may_there}
use Rattle.unbounded_cells.proofs.table.BlockCall.try_put.Goals as goal

pub reach_slot-requires-clause-leaves : goal.reach_slot-requires-clause-leaves
reach_slot-requires-clause-leaves g c = λ none. none_put c.args.at c.args.value none

pub reach_slot-requires-clause-next : goal.reach_slot-requires-clause-next
reach_slot-requires-clause-next g c = c.requires.next (Err c.args.value)

pub put_into-requires-clause-next : goal.put_into-requires-clause-next
put_into-requires-clause-next g c =
    let i = c.in-Some.ensures.reached in
    λ o. may_there g.P.Machine.moves _ _ i.3 c.args.at _ i.0 (λ s. did_put s c.args.value o) (c.requires.next o)
