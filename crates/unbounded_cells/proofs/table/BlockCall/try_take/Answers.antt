use Rattle.std.specs.Prelude.{None}
use Rattle.concurrent_queue.specs.Deeds.{did_take}
use Rattle.unbounded_cells.proofs.CallSteps.{may_there}
use Rattle.unbounded_cells.proofs.table.BlockCall.try_take.Goals as goal

pub reach_slot-requires-clause-next : goal.reach_slot-requires-clause-next
reach_slot-requires-clause-next g c = c.requires.next None

pub take_from-requires-clause-next : goal.take_from-requires-clause-next
take_from-requires-clause-next g c =
    let i = c.in-Some.ensures.reached in
    λ o. may_there g.P.Machine.moves _ _ i.3 c.args.at _ i.0 (λ s. did_take s o) (c.requires.next o)
