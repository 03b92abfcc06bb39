use Rattle.std.proofs.Common.{arith}
use Rattle.concurrent_queue.proofs.FitsFacts.{new_one_slot, new_ring}
use Rattle.concurrent_queue.proofs.plain.PlainCells.bounded.Goals as goal

pub returns-then-capacity-eq1 : goal.returns-then-capacity-eq1
returns-then-capacity-eq1 g c = new_one_slot _ c.args.capacity c.if-capacity-eq1.true c.one_slot.result c.one_slot.ensures

pub returns : goal.returns
returns g c =
    new_ring _ c.args.capacity (omega (arith, c.requires, c.if-capacity-eq1.false)) (omega (arith, c.if-capacity-gt-GREATEST.false)) c.ring.result c.ring.ensures
