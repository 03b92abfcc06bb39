use Rattle.std.proofs.Common.{◌≡◌, ◌++◌, drop, length}
use Rattle.concurrent_queue.proofs.Slots.{empties}
use Rattle.concurrent_queue.proofs.pool.clear_slots.Given as goal

abbrev pub invariant-loop-i : goal.invariant-loop-i
invariant-loop-i g l = (l.slots.items ≡ empties l.i ++ drop l.i l.initial.slots.items) × (length l.slots.items ≡ 31)
