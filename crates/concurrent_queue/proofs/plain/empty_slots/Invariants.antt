use Rattle.std.proofs.Common.{◌≡◌}
use Rattle.concurrent_queue.specs.machine.RingMade.{vacant_slots}
use Rattle.concurrent_queue.proofs.plain.empty_slots.Given as goal

abbrev pub invariant-loop-index : goal.invariant-loop-index
invariant-loop-index g l = l.slots.items ≡ vacant_slots l._index
