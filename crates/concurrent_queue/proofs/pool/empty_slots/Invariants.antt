use Rattle.std.proofs.Common.{◌≡◌, ◌≤◌, ◌-◌, vec_capacity, vec_len}
use Rattle.concurrent_queue.proofs.Slots.{empties}
use Rattle.concurrent_queue.proofs.pool.empty_slots.Given as goal

abbrev pub invariant-loop-slots : goal.invariant-loop-slots
invariant-loop-slots g l = (l.slots.items ≡ empties (vec_len l.slots)) × (vec_len l.slots ≤ 31) × (31 ≤ vec_capacity l.slots)

abbrev pub decreases-loop-slots : goal.decreases-loop-slots
decreases-loop-slots g l = 31 - vec_len l.slots
