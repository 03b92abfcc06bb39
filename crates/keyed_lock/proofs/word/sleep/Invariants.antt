use Rattle.std.proofs.Common.{◌≡◌}
use Rattle.keyed_lock.specs.Locked.{waits}
use Rattle.keyed_lock.proofs.word.sleep.Given as goal

abbrev pub invariant-loop : goal.invariant-loop
invariant-loop g l = (l.seat.table_id ≡ l.fn.locks.table_id) × (l.seat.me ≡ waits l.fn.locks.key)
