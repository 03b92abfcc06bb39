use Rattle.std.proofs.Common.{◌≡◌, ◌≤◌, map}
use Rattle.std.specs.Prelude.{Some, vec_capacity}
use Rattle.keyed_lock.proofs.locks.at_home.Given as goal

abbrev pub invariant-loop-value : goal.invariant-loop-value
invariant-loop-value g l =
    (goal.iterator-loop-value g).can_next l.value-iterator ×
    (goal.iterator-loop-value g).is_finite l.value-iterator ×
    (l.slots.items ≡ map Some l.yielded) ×
    (g.row.N ≤ vec_capacity l.slots)
