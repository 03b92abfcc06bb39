use Rattle.std.proofs.Common.{◌≡◌}
use Rattle.std.specs.Prelude.{None}
use Rattle.growing_table.specs.Seats.{Sits, me_of}
use Rattle.growing_table_tests.proofs.guarded.total.Given as goal

abbrev pub invariant-numbers : goal.invariant-numbers
invariant-numbers l = Sits l.table l.seat × ((me_of l.seat).hand ≡ None)
