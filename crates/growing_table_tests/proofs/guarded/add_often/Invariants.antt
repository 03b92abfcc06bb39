use Rattle.std.proofs.Common.{◌≡◌}
use Rattle.std.specs.Prelude.{None}
use Rattle.growing_table.specs.Seats.{Sits, me_of}
use Rattle.growing_table_tests.proofs.guarded.add_often.Given as goal

abbrev pub invariant-rounds : goal.invariant-rounds
invariant-rounds l = Sits l.table l.seat × ((me_of l.seat).hand ≡ None)
