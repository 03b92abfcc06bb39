use Rattle.growing_table.specs.Seats.{Sits}
use Rattle.growing_table_tests.proofs.plain.follow.Given as goal

abbrev pub invariant-rounds : goal.invariant-rounds
invariant-rounds l = Sits l.table l.seat
