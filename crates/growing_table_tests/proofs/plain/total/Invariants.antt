use Rattle.growing_table.specs.Seats.{Sits}
use Rattle.growing_table_tests.proofs.plain.total.Given as goal

abbrev pub invariant-numbers : goal.invariant-numbers
invariant-numbers l = Sits l.table l.seat
