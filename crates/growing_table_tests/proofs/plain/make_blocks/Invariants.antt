use Rattle.std.proofs.Common.{◌≡◌, true}
use Rattle.growing_table.specs.Seats.{Sits, makes_blocks}
use Rattle.growing_table_tests.proofs.plain.make_blocks.Given as goal

abbrev pub invariant-numbers : goal.invariant-numbers
invariant-numbers l = Sits l.table l.seat × (makes_blocks l.seat ≡ true)
