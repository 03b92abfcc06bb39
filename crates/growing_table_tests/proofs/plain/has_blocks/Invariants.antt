use Rattle.std.proofs.Common.{◌≡◌}
use Rattle.growing_table.specs.Seats.{Sits, makes_blocks}
use Rattle.growing_table_tests.proofs.plain.has_blocks.Given as goal

abbrev pub invariant-numbers : goal.invariant-numbers
invariant-numbers l = Sits l.table l.seat × (makes_blocks l.seat ≡ makes_blocks l.initial.seat)
