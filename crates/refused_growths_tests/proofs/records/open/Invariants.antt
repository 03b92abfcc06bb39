use Rattle.std.proofs.Common.{◌≡◌}
use Rattle.refused_growths_tests.proofs.records.open.Given as goal

-- the blank is the one that was handed in
abbrev pub invariant-loop-number : goal.invariant-loop-number
invariant-loop-number g l = l.blank ≡ l.fn.first
