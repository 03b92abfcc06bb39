use Rattle.std.proofs.Common.{◌≡◌, ◌≤◌, ◌+◌}
use Rattle.channel_world_tests.proofs.recorded.uses.work.Given as goal

-- what was counted, so far
abbrev pub invariant-loop-i : goal.invariant-loop-i
invariant-loop-i g l = (l.seat.calls ≡ l.fn.seat.calls + l.made) × (l.made ≤ l._i)
