use Rattle.channel_world_runs.proofs.Words.{RanTo}
use Rattle.std.specs.VecDeque.{deque_len}
use Rattle.channel_world_runs.proofs.world_state.WorldState.run_steps.Given as goal

abbrev pub invariant-loop-step : goal.invariant-loop-step
invariant-loop-step g l =
    RanTo l.fn.steps.items l.steps.items l.fn.self l.trace.items l.self

abbrev pub decreases-loop-step : goal.decreases-loop-step
decreases-loop-step g l = deque_len l.steps
