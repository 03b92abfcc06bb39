use Rattle.std.specs.Prelude.{◌≡◌}
use Rattle.concurrent_queue.specs.SharedQueue.{IsStillOf}
use Rattle.channel_calls.specs.Plain.{form_of}
use Rattle.async_channel_tests.proofs.beside.cells.Beside.all_steps.Given as goal

-- what the call may still answer it might have answered at first
abbrev pub invariant-loop : goal.invariant-loop
invariant-loop g l =
    (form_of l.self.cells.channel ≡ form_of l.initial.self.cells.channel)
    × IsStillOf (form_of l.initial.self.cells.channel) (form_of l.self.cells.channel) l.fn.call l.call
