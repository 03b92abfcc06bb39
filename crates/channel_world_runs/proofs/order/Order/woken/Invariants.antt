use Rattle.std.specs.Prelude.{◌≡◌, ◌++◌}
use Rattle.channel_world_runs.proofs.Words.{length, marked_places}
use Rattle.channel_world_runs.proofs.order.Order.woken.Given as goal

abbrev pub invariant-loop-name : goal.invariant-loop-name
invariant-loop-name l = l.names.items ++ marked_places l.places ≡ l.self.woken

abbrev pub decreases-loop-name : goal.decreases-loop-name
decreases-loop-name l = length l.places
