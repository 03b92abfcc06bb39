use Rattle.std.specs.Prelude.{◌≡◌, ◌+◌}
use Rattle.channel_world.proofs.Words.{drop, takings_of}
use Rattle.channel_world.proofs.world.World.taken.Given as goal

abbrev pub invariant-loop-k : goal.invariant-loop-k
invariant-loop-k g l = l.taken + takings_of (drop l.k l.calls.items) ≡ takings_of l.calls.items
