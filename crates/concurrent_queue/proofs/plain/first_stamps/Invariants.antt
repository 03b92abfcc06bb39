use Rattle.std.proofs.Common.{◌≡◌}
use Rattle.concurrent_queue.specs.machine.RingMade.{numbers_below}
use Rattle.concurrent_queue.proofs.plain.first_stamps.Given as goal

abbrev pub invariant-loop-index : goal.invariant-loop-index
invariant-loop-index l = l.stamps.items ≡ numbers_below l.index
