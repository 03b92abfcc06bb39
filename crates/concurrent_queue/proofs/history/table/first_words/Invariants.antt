use Rattle.std.proofs.Common.{◌≡◌, ◌+◌, ◌++◌, replicate}
use Rattle.concurrent_queue.specs.machine.RingMade.{numbers_below}
use Rattle.concurrent_queue.proofs.history.table.first_words.Given as goal

abbrev pub invariant-loop-stamp : goal.invariant-loop-stamp
invariant-loop-stamp l = l.words.items ≡ replicate (l.slots + 32) 0 ++ numbers_below l.stamp
