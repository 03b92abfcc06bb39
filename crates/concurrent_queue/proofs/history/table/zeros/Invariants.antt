use Rattle.std.proofs.Common.{◌≡◌, replicate}
use Rattle.concurrent_queue.proofs.history.table.zeros.Given as goal

abbrev pub invariant-loop-place : goal.invariant-loop-place
invariant-loop-place l = l.words.items ≡ replicate l.place 0
