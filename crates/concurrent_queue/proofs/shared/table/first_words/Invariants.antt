use Rattle.std.proofs.Common.{◌≡◌, ◌<◌, ℕ, length, slice_index_or}
use Rattle.concurrent_queue.proofs.shared.table.first_words.Given as goal

abbrev pub invariant-loop-place : goal.invariant-loop-place
invariant-loop-place l = (length l.first.items ≡ l.place) × ((k : ℕ) → k < l.slots → slice_index_or l.first.items k 0 ≡ 0)
