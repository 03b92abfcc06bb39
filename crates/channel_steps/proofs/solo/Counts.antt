-- Counting the messages of a channel that holds one at most.
use Rattle.channel_steps.proofs.solo.Words.{◌≡◌, ℕ, ◌+◌, ◌≤◌, arith, Mark, counted, brought_in, taken_out}
use Rattle.channel_calls.specs.declared.mark.Mark.TheVariants as mark

-- where there is one at most after a step, its mark counts it
pub counted_few : (n k : ℕ) (m : Mark) → k + taken_out m ≡ n + brought_in m → k ≤ 1 → counted n m ≡ k
counted_few n k mark.Append moved few = omega (arith, moved, few)
counted_few n k m moved few = omega (arith, moved, few)
