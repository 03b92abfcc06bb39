-- A merge by names: the first sender, which is handle 0, is cloned twice at once, as handle 2 and as handle 3.
use Rattle.channel_world.specs.Words.{ℕ, List, QueueForm, Parts, Completed, just_opened, steps_of, KeepsTheHeadline, two_clones, Waiter}
use Rattle.channel_world.specs.MergesByNames.{first_name_state, BeginByNames}

-- its begins are what `MergesByNamesAreRuns` asks
abbrev pub TwoClonesByNames : (T S : Type 0) → (S → Waiter → S → Type 0) → Type 0
TwoClonesByNames T S wakes =
    (form : QueueForm) (given : ℕ → List (Completed T)) (sink : S) (last : Parts T Waiter) (woken : S)
    (k : KeepsTheHeadline wakes form two_clones given sink last woken)
    → BeginByNames wakes first_name_state (just_opened form sink) (steps_of two_clones) k.is.trace k.is.run.moments
