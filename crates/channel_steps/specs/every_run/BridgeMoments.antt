-- The moments of what parties do to a channel: one before each step, and one after the last.
use Rattle.std.specs.Prelude.{◌≡◌, ℕ, suc, ◌≤◌, ◌==◌, ◌&&◌, if◌then◌else◌, is_none, List, [], ◌∷◌, slice_get, Some}
use Rattle.std.specs.List.{remove}
use Rattle.channel_steps.specs.Left.{all_left, left_at, most_left}
use Rattle.channel_steps.specs.Configuration.{ActiveCall, OthersQuiet, wanted_at}
use Rattle.channel_steps.specs.declared.party.Entry.{Entry}
use Rattle.channel_steps.specs.declared.run.Step.{Step}
use Rattle.channel_steps.specs.declared.run.Step.TheVariants as step
use Rattle.channel_steps.specs.every_run.Bridge.{MergeMoment}

module _ {T W : Type 0} where
  -- how many of the next steps are this party's, one after another, with no reply among them
  abbrev pub steps_in_a_row : ℕ → List (Step T W) → List (Entry T) → ℕ
  steps_in_a_row p (step.Step q ∷ xs) (e ∷ es) = if (q == p) && is_none e.reply then suc (steps_in_a_row p xs es) else 0
  steps_in_a_row p xs es = 0

module _ {T W S : Type 0} where
  -- the steps that are left to the k-th call under way, if the others are quiet
  abbrev pub left_to : ℕ → MergeMoment T W S → ℕ
  left_to k m = left_at k (all_left m.parts m.parties)

  -- which are few, by how many messages a receive of several may take
  abbrev pub FewStepsLeft : MergeMoment T W S → Type 0
  FewStepsLeft m = (k : ℕ) → left_to k m ≤ most_left (wanted_at k m.configuration.under_way)

  -- the calls under way other than the k-th one are quiet
  abbrev pub OthersQuietAt : ℕ → MergeMoment T W S → Type 0
  OthersQuietAt k m = OthersQuiet m.configuration.now (remove m.configuration.under_way k)

  -- ---- steps in a row

  -- if the others of a call are quiet, it makes no more steps than it has left before it ends, if its are the next
  abbrev pub RowIsShort : MergeMoment T W S → List (Step T W) → List (Entry T) → Type 0
  RowIsShort m xs es =
      (k : ℕ) (u : ActiveCall T W) → slice_get m.configuration.under_way k ≡ Some u → OthersQuietAt k m → steps_in_a_row u.party xs es ≤ most_left (wanted_at k m.configuration.under_way)

  -- so it is from each moment on
  abbrev pub MergeEndsInARow : MergeMoment T W S → List (Step T W) → List (Entry T) → List (MergeMoment T W S) → Type 0
  MergeEndsInARow m [] [] [] = Unit {0}
  MergeEndsInARow m (x ∷ xs) (e ∷ es) (n ∷ ns) = RowIsShort m (x ∷ xs) (e ∷ es) × MergeEndsInARow n xs es ns
  MergeEndsInARow m _ _ _ = ⊥
