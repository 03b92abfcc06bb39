-- What is known of a notification that tells listeners among other threads.
use Rattle.std.specs.Prelude.{ℕ, ◌≤◌, List, length, Result}
use Rattle.event_listener.specs.declared.error.NoMemory.{NoMemory}
use Rattle.event_listener.specs.declared.error.NotifyError.{NotifyError}
use Rattle.event_listener.specs.Notices.{Draws, IsAnswer}

module _ {N T : Type 0} where
  -- It told no more than it is for, each with the next of its tags. Where it was refused, the tag was that of the
  -- listener after those that were told.
  pub record Tells (size : N → ℕ) (gives : N → Result T NoMemory → N → Type 0) (notice : N) (result : Result ℕ NotifyError) : Type 0 where
    pub many : ℕ
    pub at_most : many ≤ size notice
    pub tags : List T
    pub rest : N
    pub drawn : Draws gives notice tags rest
    pub answer : IsAnswer gives many (length tags) rest result

  -- the same, and a section was made in which it told them by these tags
  abbrev pub TellsIn : (N → ℕ) → (N → Result T NoMemory → N → Type 0) → N → Result ℕ NotifyError → (List T → Type 0) → Type 0
  TellsIn size gives notice result Made = (told : Tells size gives notice result) × Made told.tags
