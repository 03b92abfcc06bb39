-- What the calls of an event say of the sections that they made. If nobody has listened on it yet, it has no list, and there is none.
use Rattle.std.specs.Prelude.{◌≡◌, ◌⊎◌, ℕ, Bool, List, length, Result, Ok}
use Rattle.event_listener.specs.declared.error.NoMemory.{NoMemory}
use Rattle.event_listener.specs.declared.error.NotifyError.{NotifyError}
use Rattle.event_listener.specs.Sections.{Section, OnEvents, notifies}
use Rattle.event_listener.specs.Telling.{TellsIn}

module _ {T L : Type 0} (did : ℕ → Section T → L → L → Type 0) (holds : ℕ → ℕ → Type 0) (lacks : ℕ → Type 0) (lock : ℕ) where
  -- a section on its list counted so many; or it had none
  abbrev pub CountsEvent : (ℕ → Section T) → (ℕ → Type 0) → Type 0
  CountsEvent counts Answers = ((count : ℕ) × Answers count × OnEvents did holds lock (counts count)) ⊎ (lacks lock × Answers 0)

module _ {L : Type 0} (did : ℕ → Section Unit → L → L → Type 0) (holds : ℕ → ℕ → Type 0) (lacks : ℕ → Type 0) (lock : ℕ) where
  -- a section on its list told so many of those that wait there; or it had none
  abbrev pub TellsEvent : Bool → ℕ → ℕ → Type 0
  TellsEvent additional count told =
      ((tags : List Unit) × (length tags ≡ told) × OnEvents did holds lock (notifies additional count tags (Ok told))) ⊎ (lacks lock × (told ≡ 0))

module _ {N T L : Type 0} (size : N → ℕ) (additional : N → Bool) (gives : N → Result T NoMemory → N → Type 0)
    (did : ℕ → Section T → L → L → Type 0) (holds : ℕ → ℕ → Type 0) (lacks : ℕ → Type 0) (lock : ℕ) where
  -- in a section on its list the notification told these, by the tags that it gave; or it had none, and no tag was drawn
  abbrev pub NotifiesEvent : N → Result ℕ NotifyError → Type 0
  NotifiesEvent notice result =
      TellsIn size gives notice result (λ tags. OnEvents did holds lock (notifies (additional notice) (size notice) tags result)) ⊎ (lacks lock × (result ≡ Ok 0))
