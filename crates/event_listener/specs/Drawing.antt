-- The tags that a notification is asked for before anybody is told.
use Rattle.std.specs.Prelude.{◌≡◌, ◌<◌, ◌⊎◌, ℕ, List, length, Result, Err}
use Rattle.event_listener.specs.declared.error.NoMemory.{NoMemory}
use Rattle.event_listener.specs.declared.error.NotifyError.{NotifyError}
use Rattle.event_listener.specs.Notices.{Draws}
use Rattle.event_listener.specs.Telling.{Tells}

module _ {N T : Type 0} (gives : N → Result T NoMemory → N → Type 0) where
  -- after these tags there are as many as are wanted, or the next one was refused
  abbrev pub IsAll : ℕ → ℕ → N → Type 0
  IsAll many drawn rest = (drawn ≡ many) ⊎ ((drawn < many) × (error : NoMemory) × (after : N) × gives rest (Err error) after)

  -- these were drawn first, in order: as many as are wanted, or those before one that was refused
  pub record DrawsFirst (many : ℕ) (notice : N) (tags : List T) : Type 0 where
    pub rest : N
    pub drawn : Draws gives notice tags rest
    pub all : IsAll many (length tags) rest

  -- It told as a notification tells; or nobody, where the record or its tags got no room.
  abbrev pub TellsOrNone : (N → ℕ) → N → Result ℕ NotifyError → Type 0
  TellsOrNone size notice result = Tells size gives notice result ⊎ (result ≡ Err (record { told = 0 }))
