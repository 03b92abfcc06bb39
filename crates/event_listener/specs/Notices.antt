-- What a notification does.
use Rattle.std.specs.Prelude.{◌≡◌, ℕ, ◌<◌, Bool, List, [], ◌∷◌, length, take, Result, Ok, Err}
use Rattle.event_listener.specs.declared.error.NoMemory.{NoMemory}
use Rattle.event_listener.specs.declared.error.NotifyError.{NotifyError}
use Rattle.event_listener.specs.Lists.{Lists, notified, tasks_of}

-- the sink was given these tasks in order, and nothing else
abbrev pub Woken : {S W : Type 0} → (S → W → S → Type 0) → S → List W → S → Type 0
Woken wakes s [] t = t ≡ s
Woken {S} wakes s (w ∷ ws) t = (m : S) × wakes s w m × Woken wakes m ws t

module _ {N T : Type 0} (gives : N → Result T NoMemory → N → Type 0) where
  -- these tags were drawn in order
  abbrev pub Draws : N → List T → N → Type 0
  Draws n [] rest = rest ≡ n
  Draws n (t ∷ ts) rest = (m : N) × gives n (Ok t) m × Draws m ts rest

  -- all were told, or the tag after those that were told was refused
  abbrev pub IsAnswer : ℕ → ℕ → N → Result ℕ NotifyError → Type 0
  IsAnswer many told rest (Ok r) = (r ≡ many) × (told ≡ many)
  IsAnswer many told rest (Err e) = (e.told ≡ told) × (told < many) × (error : NoMemory) × (after : N) × gives rest (Err error) after

  module _ {W S : Type 0} where
    -- the first waiting ones got the tags that were drawn, and were woken in order
    pub record Notifies (additional : Bool) (many : ℕ) (n : N) (old new : Lists T W) (wakes : S → W → S → Type 0) (sink now_sink : S) (result : Result ℕ NotifyError) : Type 0 where
      pub tags : List T
      pub rest : N
      pub drawn : Draws n tags rest
      pub lists : new ≡ notified additional tags old
      pub woken : Woken wakes sink (tasks_of (take (length tags) old.waiting)) now_sink
      pub answer : IsAnswer many (length tags) rest result
