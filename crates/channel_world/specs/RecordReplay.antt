-- A record of calls, replayed one call at a time from a channel that was just opened.
use Rattle.std.specs.Prelude.{◌≡◌, ◌+◌, ◌∷◌}
use Rattle.channel_world.specs.Words.{ℕ, List, [], length, Bool, false, Option, None, slice_get, option_map_or, refusal, Answers, State, start, Receipt}

-- a record: the capacity with which its channel was opened, and its calls
pub record RecordView (T : Type 0) : Type 0 where
  pub capacity : Option ℕ
  pub entries : List (Receipt T)

module _ {T : Type 0} where
  -- in s the call is accepted, and may answer and wake as the receipt says and leave t
  abbrev pub MadeAsSaid : State T → Receipt T → State T → Type 0
  MadeAsSaid s r t = (refusal s r.call ≡ None) × Answers s r.call (record { after = t; reply = r.reply; woken = r.woken })

  -- Made one after another from s on, they leave t. The first stands at this place, and each other at the next one.
  abbrev pub Replays : ℕ → State T → List (Receipt T) → State T → Type 0
  Replays place s [] t = t ≡ s
  Replays place s (r ∷ rs) t = (mid : State T) × (r.place ≡ place) × MadeAsSaid s r mid × Replays (place + 1) mid rs t

  -- they are all calls that were made of a channel of this capacity since it was opened
  pub record IsHistory (capacity : Option ℕ) (rs : List (Receipt T)) : Type 0 where
    -- the channel after the last of them
    pub last : State T
    pub replays : Replays 0 (start capacity) rs last

  -- It is the last call of a record that leads from an opening: it stands behind all that were made before it, and was made when they were.
  pub record EndsHistory (r : Receipt T) : Type 0 where
    pub capacity : Option ℕ
    pub before : List (Receipt T)
    pub history : IsHistory capacity before
    pub place : r.place ≡ length before
    -- the channel after it
    pub after : State T
    pub made : MadeAsSaid history.last r after

  -- whether the entry at the receipt's place equals it
  abbrev pub stands_in : (Receipt T → Receipt T → Bool) → List (Receipt T) → Receipt T → Bool
  stands_in eq rs r = option_map_or (λ (entry : Receipt T). eq entry r) (slice_get rs r.place) false
