-- What it is to have been shown a thing, by what each kind of trace says of its own.
use Rattle.std.specs.Prelude.{ℕ, Option, List}
use Rattle.channel_calls.specs.Deeds.{Deed, inserted, registered, taken_off, told, counted, lowered, raised}
use Rattle.channel_calls.specs.declared.stage.WaitList.{WaitList}
use Rattle.event_listener.specs.declared.key.Key.{Key}
use Rattle.event_listener.specs.declared.waking.Task.{Task}
use Rattle.async_channel.specs.declared.seen.Shown.{Shown}
use Rattle.async_channel.specs.declared.seen.Shown.TheVariants.{Enters, Inserted, Offers, Registered, TakenOff, Told, Counted, Lowered, Raised, Parked, Slept}

module _ {T X : Type 0} (entered : ℕ → X → X → Type 0) (shown : Deed T Task → X → X → Type 0) (offering : WaitList → Key → Task → X → X → Type 0) (parked : Option Task → X → X → Type 0) (slept : X → X → Type 0) where
  -- this was seen between the two
  abbrev pub Sees : Shown → X → X → Type 0
  Sees (Enters seal) a b = entered seal.now.id a b
  Sees (Inserted line answer) a b = shown (inserted line answer) a b
  Sees (Offers line key task) a b = offering line key task.now a b
  Sees (Registered line key answer) a b = (before : X) (task : Task) → offering line key task before a → shown (registered line key task answer.now) before b
  Sees (TakenOff line key) a b = (names : List Task) → shown (taken_off line key names) a b
  Sees (Told line telling) a b = (names : List Task) → shown (told line telling names) a b
  Sees (Counted side found) a b = shown (counted side found) a b
  Sees (Lowered side found) a b = shown (lowered side found) a b
  Sees (Raised side from done) a b = shown (raised side from done) a b
  Sees (Parked answer) a b = parked answer.now a b
  Sees Slept a b = slept a b
