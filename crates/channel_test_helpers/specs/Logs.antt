-- What a log says of a deed on a channel.
use Rattle.std.specs.Prelude.{◌≡◌, ◌⊎◌, ℕ, false, [], ◌∷◌, ◌++◌}
use Rattle.event_listener.specs.declared.waking.Task.{Task}
use Rattle.concurrent_queue.specs.Deeds as cell
use Rattle.channel_calls.specs.Deeds.{Deed, stepped, inserted, registered, taken_off, told, counted, lowered, raised}
use Rattle.channel_test_helpers.specs.declared.log.Did.{Did}
use Rattle.channel_test_helpers.specs.declared.log.Did.TheVariants as did
use Rattle.channel_test_helpers.specs.declared.log.Log.{Log}

-- a log that has all its lines had them all before, and has this one more
abbrev pub Notes : Did → Log → Log → Type 0
Notes it a b = b.is_short ≡ false → (a.is_short ≡ false) × (b.lines.items ≡ a.lines.items ++ it ∷ [])

module _ {T W : Type 0} where
  -- the line of a deed
  abbrev pub line_of : Deed T W → Did
  line_of (stepped call after answer) = did.Operated
  line_of (inserted line answer) = did.Inserted line
  line_of (registered line key task answer) = did.Registered line
  line_of (taken_off line key names) = did.TakenOff line
  line_of (told line telling names) = did.Told line telling
  line_of (counted side found) = did.Counted side
  line_of (lowered side found) = did.Lowered side
  line_of (raised side from done) = did.Raised side done

-- of a channel of numbers
abbrev pub Logs : Deed ℕ Task → Log → Log → Type 0
Logs d a b = Notes (line_of d) a b

-- an operation on its queue's cells is a line, or belongs to the last one
abbrev pub Operated : Log → Log → Type 0
Operated a b = (b ≡ a) ⊎ Notes did.Operated a b

abbrev pub Operates : cell.Deed ℕ → Log → Log → Type 0
Operates d a b = Operated a b

-- the beginning of a call is no line
abbrev pub Enters : ℕ → Log → Log → Type 0
Enters seal a b = b ≡ a
