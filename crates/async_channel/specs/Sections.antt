-- What is done in one section on a list of listeners, with its answer; and what is known of a deed on the cells that threads share: that
-- a section did it to some list, the one that it found when it had the lock.
use Rattle.std.specs.Prelude.{◌≡◌, true, List, Option, Result, Ok, Err}
use Rattle.event_listener.specs.Lists.{ListView, listened, registration, removed, removed_wakes}
use Rattle.event_listener.specs.declared.error.ListenError.{ListenError}
use Rattle.event_listener.specs.declared.key.Key.{Key}
use Rattle.event_listener.specs.declared.waking.Task.{Task}
use Rattle.channel_calls.specs.Deeds.{Deed, inserted, registered, taken_off, told}
use Rattle.channel_calls.specs.declared.stage.Telling.{Telling}
use Rattle.channel_calls.specs.Parts.{Listeners, Registers, told_as, told_as_wakes}

-- a removal and a notification answer which tasks they woke, in order
pub data Section : Type 0 where
  inserts : Result Key ListenError → Section
  registers : Key → Task → Option Task → Section
  removes : Key → List Task → Section
  tells : Telling → List Task → Section

-- of a list whose told and waiting listeners are known
abbrev pub Sets : Section → Listeners Task → Listeners Task → Type 0
Sets (inserts (Ok key)) before after = after ≡ listened key before
Sets (inserts (Err e)) before after = after ≡ before
Sets (registers key task r) before after = Registers before key task r × (after ≡ registration key task before)
Sets (removes key names) before after = (names ≡ removed_wakes key true before) × (after ≡ removed key true before)
Sets (tells telling names) before after = (names ≡ told_as_wakes telling before) × (after ≡ told_as telling before)

-- the same of a list with its numbers
abbrev pub OnList : Section → ListView Unit Task → ListView Unit Task → Type 0
OnList section before after = Sets section before.lists after.lists

module _ {L : Type 0} (did : Section → L → L → Type 0) where
  -- of whatever lists: this section found one, and did this to it
  abbrev pub OnSome : Section → Type 0
  OnSome section = (found after : L) × did section found after

  abbrev pub Answers : {T : Type 0} → Deed T Task → Type 0
  Answers (inserted line r) = OnSome (inserts r)
  Answers (registered line key task r) = OnSome (registers key task r)
  Answers (taken_off line key names) = OnSome (removes key names)
  Answers (told line telling names) = OnSome (tells telling names)
  Answers _ = Unit {0}
