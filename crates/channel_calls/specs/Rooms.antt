-- The room of a channel's lists: how many listeners each takes with no more memory; and what each deed does to it.
use Rattle.std.specs.Prelude.{◌≡◌, ◌≤◌, ℕ, ◌+◌, Ok, Err}
use Rattle.event_listener.specs.Runs.{room_polled, room_removed}
use Rattle.event_listener.specs.declared.error.ListenError.TheVariants.{NoMemory, SerialsUsedUp}
use Rattle.channel_calls.specs.Deeds.{Deed, inserted, registered, taken_off}
use Rattle.channel_calls.specs.Parts.{WaitLists, listeners}
use Rattle.channel_calls.specs.declared.stage.WaitList.{WaitList}
use Rattle.channel_calls.specs.declared.stage.WaitList.TheVariants.{Sends, Receives, Streams, Closings}

-- of each list
pub record Rooms : Type 0 where
  pub sends : ℕ
  pub receives : ℕ
  pub streams : ℕ
  pub closings : ℕ

abbrev pub room_on : WaitList → Rooms → ℕ
room_on Sends m = m.sends
room_on Receives m = m.receives
room_on Streams m = m.streams
room_on Closings m = m.closings

abbrev pub with_room : WaitList → ℕ → Rooms → Rooms
with_room Sends n m = record m { sends = n }
with_room Receives n m = record m { receives = n }
with_room Streams n m = record m { streams = n }
with_room Closings n m = record m { closings = n }

-- the room of no other list differs
abbrev pub OnRoom : WaitList → Rooms → Rooms → Type 0
OnRoom line m n = n ≡ with_room line (room_on line n) m

module _ {T W : Type 0} where
  -- A listener that comes takes one place at most. It is refused memory only where its list had no room. One that leaves makes room
  -- for one more on its list. No other deed changes the room.
  abbrev pub KeepsRoom : Deed T W → WaitLists W → Rooms → Rooms → Type 0
  KeepsRoom (inserted line (Ok key)) a m n = OnRoom line m n × (room_on line m ≤ room_on line n + 1)
  KeepsRoom (inserted line (Err NoMemory)) a m n = OnRoom line m n × (room_on line m ≡ 0)
  KeepsRoom (inserted line (Err SerialsUsedUp)) a m n = OnRoom line m n × (room_on line m ≤ room_on line n)
  KeepsRoom (registered line key task r) a m n = n ≡ with_room line (room_polled (listeners line a) key (room_on line m)) m
  KeepsRoom (taken_off line key names) a m n = n ≡ with_room line (room_removed (listeners line a) key (room_on line m)) m
  KeepsRoom _ a m n = n ≡ m
