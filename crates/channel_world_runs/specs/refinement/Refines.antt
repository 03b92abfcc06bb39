-- When a channel at rest, with its lists of listeners, shows a state of the model.
use Rattle.std.specs.Prelude.{◌≡◌, ◌≤◌, if◌then◌else◌}
use Rattle.channel_world_runs.specs.Words.{Bool, true, false, List, Option, Some, filter, AllZip, Notice, Key, Channel, Listeners, WaitLists, listeners, WaitList as ListName, KeysHeld, Waiting, same_waiter, untold, is_line, line_at, Kind, times, times_in, State, Waiter, WaitList, Sends, Receives, Streams, Closings}

-- w holds this, and any other what it held
abbrev pub with_held : Waiter → Option Key → KeysHeld → KeysHeld
with_held w key held = λ v. if same_waiter w v then key else held v

-- the list of the channel that keeps a line
abbrev pub list_of : WaitList → ListName
list_of Sends = WaitList.Sends
list_of Receives = WaitList.Receives
list_of Streams = WaitList.Streams
list_of Closings = WaitList.Closings

-- a waiting listener is this name, which is its task too; and waiting ones are these names in order
abbrev pub ShowsUntold : KeysHeld → Key × Option Waiter → Waiter → Type 0
ShowsUntold held e w = (held w ≡ Some e.0) × (e.1 ≡ Some w)

abbrev pub AreUntold : KeysHeld → List (Key × Option Waiter) → List Waiter → Type 0
AreUntold held es ws = AllZip (ShowsUntold held) es ws

-- how those of a line are told while the channel is open: a send or a receive as one more, streams all at once, and a
-- notification of the closing not at all
abbrev pub IsToldSo : WaitList → Bool → Type 0
IsToldSo Sends additional = additional ≡ true
IsToldSo Receives additional = additional ≡ true
IsToldSo Streams additional = additional ≡ false
IsToldSo Closings additional = ⊥

-- a told listener is this name; and told ones are these names one by one, or in any order
abbrev pub ShowsTold : KeysHeld → Bool → WaitList → Key × Notice Unit → Waiter → Type 0
ShowsTold held closed line e w = (held w ≡ Some e.0) × (closed ≡ false → IsToldSo line e.1.additional)

abbrev pub AreToldInTurn : KeysHeld → Bool → WaitList → List (Key × Notice Unit) → List Waiter → Type 0
AreToldInTurn held closed line es ws = AllZip (ShowsTold held closed line) es ws

-- each name stands in both as often
abbrev pub AreSame : List Waiter → List Waiter → Type 0
AreSame vs ws = (w : Waiter) → times w vs ≡ times w ws

abbrev pub AreTold : KeysHeld → Bool → WaitList → List (Key × Notice Unit) → List Waiter → Type 0
AreTold held closed line es ws = (vs : List Waiter) × AreToldInTurn held closed line es vs × AreSame vs ws

-- those among these names who belong to the line
abbrev pub of_line : Kind → WaitList → List Waiter → List Waiter
of_line kind line ws = filter (λ w. is_line line (kind w)) ws

-- one list of listeners shows one line: its waiting ones in order, its told ones in any
pub record ShowsLine (kind : Kind) (held : KeysHeld) (closed : Bool) (line : WaitList) (l : Listeners Waiter) (waiting : Waiting)
    : Type 0 where
  pub untold : AreUntold held l.waiting (untold line waiting)
  pub told : AreTold held closed line l.told (of_line kind line waiting.woken)

-- the four lists show the four lines
abbrev pub ShowsLines : Kind → KeysHeld → Bool → WaitLists Waiter → Waiting → Type 0
ShowsLines kind held closed wait_lists waiting =
    (line : WaitList) → ShowsLine kind held closed line (listeners (list_of line) wait_lists) waiting

-- only one that waits holds a key, and no two of a line hold the same
pub record KeysFit (kind : Kind) (held : KeysHeld) (waiting : Waiting) : Type 0 where
  pub holds : (w : Waiter) (key : Key) → held w ≡ Some key → 1 ≤ times_in w waiting
  pub apart :
      (line : WaitList) (v w : Waiter) (key : Key) → kind v ≡ Some line → kind w ≡ Some line → held v ≡ Some key → held w ≡ Some key
      → v ≡ w

pub record Refines {T : Type 0} (held : KeysHeld) (c : Channel T Waiter) (s : State T) : Type 0 where
  pub messages : c.queue.items ≡ s.channel.messages
  pub closed : c.queue.closed ≡ s.channel.closed
  pub capacity : c.queue.capacity ≡ s.channel.capacity
  pub senders : c.wait_lists.senders ≡ s.channel.senders
  pub receivers : c.wait_lists.receivers ≡ s.channel.receivers
  pub lines : ShowsLines (line_at s.names) held s.channel.closed c.wait_lists s.waiting
  pub keys : KeysFit (line_at s.names) held s.waiting
