-- What is done in one section on the list of an event, with its answer; and what is known of a call among other threads: that a section
-- did it to some list, the one that it found when it had the lock.
use Rattle.std.specs.Prelude.{◌≡◌, ◌+◌, ◌<◌, ℕ, Bool, false, List, length, Option, None, Some, is_some, Result, Ok, Err}
use Rattle.std.specs.Arc.{arc_value}
use Rattle.std.specs.declared.time.Duration.{Duration}
use Rattle.futures.specs.declared.task.waker.Waker.{Waker}
use Rattle.event_listener.specs.Lists.{ListView, IsAdditional, PassesOn, told_as, register_answer, poll_answer, remove_answer, moved, tag_told}
use Rattle.event_listener.specs.Runs.{Inserts, Registers, Polls, Removes, Notifies}
use Rattle.event_listener.specs.declared.calls.Registered.{Registered}
use Rattle.event_listener.specs.declared.calls.Registered.TheVariants as registered
use Rattle.event_listener.specs.declared.error.ListenError.{ListenError}
use Rattle.event_listener.specs.declared.error.NotifyError.{NotifyError}
use Rattle.event_listener.specs.declared.error.UnknownListener.{UnknownListener}
use Rattle.event_listener.specs.declared.key.Key.{Key}
use Rattle.event_listener.specs.declared.run.ListReply.TheVariants as reply
use Rattle.event_listener.specs.declared.parker.Parker.{Parker}
use Rattle.event_listener.specs.declared.waking.Task.{Task}
use Rattle.event_listener.specs.declared.waking.Task.TheVariants.{Polled, Parked}
use Rattle.event_listener.specs.declared.waking.WakerCell.{WakerCell}

-- the name of a cell, which no other cell has
abbrev pub cell_of : WakerCell → ℕ
cell_of cell = cell.source.id

-- the name of a parker, which no other parker has
abbrev pub parker_of : Parker → ℕ
parker_of parker = parker.seal.id

-- this task is the one whose waker lies in this cell
abbrev pub WakesCell : ℕ → Task → Type 0
WakesCell cell (Polled found) = cell_of (arc_value found) ≡ cell
WakesCell cell (Parked found) = ⊥

-- this task is the thread that sleeps on this parker
abbrev pub WakesParker : ℕ → Task → Type 0
WakesParker parker (Polled found) = ⊥
WakesParker parker (Parked found) = parker_of (arc_value found) ≡ parker

-- the tag that a registration gives
abbrev pub tag_given : {T : Type 0} → Result (Registered T) UnknownListener → Option T
tag_given (Ok (registered.Told tag)) = Some tag
tag_given (Ok registered.Waiting) = None
tag_given (Err error) = None

-- A section and its answer. A listener is added with the task of a cell. A poll looks at a listener, and keeps its waker in the cell where
-- the listener waits. A thread that waits registers with its parker, and looks again once it has slept on it. A timed wait leaves with the
-- tag of a told listener. A notification has a kind and a number, and told so many by these tags.
pub data Section (T : Type 0) : Type 0 where
  listens : ℕ → Result Key ListenError → Section T
  polls : Key → ℕ → Waker → Option T → Section T
  arms : Key → ℕ → Option T → Section T
  parks : Key → ℕ → Option T → Section T
  looks : Key → ℕ → Option T → Section T
  leaves : Key → Duration → Option T → Section T
  removes : Key → PassesOn → Bool → Section T
  notifies : IsAdditional → ℕ → List T → Result ℕ NotifyError → Section T
  counts_told : ℕ → Section T
  counts_all : ℕ → Section T

-- A call of `List` with its answer: an insertion, a registration, a poll, a removal, or a notification with the tags that it gave.
pub data Call (T : Type 0) : Type 0 where
  inserts : Result Key ListenError → Call T
  registers : Key → Task → Result (Registered T) UnknownListener → Call T
  asks : Key → Result (Option T) UnknownListener → Call T
  takes_off : Key → PassesOn → Result Bool UnknownListener → Call T
  tells : IsAdditional → ℕ → List T → Result ℕ NotifyError → Call T

-- of a sink that wakes at once nothing is said
abbrev pub wakes_at_once : Unit {0} → Task → Unit {0} → Type 0
wakes_at_once before task after = Unit {0}

-- a notification that was to tell so many told these, or as many as it had tags for
abbrev pub Tells : {T : Type 0} → ℕ → List T → Result ℕ NotifyError → Type 0
Tells many tags (Ok told) = (told ≡ many) × (length tags ≡ many)
Tells many tags (Err error) = (error.told ≡ length tags) × (length tags < many)

module _ {T : Type 0} where
  -- the call led from the one list to the other, as a run of calls says it of each
  abbrev pub Makes : Call T → ListView T Task → ListView T Task → Type 0
  Makes (inserts result) before after = Inserts before after result
  Makes (registers key task answer) before after = Registers wakes_at_once (Some key) task (reply.Register answer) before tt after tt
  Makes (asks key answer) before after = Polls wakes_at_once (Some key) (reply.Poll answer) before tt after tt
  Makes (takes_off key pass_on answer) before after = Removes wakes_at_once (Some key) pass_on (reply.Remove answer) before tt after tt
  Makes (tells additional size tags answer) before after = Notifies wakes_at_once size additional tags (reply.Notify answer) before tt after tt

  -- a poll took a told listener off and gave its tag
  abbrev pub Looks : Key → Option T → ListView T Task → ListView T Task → Type 0
  Looks key tag before after = (tag ≡ tag_told key before.lists) × Makes (asks key (poll_answer key before.lists)) before after

  -- what a section does to a list: calls of `List`, whose answers give its own
  abbrev pub OnList : Section T → ListView T Task → ListView T Task → Type 0
  OnList (listens cell (Ok key)) before after =
      (between : ListView T Task) × (task : Task) × Makes (inserts (Ok key)) before between × WakesCell cell task
      × Makes (registers key task (register_answer key between.lists)) between after
  OnList (listens cell (Err error)) before after = Makes (inserts (Err error)) before after
  OnList (polls key cell waker tag) before after = Looks key tag before after
  OnList (arms key cell tag) before after = Looks key tag before after
  OnList (parks key parker tag) before after =
      (tag ≡ tag_given (register_answer key before.lists)) × (task : Task) × WakesParker parker task × Makes (registers key task (register_answer key before.lists)) before after
  OnList (looks key parker tag) before after = Looks key tag before after
  OnList (leaves key timeout tag) before after = (tag ≡ tag_told key before.lists) × Makes (takes_off key false (remove_answer key before.lists)) before after
  OnList (removes key pass_on told) before after =
      (told ≡ is_some (told_as before.lists key)) × Makes (takes_off key pass_on (remove_answer key before.lists)) before after
  OnList (notifies additional size tags result) before after =
      Tells (moved additional size before.lists) tags result × Makes (tells additional size tags result) before after
  OnList (counts_told told) before after = (told ≡ length before.lists.told) × (after ≡ before)
  OnList (counts_all all) before after = (all ≡ length before.lists.told + length before.lists.waiting) × (after ≡ before)

module _ {T L : Type 0} (did : ℕ → Section T → L → L → Type 0) where
  -- of whatever lists: this section found the list with this seal, and did this to it
  abbrev pub OnSome : ℕ → Section T → Type 0
  OnSome list section = (found : L) × (after : L) × did list section found after

  -- the same of the list that was seen in the lock of an event
  abbrev pub OnEvents : (ℕ → ℕ → Type 0) → ℕ → Section T → Type 0
  OnEvents holds event section = (list : ℕ) × holds event list × OnSome list section
