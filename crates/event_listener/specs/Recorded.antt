-- What is done in one section on a recorded event, with its answer; and the entry that it stores.
use Rattle.std.specs.Prelude.{◌≡◌, ◌<◌, ℕ, Bool, List, length, take, Option, None, Some, Result, Ok, Err}
use Rattle.event_listener.specs.Lists.{ListView, IsAdditional, PassesOn, removed_wakes, tasks_of, told_by}
use Rattle.event_listener.specs.Notices.{Draws}
use Rattle.event_listener.specs.Replay.{RecordView, recorded, tag_found, total_of}
use Rattle.event_listener.specs.declared.calls.Registered.{Registered}
use Rattle.event_listener.specs.declared.error.ListenError.{ListenError}
use Rattle.event_listener.specs.declared.error.NoMemory.{NoMemory}
use Rattle.event_listener.specs.declared.error.NotifyError.{NotifyError}
use Rattle.event_listener.specs.declared.error.UnknownListener.{UnknownListener}
use Rattle.event_listener.specs.declared.key.Key.{Key}
use Rattle.event_listener.specs.declared.recorded.RecordedCall.{RecordedCall}
use Rattle.event_listener.specs.declared.recorded.RecordedCall.TheVariants.{Listened, Registered as Registering, Polled, Removed, Notified}
use Rattle.event_listener.specs.declared.recorded.RegisterError.{RegisterError}

-- a section and its answer; a removal and a notification also say which tasks they woke, in order, and a notification by which tags it told
pub data Section (T W : Type 0) : Type 0 where
  inserts : Result Key ListenError → Section T W
  registers : Key → W → Result (Registered T) RegisterError → Section T W
  polls : Key → Result (Option T) UnknownListener → Section T W
  removes : Key → PassesOn → List W → Result Bool UnknownListener → Section T W
  notifies : IsAdditional → ℕ → List T → List W → Result ℕ NotifyError → Section T W
  makes_room : ℕ → Result (Unit {0}) NoMemory → Section T W
  counts_told : ℕ → Section T W
  counts_all : ℕ → Section T W

module _ {T W : Type 0} where
  -- what a section stores: the entry that has its answer, or none where it changed nothing
  abbrev pub Stores : Section T W → RecordView T W → RecordView T W → Type 0
  Stores (inserts (Ok key)) before after = after ≡ recorded (Listened key) before
  Stores (inserts (Err error)) before after = after ≡ before
  Stores (registers key task (Ok answer)) before after = after ≡ recorded (Registering key task (tag_found answer)) before
  Stores (registers key task (Err error)) before after = after ≡ before
  Stores (polls key (Ok (Some tag))) before after = after ≡ recorded (Polled key tag) before
  Stores (polls key (Ok None)) before after = after ≡ before
  Stores (polls key (Err error)) before after = after ≡ before
  Stores (removes key pass_on woken (Ok told)) before after =
      (woken ≡ removed_wakes key pass_on before.lists) × (after ≡ recorded (Removed key pass_on told) before)
  Stores (removes key pass_on woken (Err error)) before after = (woken ≡ removed_wakes key pass_on before.lists) × (after ≡ before)
  Stores (notifies additional size tags woken answer) before after =
      (woken ≡ tasks_of (take (told_by answer) before.lists.waiting))
      × (0 < told_by answer → (given : _) × (given.items ≡ tags) × (after ≡ recorded (Notified size additional given answer) before))
      × (told_by answer ≡ 0 → after ≡ before)
  Stores (makes_room extra answer) before after = after ≡ before
  Stores (counts_told told) before after = (told ≡ length before.lists.told) × (after ≡ before)
  Stores (counts_all all) before after = (all ≡ total_of before.lists) × (after ≡ before)

-- these tags were drawn from the notification first, in order
abbrev pub IsDrawn : {N T : Type 0} → (N → Result T NoMemory → N → Type 0) → N → List T → Type 0
IsDrawn {N} gives notice tags = (rest : N) × Draws gives notice tags rest

-- a record came apart into a list that stands so, after so many serials, and these entries
abbrev pub ComesApart : {T W : Type 0} → RecordView T W → ListView T W → List (RecordedCall T W) → Type 0
ComesApart kept list calls = (list.lists ≡ kept.lists) × (list.serials ≡ kept.serials) × (calls ≡ kept.calls)

-- of whatever record: this section found one, and did this to it
abbrev pub OnRecord : {T W C : Type 0} → (Section T W → C → C → Type 0) → Section T W → Type 0
OnRecord {C = C} did section = (found : C) × (after : C) × did section found after
