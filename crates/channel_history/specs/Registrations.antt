-- The listeners that are on a channel's lists are those of the operations that are pending, and of the calls that poll them.
use Rattle.std.specs.Prelude.{◌≡◌, ℕ, ◌+◌, ◌≤◌, ◌⊎◌, true, false, List, [], ◌∷◌, length, Some}
use Rattle.concurrent_queue.specs.Capacity.{capacity_of}
use Rattle.concurrent_queue.specs.Contents.{Contents}
use Rattle.concurrent_queue.specs.Step.{closed_in, items_in}
use Rattle.concurrent_queue.specs.declared.cells.QueueForm.{QueueForm}
use Rattle.event_listener.specs.Lists.{kind_of}
use Rattle.event_listener.specs.declared.key.Key.{Key}
use Rattle.channel_calls.specs.Parts.{Listeners}
use Rattle.channel_calls.specs.declared.stage.ListenerRef.{ListenerRef}
use Rattle.channel_calls.specs.declared.stage.WaitList.{WaitList}
use Rattle.channel_calls.specs.declared.stage.WaitList.TheVariants.{Sends, Receives, Streams, Closings}
use Rattle.channel_steps.specs.every_run.Sends.{HasPlaces}
use Rattle.channel_steps.specs.every_run.Waits.{IsIn}
use Rattle.channel_history.specs.History.{is_listener, listeners_of, among, times, IsChannelHistory}
use Rattle.channel_history.specs.Keeps.{IsAt}
use Rattle.channel_history.specs.Says.{HistorySays, AtRest}
use Rattle.channel_history.specs.declared.party.Standing.{Standing}

module _ {T W : Type 0} where
  -- of this list, by its key
  pub record ListenerSays (views : List (Standing T W)) (line : WaitList) (key : Key) (l : Listeners W) : Type 0 where
    -- it lies with a seat as often as it is on the list, and this is once at most: no two seats have it
    pub is : among listeners_of (is_listener line key) views ≡ times key l
    pub once : times key l ≤ 1
    -- so the operation that has it was told, or waits
    pub live : (p : ℕ) (v : Standing T W) (others : List ListenerRef) → IsAt views p v → v.own.listeners ≡ record { line = line; key = key } ∷ others
        → (kind_of l key ≡ Some true) ⊎ IsIn key l.waiting

abbrev pub RegistrationsAreLive : Type 0 → Type 0 → Type 0
RegistrationsAreLive T W =
    (form : QueueForm) (views : List (Standing T W)) (cells : Contents T) (senders receivers : ℕ) (h : IsChannelHistory form views cells senders receivers)
    (line : WaitList) (key : Key) → ListenerSays views line key (h.listening line)

module _ {T W : Type 0} (form : QueueForm) (views : List (Standing T W)) (cells : Contents T) (senders receivers : ℕ) (h : IsChannelHistory form views cells senders receivers) where
  -- what those on a list wait for is not there but for those that were told: no free place, no message
  abbrev pub IsMissing : WaitList → Type 0
  IsMissing Sends = HasPlaces (capacity_of form) (length (items_in cells) + length (h.listening Sends).told)
  IsMissing Receives = length (items_in cells) ≤ length (h.listening Receives).told
  IsMissing Streams = items_in cells ≡ []
  IsMissing Closings = Unit {0}

-- if no call is under way, each operation with a listener was told, or waits in an open channel for what is missing
abbrev pub PendingWaitRightly : Type 0 → Type 0 → Type 0
PendingWaitRightly T W =
    (form : QueueForm) (views : List (Standing T W)) (cells : Contents T) (senders receivers : ℕ) (h : IsChannelHistory form views cells senders receivers)
    → HistorySays form views cells senders receivers h → AtRest form views cells senders receivers h
    → (p : ℕ) (v : Standing T W) (line : WaitList) (key : Key) (others : List ListenerRef) → IsAt views p v → v.own.listeners ≡ record { line = line; key = key } ∷ others
    → (kind_of (h.listening line) key ≡ Some true) ⊎ ((closed_in cells ≡ false) × IsMissing form views cells senders receivers h line)
