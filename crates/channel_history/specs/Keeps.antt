-- What keeps a history of a channel: a new channel has one, and whatever a party's machine does next keeps it.
use Rattle.std.specs.Prelude.{◌≡◌, ◌≢◌, ℕ, ◌+◌, ◌-◌, ◌^◌, ◌==◌, nat_lt, true, false, List, [], ◌∷◌, ◌++◌, slice_set, Option, None, Some, Ok, Err}
use mathlib.Core.Option.{some}
use lib.ListN.{get_elem?}
use Rattle.concurrent_queue.specs.Contents.{Contents}
use Rattle.concurrent_queue.specs.Deeds as cell
use Rattle.concurrent_queue.specs.Effects as cell_effect
use Rattle.concurrent_queue.specs.Made.{new_cells}
use Rattle.concurrent_queue.specs.declared.cells.QueueForm.{QueueForm}
use Rattle.event_listener.specs.Lists.{ListView, kind_of, listened, registration, removed, removed_wakes}
use Rattle.event_listener.specs.declared.error.ListenError.{ListenError}
use Rattle.event_listener.specs.declared.key.Key.{Key}
use Rattle.channel_calls.specs.Deeds.{Deed, inserted, registered, taken_off, told, counted, lowered, raised}
use Rattle.channel_calls.specs.Effects.{Does}
use Rattle.channel_calls.specs.Parts.{Parts, Listeners, listeners, with_listeners, with_wait_lists, nobody_listens, Registers, told_as, told_as_wakes}
use Rattle.channel_calls.specs.declared.ask.ChannelAsk.{ChannelAsk}
use Rattle.channel_calls.specs.declared.stage.ListenerRef.{ListenerRef}
use Rattle.channel_calls.specs.declared.stage.Side.{Side}
use Rattle.channel_calls.specs.declared.stage.Side.TheVariants.{Senders, Receivers}
use Rattle.channel_calls.specs.declared.stage.Telling.{Telling}
use Rattle.channel_calls.specs.declared.stage.WaitList.{WaitList}
use Rattle.channel_calls.specs.declared.stage.WaitList.TheVariants.{Sends, Receives, Streams, Closings}
use Rattle.channel_steps.specs.every_run.Bridge.{on_queue, on_wait_lists}
use Rattle.channel_history.specs.History.{IsChannelHistory}
use Rattle.channel_history.specs.Party.{nothing, both, fresh, with_own, Begins, Makes, Ends}
use Rattle.channel_history.specs.declared.party.Belongings.{Belongings}
use Rattle.channel_history.specs.declared.party.Standing.{Standing}

module _ {T W : Type 0} where
  -- the party of this number stands so
  abbrev pub IsAt : List (Standing T W) → ℕ → Standing T W → Type 0
  IsAt views p v = get_elem? views p ≡ some v

  -- on every channel where the list of this kind holds the one, the deed leaves the other there, and nothing else differs
  abbrev pub ChangesList : WaitList → Deed T W → Listeners W → Listeners W → Type 0
  ChangesList line d l m =
      (parts : Parts T W) → listeners line parts.wait_lists ≡ l → Does d parts (with_wait_lists (with_listeners line m parts.wait_lists) parts)

  -- on every channel with these counts the deed leaves those, and nothing else differs
  abbrev pub ChangesCounts : Deed T W → ℕ → ℕ → ℕ → ℕ → Type 0
  ChangesCounts d senders receivers senders' receivers' =
      (parts : Parts T W) → parts.wait_lists.senders ≡ senders → parts.wait_lists.receivers ≡ receivers
      → Does d parts (with_wait_lists (record parts.wait_lists { senders = senders'; receivers = receivers' }) parts)

  -- which handles a deed leaves with the seat of its party: a raise adds one, and only a party that has one may lower
  abbrev pub LeavesHandles : Deed T W → List Side → List Side → Type 0
  LeavesHandles (raised side n true) has left = left ≡ side ∷ has
  LeavesHandles (lowered side n) has left = has ≡ side ∷ left
  LeavesHandles d has left = left ≡ has

  -- and which listeners: an insertion adds one, and only the party that has it may remove it, or ask for it, which removes it if it was
  -- told
  abbrev pub LeavesListeners : Deed T W → List ListenerRef → List ListenerRef → Type 0
  LeavesListeners (inserted line (Ok key)) has left = left ≡ record { line = line; key = key } ∷ has
  LeavesListeners (registered line key task None) has left = (left ≡ has) × (others : List ListenerRef) × (has ≡ record { line = line; key = key } ∷ others)
  LeavesListeners (registered line key task (Some back)) has left = has ≡ record { line = line; key = key } ∷ left
  LeavesListeners (taken_off line key names) has left = has ≡ record { line = line; key = key } ∷ left
  LeavesListeners d has left = left ≡ has

  abbrev pub Leaves : Deed T W → Standing T W → Standing T W → Type 0
  Leaves d v w = LeavesHandles d v.own.handles w.own.handles × LeavesListeners d v.own.listeners w.own.listeners

  -- the four lists of a new channel, on which nobody listens, and its two handles lie with the first seat
  abbrev pub opening : ListView Unit W → List (Standing T W)
  opening l =
      with_own (record { lists = (Sends, l) ∷ (Receives, l) ∷ (Streams, l) ∷ (Closings, l) ∷ []; handles = Senders ∷ Receivers ∷ []; listeners = [] }) fresh ∷ []

-- a channel that was just opened, with one handle of each kind
abbrev pub OpensWell : Type 0 → Type 0 → Type 0
OpensWell T W =
    (form : QueueForm) (l : ListView Unit W) → l.lists ≡ nobody_listens → IsChannelHistory {T = T} form (opening l) (new_cells form) 1 1

module _ (T W : Type 0) where
  -- a queue's word or slot is operated on
  abbrev pub QueueOperationsKeep : Type 0
  QueueOperationsKeep =
      (form : QueueForm) (views : List (Standing T W)) (c d : Contents T) (n m p : ℕ) (v w : Standing T W) (o : cell.Deed T)
      → IsChannelHistory form views c n m → IsAt views p v → Makes form v (on_queue (Some o)) w → w.own ≡ v.own → cell_effect.Does o c d
      → IsChannelHistory form (slice_set views p w) d n m

  -- a section is made on the list that lies with the party's seat
  abbrev pub SectionsKeep : Type 0
  SectionsKeep =
      (form : QueueForm) (views : List (Standing T W)) (c : Contents T) (n m p : ℕ) (v w : Standing T W) (line : WaitList) (l k : ListView Unit W) (o : Deed T W)
      → IsChannelHistory form views c n m → IsAt views p v → Makes form v (on_wait_lists o) w → v.own.lists ≡ (line, l) ∷ [] → w.own.lists ≡ (line, k) ∷ []
      → Leaves o v w → ChangesList line o l.lists k.lists
      → IsChannelHistory form (slice_set views p w) c n m

  -- a count is operated on
  abbrev pub CountOperationsKeep : Type 0
  CountOperationsKeep =
      (form : QueueForm) (views : List (Standing T W)) (c : Contents T) (n m n' m' p : ℕ) (v w : Standing T W) (o : Deed T W)
      → IsChannelHistory form views c n m → IsAt views p v → Makes form v (on_wait_lists o) w → w.own.lists ≡ v.own.lists → Leaves o v w → ChangesCounts o n m n' m'
      → IsChannelHistory form (slice_set views p w) c n' m'

  -- a call begins, of a party that has come or of a new one; and a call ends
  abbrev pub BeginningsKeep : Type 0
  BeginningsKeep =
      (form : QueueForm) (views : List (Standing T W)) (c : Contents T) (n m p : ℕ) (v w : Standing T W) (ask : ChannelAsk T W)
      → IsChannelHistory form views c n m → IsAt views p v → Begins form v ask w → w.own ≡ v.own → IsChannelHistory form (slice_set views p w) c n m

  abbrev pub ArrivalsKeep : Type 0
  ArrivalsKeep =
      (form : QueueForm) (views : List (Standing T W)) (c : Contents T) (n m : ℕ) (w : Standing T W) (ask : ChannelAsk T W)
      → IsChannelHistory form views c n m → Begins form fresh ask w → w.own ≡ nothing → IsChannelHistory form (views ++ w ∷ []) c n m

  abbrev pub EndingsKeep : Type 0
  EndingsKeep =
      (form : QueueForm) (views : List (Standing T W)) (c : Contents T) (n m p : ℕ) (v w : Standing T W)
      → IsChannelHistory form views c n m → IsAt views p v → Ends form v w → w.own ≡ v.own → IsChannelHistory form (slice_set views p w) c n m

  -- what lies with one seat goes to another
  abbrev pub JoinsKeep : Type 0
  JoinsKeep =
      (form : QueueForm) (views : List (Standing T W)) (c : Contents T) (n m p q : ℕ) (v w : Standing T W)
      → IsChannelHistory form views c n m → IsAt views p v → IsAt views q w → q ≢ p
      → IsChannelHistory form (slice_set (slice_set views p (with_own (both v.own w.own) v)) q (with_own nothing w)) c n m

  -- some of what lies with a seat goes to a new one
  abbrev pub SplitsKeep : Type 0
  SplitsKeep =
      (form : QueueForm) (views : List (Standing T W)) (c : Contents T) (n m p : ℕ) (v : Standing T W) (stays goes : Belongings W)
      → IsChannelHistory form views c n m → IsAt views p v → v.own ≡ both stays goes
      → IsChannelHistory form (slice_set views p (with_own stays v) ++ with_own goes fresh ∷ []) c n m

-- what each section and each operation on a count does, as the laws above ask it
pub record DeedsDo (T W : Type 0) : Type 0 where
  pub inserts : (line : WaitList) (l : Listeners W) (key : Key) → kind_of l key ≡ None → ChangesList {T = T} line (inserted line (Ok key)) l (listened key l)
  pub refuses : (line : WaitList) (l : Listeners W) (e : ListenError) → ChangesList {T = T} line (inserted line (Err e)) l l
  pub registers : (line : WaitList) (l : Listeners W) (key : Key) (task : W) (r : Option W) → Registers l key task r
      → ChangesList {T = T} line (registered line key task r) l (registration key task l)
  pub removes : (line : WaitList) (l : Listeners W) (key : Key) → ChangesList {T = T} line (taken_off line key (removed_wakes key true l)) l (removed key true l)
  pub tells : (line : WaitList) (l : Listeners W) (telling : Telling) → ChangesList {T = T} line (told line telling (told_as_wakes telling l)) l (told_as telling l)
  pub reads : (n m : ℕ) → ChangesCounts {T = T} {W = W} (counted Senders n) n m n m × ChangesCounts {T = T} {W = W} (counted Receivers m) n m n m
  pub lowers : (n m : ℕ) → ChangesCounts {T = T} {W = W} (lowered Senders n) n m (n - 1) m × ChangesCounts {T = T} {W = W} (lowered Receivers m) n m n (m - 1)
  pub raises : (n m : ℕ) → nat_lt n (2 ^ 64 - 1) ≡ true → ChangesCounts {T = T} {W = W} (raised Senders n true) n m (n + 1) m
  pub raises_other : (n m : ℕ) → nat_lt m (2 ^ 64 - 1) ≡ true → ChangesCounts {T = T} {W = W} (raised Receivers m true) n m n (m + 1)
  pub finds_another : (n m k : ℕ) → ((n == k) ≡ false → ChangesCounts {T = T} {W = W} (raised Senders k false) n m n m) × ((m == k) ≡ false → ChangesCounts {T = T} {W = W} (raised Receivers k false) n m n m)
