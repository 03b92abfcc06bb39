-- One history of a channel that threads share, as the views of their seats tell it. It speaks of no table and of no lock.
use Rattle.std.specs.Prelude.{◌≡◌, ℕ, ◌+◌, ◌≤◌, ◌&&◌, Bool, true, false, List, [], ◌∷◌, ◌++◌}
use Rattle.concurrent_queue.specs.Contents.{Contents}
use Rattle.concurrent_queue.specs.declared.cells.QueueForm.{QueueForm}
use Rattle.concurrent_queue.specs.machine.Places.{Each}
use Rattle.event_listener.specs.Lists.{ListView, same_key}
use Rattle.event_listener.specs.declared.key.Key.{Key}
use Rattle.channel_calls.specs.Parts.{Parts, Listeners}
use Rattle.channel_calls.specs.declared.stage.ListenerRef.{ListenerRef}
use Rattle.channel_calls.specs.declared.stage.Side.{Side}
use Rattle.channel_calls.specs.declared.stage.Side.TheVariants.{Senders, Receivers}
use Rattle.channel_calls.specs.declared.stage.WaitList.{WaitList}
use Rattle.channel_calls.specs.declared.stage.WaitList.TheVariants.{Sends, Receives, Streams, Closings}
use Rattle.channel_steps.specs.every_run.Closed.{one_if}
use Rattle.channel_steps.specs.every_run.Bridge.{Happening, own, opened_parts, InOneOrder}
use Rattle.channel_history.specs.Party.{fresh, standing_of, Leads}
use Rattle.channel_history.specs.declared.party.Belongings.{Belongings}
use Rattle.channel_history.specs.declared.party.Standing.{Standing}

-- the sink is the list of all that were woken, in order
abbrev pub appends : {W : Type 0} → List W → W → List W → Type 0
appends before w now = now ≡ before ++ w ∷ []

abbrev pub is_line : WaitList → WaitList → Bool
is_line Sends Sends = true
is_line Receives Receives = true
is_line Streams Streams = true
is_line Closings Closings = true
is_line x y = false

abbrev pub is_side : Side → Side → Bool
is_side Senders Senders = true
is_side Receivers Receivers = true
is_side x y = false

-- of two counts, that of this side
abbrev pub count_of : Side → ℕ → ℕ → ℕ
count_of Senders senders receivers = senders
count_of Receivers senders receivers = receivers

-- what these come to together, each of which is weighed so
abbrev pub total : {X : Type 0} → (X → ℕ) → List X → ℕ
total weigh [] = 0
total weigh (x ∷ xs) = weigh x + total weigh xs

abbrev pub is_key : {X : Type 0} → Key → Key × X → ℕ
is_key key e = one_if (same_key key e.0)

-- how often a list has a listener under this key, told or waiting
abbrev pub times : {W : Type 0} → Key → Listeners W → ℕ
times key l = total (is_key key) l.told + total (is_key key) l.waiting

abbrev pub is_listener : WaitList → Key → ListenerRef → ℕ
is_listener line key x = one_if (is_line line x.line && same_key key x.key)

abbrev pub is_handle : Side → Side → ℕ
is_handle side x = one_if (is_side side x)

module _ {W : Type 0} where
  abbrev pub lists_of : Belongings W → List (WaitList × ListView Unit W)
  lists_of own = own.lists

  abbrev pub handles_of : Belongings W → List Side
  handles_of own = own.handles

  abbrev pub listeners_of : Belongings W → List ListenerRef
  listeners_of own = own.listeners

  abbrev pub is_list : WaitList → WaitList × ListView Unit W → ℕ
  is_list line x = one_if (is_line line x.0)

  -- it holds what the channel's list of its kind does
  abbrev pub IsTrue : (WaitList → Listeners W) → WaitList × ListView Unit W → Type 0
  IsTrue listening x = x.1.lists ≡ listening x.0

module _ {T W : Type 0} where
  -- how many of a kind all seats have together, and that what they have is all like this
  abbrev pub among : {X : Type 0} → (Belongings W → List X) → (X → ℕ) → List (Standing T W) → ℕ
  among of weigh views = total (λ (s : Standing T W). total weigh (of s.own)) views

  abbrev pub AllAre : {X : Type 0} → (Belongings W → List X) → (X → Type 0) → List (Standing T W) → Type 0
  AllAre of P views = Each (λ (s : Standing T W). Each P (of s.own)) views

  -- what lies with the seats is what the channel has: each of its four lists, once; of each kind as many handles as are counted; and
  -- each listener that is on a list, once
  pub record LieWithSeats (views : List (Standing T W)) (listening : WaitList → Listeners W) (senders receivers : ℕ) : Type 0 where
    pub lists : (line : WaitList) → among lists_of (is_list line) views ≡ 1
    pub true_lists : AllAre lists_of (IsTrue listening) views
    pub handles : (side : Side) → among handles_of (is_handle side) views ≡ count_of side senders receivers
    pub listed : (line : WaitList) (key : Key) → among listeners_of (is_listener line key) views ≡ times key (listening line)
    pub once : (line : WaitList) (key : Key) → times key (listening line) ≤ 1

  -- a channel's parts: what its queue's cells hold, what its lists hold, and its two counts
  abbrev pub parts_of : Contents T → (WaitList → Listeners W) → ℕ → ℕ → Parts T W
  parts_of cells l senders receivers = record {
    cells = cells;
    wait_lists = record { sends = l Sends; receives = l Receives; streams = l Streams; closings = l Closings; senders = senders; receivers = receivers };
  }

  -- there is one history, which leads from a channel that was just opened to these cells and counts, and to what the lists hold by the
  -- views. What each party did is what its machine does, up to where its view says that it stands; one that hasn't come yet has done
  -- nothing. And the lists, the handles and the listeners lie with the seats
  pub record IsChannelHistory (form : QueueForm) (views : List (Standing T W)) (cells : Contents T) (senders receivers : ℕ) : Type 0 where
    pub events : List (Happening T W)
    pub listening : WaitList → Listeners W
    pub woken : List W
    pub order : InOneOrder appends events (opened_parts form, []) (parts_of cells listening senders receivers, woken)
    pub each : (p : ℕ) → Leads form fresh (own p events) (standing_of views p)
    pub lie : LieWithSeats views listening senders receivers
