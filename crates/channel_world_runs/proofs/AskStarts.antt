-- What a call has in hand, whom it waits for, and what it is to do to the counts, by what it asks; so it stands at its first stage.
use Rattle.std.specs.Prelude.{◌≡◌, if◌then◌else◌}
use Rattle.channel_world_runs.proofs.Words.{Bool, true, false, Option, None, Some, inl, inr, refl, sym, ap, ◌∙◌, subst, option_map, Phase, asked, Key, asks_listener, Turned, again, held_on, line_of as waits_on, ChannelAsk, Reply, ListenerRef, WaitList, Sends, Receives, Streams, Closings, Side, Senders, Receivers, Stage, Trying, Working, NextStep, Tries, Works, Ends, WaitingStep as Waiting, listening_first, IsOrListens, same_side, is_lowering, is_raising, holding, task_at, wait_of, line_asked, Bears, QueueAsk}
use Rattle.channel_calls.specs.Asks.{first}

line_on : (line : WaitList) (key : Option Key) (h : ListenerRef) → held_on line key ≡ Some h → let o : Option WaitList = Some line in
    o ≡ Some h.line
line_on line None h e = absurd (let no : None ≡ Some h = e in cc)
line_on line (Some key) h e = ap (λ (o : Option ListenerRef). option_map (λ (i : ListenerRef). i.line) o) e

module _ {T W : Type 0} where
  -- the listener with which a call begins
  abbrev pub ask_holds : ChannelAsk T W → Option ListenerRef
  ask_holds (ChannelAsk.PollSend m l task) = held_on Sends l.key
  ask_holds (ChannelAsk.PollRecv l task) = held_on Receives l.key
  ask_holds (ChannelAsk.PollClosed key task) = held_on Closings key
  ask_holds (ChannelAsk.PollNext key task) = held_on Streams key
  ask_holds (ChannelAsk.RefusePoll line message key) = held_on line key
  ask_holds (ChannelAsk.GiveUp line message key) = held_on line key
  ask_holds (ChannelAsk.DropReceiver key) = held_on Streams key
  ask_holds a = None

  -- whether it is to lower the count of this side
  abbrev pub asks_lowering : Side → ChannelAsk T W → Bool
  asks_lowering side ChannelAsk.DropSender = same_side side Senders
  asks_lowering side (ChannelAsk.DropReceiver key) = same_side side Receivers
  asks_lowering side a = false

  -- or may raise it
  abbrev pub asks_raising : Side → ChannelAsk T W → Bool
  asks_raising side (ChannelAsk.CloneHandle s) = same_side side s
  asks_raising side (ChannelAsk.Upgrade s) = same_side side s
  asks_raising side a = false

  pub line_held : (a : ChannelAsk T W) (h : ListenerRef) → ask_holds a ≡ Some h → line_asked a ≡ Some h.line
  line_held (ChannelAsk.PollSend m l task) h e = line_on Sends l.key h e
  line_held (ChannelAsk.PollRecv l task) h e = line_on Receives l.key h e
  line_held (ChannelAsk.PollClosed key task) h e = line_on Closings key h e
  line_held (ChannelAsk.PollNext key task) h e = line_on Streams key h e
  line_held (ChannelAsk.RefusePoll line message key) h e = line_on line key h e
  line_held (ChannelAsk.GiveUp line message key) h e = line_on line key h e
  line_held (ChannelAsk.DropReceiver key) h e = line_on Streams key h e
  line_held a h e = absurd (let no : None ≡ Some h = e in cc)

  pub line_waits : (a : ChannelAsk T W) (line : WaitList) (task : W) → wait_of a ≡ Some (line, task) → line_asked a ≡ Some line
  line_waits (ChannelAsk.PollSend m key t) line task e = ap (λ (o : Option (WaitList × W)). option_map (λ (x : WaitList × W). x.0) o) e
  line_waits (ChannelAsk.PollRecv key t) line task e = ap (λ (o : Option (WaitList × W)). option_map (λ (x : WaitList × W). x.0) o) e
  line_waits (ChannelAsk.PollClosed key t) line task e = ap (λ (o : Option (WaitList × W)). option_map (λ (x : WaitList × W). x.0) o) e
  line_waits (ChannelAsk.PollNext key t) line task e = ap (λ (o : Option (WaitList × W)). option_map (λ (x : WaitList × W). x.0) o) e
  line_waits a line task e = absurd (let no : None ≡ Some (line, task) = e in cc)

  -- ---- with its listener asked first all of this is the same

  listens_so : (side : Side) (x : ChannelAsk T W)
      → (ask_holds (listening_first x) ≡ ask_holds x) × (wait_of (listening_first x) ≡ wait_of x)
      × (asks_lowering side (listening_first x) ≡ asks_lowering side x) × (asks_raising side (listening_first x) ≡ asks_raising side x)
  listens_so side (ChannelAsk.PollSend m l task) = (refl, refl, refl, refl)
  listens_so side x = (refl, refl, refl, refl)

  same_of : {X : Type 0} (f : ChannelAsk T W → X) (x a : ChannelAsk T W) → f (listening_first x) ≡ f x → IsOrListens x a → f a ≡ f x
  same_of f x a so (inl same) = ap f same
  same_of f x a so (inr same) = ap f same ∙ so

  pub holds_same : (x a : ChannelAsk T W) → IsOrListens x a → ask_holds a ≡ ask_holds x
  holds_same x a = same_of (λ (y : ChannelAsk T W). ask_holds y) x a (listens_so Senders x).0

  pub waits_same : (x a : ChannelAsk T W) → IsOrListens x a → wait_of a ≡ wait_of x
  waits_same x a = same_of (λ (y : ChannelAsk T W). wait_of y) x a (listens_so Senders x).1

  pub lowering_same : (side : Side) (x a : ChannelAsk T W) → IsOrListens x a → asks_lowering side a ≡ asks_lowering side x
  lowering_same side x a = same_of (λ (y : ChannelAsk T W). asks_lowering side y) x a (listens_so side x).2

  pub raising_same : (side : Side) (x a : ChannelAsk T W) → IsOrListens x a → asks_raising side a ≡ asks_raising side x
  raising_same side x a = same_of (λ (y : ChannelAsk T W). asks_raising side y) x a (listens_so side x).3

  -- ---- the first stage

  abbrev pub Starts : ChannelAsk T W → Stage (Phase T) T W → Type 0
  Starts a s = (holding s ≡ ask_holds a) × Bears (task_at s) (wait_of a)
      × ((side : Side) → is_lowering side s ≡ asks_lowering side a) × ((side : Side) → is_raising side s ≡ asks_raising side a)

  abbrev TurnStarts : ChannelAsk T W → NextStep T W → Type 0
  TurnStarts a (Tries x purpose) = (p : Phase T) → Starts a (Trying p purpose)
  TurnStarts a (Works w) = (p : Phase T) → Starts a (Working w)
  TurnStarts a (Ends x kept) = ⊥

  taken : (a : ChannelAsk T W) (t : NextStep T W) (r : Option (Reply T)) (s : Stage (Phase T) T W) → Turned t r s
      → TurnStarts a t → Starts a s
  taken a (Tries x purpose) r s h k = subst (λ (z : Stage (Phase T) T W). Starts a z) (sym h.1) (k (asked x))
  taken a (Works w) r s h k = subst (λ (z : Stage (Phase T) T W). Starts a z) (sym h.1) (k (asked QueueAsk.Pop))
  taken a (Ends x kept) r s h k = absurd k

  polled_turn : (a : ChannelAsk T W) (w : Waiting T) (b : Bool) (key : Option Key) (task : W) → ask_holds a ≡ held_on (waits_on w) key → wait_of a ≡ Some (waits_on w, task)
      → ((side : Side) → false ≡ asks_lowering side a) → ((side : Side) → false ≡ asks_raising side a)
      → TurnStarts a (if b then asks_listener w key task else again w key task)
  polled_turn a w false key task h e lowers raises = λ p. (sym h, (waits_on w, e), lowers, raises)
  polled_turn a w true None task h e lowers raises = λ p. (sym h, (waits_on w, e), lowers, raises)
  polled_turn a w true (Some key) task h e lowers raises = λ p. (sym h, (waits_on w, e), lowers, raises)

  first_turn : (a : ChannelAsk T W) → TurnStarts a (first a)
  first_turn (ChannelAsk.PollSend m l task) =
      polled_turn (ChannelAsk.PollSend m l task) (Waiting.Send m) l.asks_first l.key task refl refl (λ side. refl) (λ side. refl)
  first_turn (ChannelAsk.PollRecv l task) =
      polled_turn (ChannelAsk.PollRecv l task) Waiting.Receive l.asks_first l.key task refl refl (λ side. refl) (λ side. refl)
  first_turn (ChannelAsk.PollNext key task) =
      polled_turn (ChannelAsk.PollNext key task) Waiting.Stream true key task refl refl (λ side. refl) (λ side. refl)
  first_turn (ChannelAsk.PollClosed key task) = λ p. (refl, (Closings, refl), λ side. refl, λ side. refl)
  first_turn a = λ p. (refl, tt, λ side. refl, λ side. refl)

  pub starts : (a : ChannelAsk T W) (r : Option (Reply T)) (s : Stage (Phase T) T W) → Turned (first a) r s → Starts a s
  starts a r s h = taken a (first a) r s h (first_turn a)
