-- A poll that holds a listener is refused no memory where it is alone: its list has room for the next as soon as that one has left.
use Rattle.channel_steps.proofs.solo.Words.{nat_tests, arith, cond, ◌≡◌, ◌+◌, ◌<◌, ℕ, Bool, true, false, if◌then◌else◌, not, List, [], ◌∷◌, ◌++◌, Option, None, Some, Result, Ok, Err, is_some, refl, sym, ap, ◌∙◌, subst, Queue, IsQueueStep, mark_of, QueueAsk, QueueReply, QueueCall, shows, Finds, kind_of, listened, told_as, waits_as, same_key, ListenError, Key, answered_next, asks_listener, first, inserted, registered, Done, Channel, channel, Parts, WaitLists, Listeners, listeners, with_listeners, waits, parts_of, rooms_of, DoesPlain, line_of, leaving, pending_reply, refused_reply, ends_by, again, inserted_next, registered_next, Takes, Heard, WorkMakes, ChannelMakes, ChannelAsk, PollSend, PollRecv, PollClosed, PollNext, Mark, Nothing, PlainChannel, Reply, Purpose, Ending, ListenerRef, WaitList, Sends, Receives, Streams, Closings, Stage, Trying, Working, Finished, NextStep, Tries, Works, Ends, Waiting, ListStep, TellReceive, TellStreams, TellSend, Insert, Register, Leave, IsAtRest, refused_next}
use Rattle.std.specs.Map.{lookup}
use Rattle.concurrent_queue.specs.Capacity.{capacity_of}
use Rattle.event_listener.specs.Runs.{room_polled}
use Rattle.channel_calls.specs.Rooms.{Rooms, room_on, with_room}
use Rattle.channel_steps.specs.solo.Ample.{lacks_memory, IsOnList, HasNode}
use Rattle.concurrent_queue.specs.declared.call.QueueAsk.TheVariants as ask
use Rattle.concurrent_queue.specs.declared.call.QueueReply.TheVariants as answer
use Rattle.concurrent_queue.specs.declared.error.PushError.TheVariants as push_error
use Rattle.concurrent_queue.specs.declared.error.PopError.TheVariants as pop_error
use Rattle.event_listener.specs.declared.error.ListenError.TheVariants as listen_error
use Rattle.channel_calls.specs.declared.stage.Purpose.TheVariants as purpose
use Rattle.channel_calls.specs.declared.stage.Waiting.TheVariants as waiting
use Rattle.channel_steps.proofs.solo.AloneFacts.{IsAlone, in_range}
use Rattle.channel_steps.proofs.solo.ConfigurationLoop.{IsBetween, alone_there}
use Rattle.channel_steps.proofs.solo.TryFacts.{tries_end}

-- ---- lists and rooms

module _ {W : Type 0} where
  there_last : (key : Key) (xs : List (Key × Option W)) → is_some (lookup (same_key key) (xs ++ (key, None) ∷ [])) ≡ true
  there_last key [] = let same : same_key key key ≡ true = grind (arith, nat_tests) in rw same refl
  there_last key (x ∷ xs) = by (same_key key x.0) (there_last key xs) where
    by : (b : Bool) → is_some (lookup (same_key key) (xs ++ (key, None) ∷ [])) ≡ true
        → is_some (cond b (Some x.1) (lookup (same_key key) (xs ++ (key, None) ∷ []))) ≡ true
    by true more = refl
    by false more = more

  -- one that has come is listed
  listed_now : (key : Key) (l : Listeners W) → is_some (kind_of (listened key l) key) ≡ true
  listed_now key l = by (is_some (told_as l key)) (is_some (waits_as (listened key l) key)) (there_last key l.waiting) where
    by : (told waiting : Bool) → waiting ≡ true → is_some (if told then Some true else (if waiting then Some false else None)) ≡ true
    by true waiting e = refl
    by false waiting e = rw e refl

  -- one that is listed and doesn't wait was told, and leaves room
  freed : (key : Key) (l : Listeners W) (n : ℕ) → is_some (kind_of l key) ≡ true → waits key l ≡ false → room_polled l key n ≡ n + 1
  freed key l n listed left = by (is_some (told_as l key)) (is_some (waits_as l key)) listed left where
    kind : Bool → Bool → Option Bool
    kind told waiting = if told then Some true else (if waiting then Some false else None)

    by : (told waiting : Bool) → is_some (kind told waiting) ≡ true → elim (kind told waiting) [ Some told ↦ not told | None ↦ false ] ≡ false
        → (if told then n + 1 else n) ≡ n + 1
    by true waiting h k = refl
    by false true h k = cc k
    by false false h k = cc h

  same_list : (line : WaitList) (l : Listeners W) (a : WaitLists W) → listeners line (with_listeners line l a) ≡ l
  same_list Sends l a = refl
  same_list line l a = refl

same_room : (line : WaitList) (n : ℕ) (m : Rooms) → room_on line (with_room line n m) ≡ n
same_room Sends n m = refl
same_room line n m = refl

-- where a send is tried, the queue has a bound
abbrev pub HasBound : Option ℕ → WaitList → Type 0
HasBound cap Sends = is_some cap ≡ true
HasBound cap line = Unit {0}

pending_ample : (T : Type 0) (line : WaitList) → lacks_memory (pending_reply {T = T} line) ≡ false
pending_ample T Sends = refl
pending_ample T line = refl

serials_ample : (T : Type 0) (line : WaitList) → lacks_memory (refused_reply {T = T} line listen_error.SerialsUsedUp) ≡ false
serials_ample T Sends = refl
serials_ample T line = refl

module _ {T : Type 0} where
  abbrev pub NoneLacks : Option (Reply T) → Type 0
  NoneLacks None = Unit {0}
  NoneLacks (Some x) = lacks_memory x ≡ false

  -- no message was refused memory, where the queue has a bound
  abbrev pub HasMemory : Option ℕ → QueueReply T → Type 0
  HasMemory cap x = is_some cap ≡ true → (v : T) → x ≡ answer.Push (Err (push_error.NoMemory v)) → ⊥

module _ {T W : Type 0} where
  abbrev lists_in : PlainChannel T W → WaitLists W
  lists_in c = (parts_of c).wait_lists

module _ {T W : Type 0} (cap : Option ℕ) where
  -- ---- stages from which no call comes to be refused memory, over a queue of this capacity, and these lists and their room

  abbrev pub ReadyAim : WaitLists W → Rooms → Purpose T W → Type 0
  ReadyAim a m (purpose.Poll line None task) = (0 < room_on line m) × HasBound cap line
  ReadyAim a m (purpose.Poll line (Some key) task) = IsOnList line (Some key) a × HasBound cap line
  ReadyAim a m _ = ⊥

  abbrev pub ReadyWork : WaitLists W → Rooms → ListStep T W → Type 0
  ReadyWork a m (TellReceive e) = lacks_memory e.reply ≡ false
  ReadyWork a m (TellStreams e) = lacks_memory e.reply ≡ false
  ReadyWork a m (TellSend e) = lacks_memory e.reply ≡ false
  ReadyWork a m (Insert w task) = (0 < room_on (line_of w) m) × HasBound cap (line_of w)
  ReadyWork a m (Register w key task) = IsOnList (line_of w) (Some key) a × HasBound cap (line_of w)
  ReadyWork a m (Leave e) = lacks_memory e.reply ≡ false
  ReadyWork a m _ = ⊥

  abbrev pub ReadyTurn : WaitLists W → Rooms → NextStep T W → Type 0
  ReadyTurn a m (Tries x y) = ReadyAim a m y
  ReadyTurn a m (Works w) = ReadyWork a m w
  ReadyTurn a m (Ends x kept) = lacks_memory x ≡ false

  abbrev pub ReadyStage : WaitLists W → Rooms → Stage (QueueCall T) T W → Type 0
  ReadyStage a m (Trying call y) = ReadyAim a m y
  ReadyStage a m (Working w) = ReadyWork a m w
  ReadyStage a m (Finished kept) = Unit {0}

  -- after a step
  abbrev pub StaysReady : WaitLists W → Rooms → Stage (QueueCall T) T W → Option (Reply T) → Type 0
  StaysReady a m next r = ReadyStage a m next × NoneLacks r

  pub taken : (a : WaitLists W) (m : Rooms) (turn : NextStep T W) (next : Stage (QueueCall T) T W) (r : Option (Reply T)) → Takes turn next r
      → ReadyTurn a m turn → StaysReady a m next r
  taken a m (Tries x y) next r (call, starts, asking, none, e) h =
      (subst (λ (s : Stage (QueueCall T) T W). ReadyStage a m s) (sym e) h, subst (λ (o : Option (Reply T)). NoneLacks o) (sym none) tt)
  taken a m (Works w) next r (none, e) h =
      (subst (λ (s : Stage (QueueCall T) T W). ReadyStage a m s) (sym e) h, subst (λ (o : Option (Reply T)). NoneLacks o) (sym none) tt)
  taken a m (Ends x kept) next r (some, e) h =
      (subst (λ (s : Stage (QueueCall T) T W). ReadyStage a m s) (sym e) tt, subst (λ (o : Option (Reply T)). NoneLacks o) (sym some) h)

  ends_ready : (a : WaitLists W) (m : Rooms) (e : Ending T) → lacks_memory e.reply ≡ false → ReadyTurn a m (ends_by e)
  ends_ready a m e h = by e.held where
    by : (o : Option ListenerRef) → ReadyTurn a m (elim o [ None ↦ Ends e.reply (leaving None e.message) | Some held ↦ Works (Leave e) ])
    by None = h
    by (Some held) = h

  -- ---- an answer of the queue

  module _ (a : WaitLists W) (m : Rooms) where
    refused_ready : (w : Waiting T) (key : Option Key) (task : W) → ReadyAim a m (purpose.Poll (line_of w) key task) → ReadyTurn a m (refused_next w key task)
    refused_ready w None task h = h
    refused_ready w (Some key) task h = h

    answered : (y : Purpose T W) (x : QueueReply T) → HasMemory cap x → ReadyAim a m y → ReadyTurn a m (answered_next y x)
    answered (purpose.Poll Sends key task) (answer.Push (Err (push_error.Full v))) ample h = refused_ready (waiting.Send v) key task h
    answered (purpose.Poll Sends key task) (answer.Push (Err (push_error.Closed v))) ample h = ends_ready a m _ refl
    answered (purpose.Poll Sends None task) (answer.Push (Err (push_error.NoMemory v))) ample h = absurd (ample h.1 v refl)
    answered (purpose.Poll Sends (Some key) task) (answer.Push (Err (push_error.NoMemory v))) ample h = absurd (ample h.1 v refl)
    answered (purpose.Poll Receives key task) (answer.Pop (Err pop_error.Empty)) ample h = refused_ready waiting.Receive key task h
    answered (purpose.Poll Receives key task) (answer.Pop (Err pop_error.Closed)) ample h = ends_ready a m _ refl
    answered (purpose.Poll Streams key task) (answer.Pop (Err pop_error.Empty)) ample h = refused_ready waiting.Stream key task h
    answered (purpose.Poll Streams key task) (answer.Pop (Err pop_error.Closed)) ample h = ends_ready a m _ refl
    answered (purpose.Poll Closings key task) (answer.Flag true) ample h = ends_ready a m _ refl
    answered (purpose.Poll Closings key task) (answer.Flag false) ample h = refused_ready waiting.Closing key task h
    answered (purpose.Poll line key task) x ample h = refl
    answered y x ample h = absurd h

  -- ---- a step on a list

  came : (w : Waiting T) (task : W) (o : Result Key ListenError) (c d : PlainChannel T W) → DoesPlain (inserted (line_of w) o) c d
      → ReadyWork (lists_in c) (rooms_of c) (Insert w task) → ReadyTurn (lists_in d) (rooms_of d) (inserted_next w task o)
  came w task (Ok key) c d h ready =
      let l = listeners (line_of w) (lists_in c) in
      let there : listeners (line_of w) (lists_in d) ≡ listened key l =
      ap (λ (p : Parts T W). listeners (line_of w) p.wait_lists) h.0.1 ∙ same_list (line_of w) (listened key l) (lists_in c) in
      (subst (λ (k : Listeners W). is_some (kind_of k key) ≡ true) (sym there) (listed_now key l), ready.1)
  came w task (Err listen_error.NoMemory) c d h ready = let none = h.1.1 in let room = ready.0 in absurd (omega (arith, none, room))
  came w task (Err listen_error.SerialsUsedUp) c d h ready = serials_ample T (line_of w)

  heard : (w : Waiting T) (key : Key) (task : W) (o : Option W) (c d : PlainChannel T W) → DoesPlain (registered (line_of w) key task o) c d
      → ReadyWork (lists_in c) (rooms_of c) (Register w key task) → ReadyTurn (lists_in d) (rooms_of d) (registered_next w key o)
  heard w key task None c d h ready = pending_ample T (line_of w)
  heard w key task (Some back) c d h ready =
      let line = line_of w in
      let l = listeners line (lists_in c) in
      let n = room_on line (rooms_of c) in
      let more : room_polled l key n ≡ n + 1 = freed key l n ready.0 h.0.0.1 in
      let now : room_on line (rooms_of d) ≡ room_polled l key n =
      ap (λ (m : Rooms). room_on line m) h.1 ∙ same_room line (room_polled l key n) (rooms_of c) in
      (omega (arith, more, now), ready.1)

  module _ {S : Type 0} (wakes : S → W → S → Type 0) (s t : PlainChannel T W × S) (m : Mark) (next : Stage (QueueCall T) T W)
      (r : Option (Reply T)) where
    abbrev Stays : Type 0
    Stays = StaysReady (lists_in t.0) (rooms_of t.0) next r

    worked : (w : ListStep T W) → WorkMakes (Done DoesPlain wakes) w s t m next r → ReadyWork (lists_in s.0) (rooms_of s.0) w → Stays
    worked (TellReceive e) (names, is, h) k = taken (lists_in t.0) (rooms_of t.0) (Works (TellStreams e)) next r h.1 k
    worked (TellStreams e) (names, is, h) k =
        taken (lists_in t.0) (rooms_of t.0) (ends_by e) next r h.1 (ends_ready (lists_in t.0) (rooms_of t.0) e k)
    worked (TellSend e) (names, is, h) k =
        taken (lists_in t.0) (rooms_of t.0) (ends_by e) next r h.1 (ends_ready (lists_in t.0) (rooms_of t.0) e k)
    worked (Insert w task) (o, is, h) k =
        taken (lists_in t.0) (rooms_of t.0) (inserted_next w task o) next r h.1 (came w task o s.0 t.0 is.0 k)
    worked (Register w key task) (o, is, h) k =
        taken (lists_in t.0) (rooms_of t.0) (registered_next w key o) next r h.1 (heard w key task o s.0 t.0 is.0 k)
    worked (Leave e) (left, h) k =
        taken (lists_in t.0) (rooms_of t.0) (Ends e.reply (leaving None e.message)) next r h.1 k
    worked w h k = absurd k

    -- the queue's call goes on, or has answered
    tried : (y : Purpose T W) (after : QueueCall T) (o : Option (QueueReply T)) → lists_in t.0 ≡ lists_in s.0 → rooms_of t.0 ≡ rooms_of s.0
        → ((x : QueueReply T) → o ≡ Some x → HasMemory cap x) → Heard y after o next r → ReadyAim (lists_in s.0) (rooms_of s.0) y → Stays
    tried y after None lists rooms ample (on, none) k = (
      subst (λ (z : Stage (QueueCall T) T W). ReadyStage (lists_in t.0) (rooms_of t.0) z) (sym on) (rw (lists, rooms) k),
      subst (λ (z : Option (Reply T)). NoneLacks z) (sym none) tt,
    )
    tried y after (Some x) lists rooms ample h k =
        taken (lists_in t.0) (rooms_of t.0) (answered_next y x) next r h (answered (lists_in t.0) (rooms_of t.0) y x (ample x refl) (rw (lists, rooms) k))

-- a message that is refused memory was for a queue without a bound
no_bound : {T : Type 0} (a : QueueAsk T) (q : Queue T) (v : T) → Finds a q (answer.Push (Err (push_error.NoMemory v))) → q.capacity ≡ None
no_bound (ask.Push w) q v h = h.1
no_bound a q v h = absurd h

module _ {T W : Type 0} where
  -- what the queue answers to a call that is alone at work
  memory_there : (a : ChannelAsk T W) (c0 : Channel T W) (parts parts' : Parts T W) (so_far : List W) (call after : QueueCall T) (y : Purpose T W)
      (x : IsAlone a c0 parts (Trying call y) so_far) (z : QueueReply T)
      → IsQueueStep parts.cells call parts'.cells after (Some z) → HasMemory c0.queue.capacity z
  memory_there a c0 parts parts' so_far call after y x z step bound v e =
      let q = x.now in
      let made = step x.fits.0 q x.at [] [] (in_range a c0 parts so_far [] parts' (Trying call y) Nothing None (Trying call y) x) x.fits.1 in
      let finds : Finds x.at.ask x.from z = (tries_end x.from q x.at (mark_of after) z x.idle made.effect.0 x.known).finds in
      let none : x.from.capacity ≡ None = no_bound x.at.ask x.from v (subst (λ (b : QueueReply T). Finds x.at.ask x.from b) e finds) in
      let off : is_some c0.queue.capacity ≡ false = ap (λ (b : Option ℕ). is_some b) (sym x.capacity ∙ none) in
      (let never : true ≡ false = sym bound ∙ off in cc)

  module _ {S : Type 0} (wakes : S → W → S → Type 0) (a : ChannelAsk T W) (c0 : Channel T W) (so_far : List W) (s t : PlainChannel T W × S)
      (m : Mark) (next : Stage (QueueCall T) T W) (r : Option (Reply T)) where
    -- a step of a call that is alone at work
    pub step_ready : (stage : Stage (QueueCall T) T W) → IsAlone a c0 (parts_of s.0) stage so_far
        → ChannelMakes (Done DoesPlain wakes) stage s t m next r
        → ReadyStage c0.queue.capacity (parts_of s.0).wait_lists (rooms_of s.0) stage
        → StaysReady c0.queue.capacity (parts_of t.0).wait_lists (rooms_of t.0) next r
    step_ready (Trying call y) x (after, o, is, k, h) ready =
        tried c0.queue.capacity wakes s t m next r y after o is.0.0.1 is.0.1
        (λ z e. memory_there a c0 (parts_of s.0) (parts_of t.0) so_far call after y x z
        (subst (λ (b : Option (QueueReply T)). IsQueueStep (parts_of s.0).cells call (parts_of t.0).cells after b) e is.0.0.0)) h ready
    step_ready (Working w) x h ready = worked c0.queue.capacity wakes s t m next r w h ready
    step_ready (Finished kept) x h ready = absurd x.known

  -- ---- a whole call

  -- where it holds a listener that is listed, it is refused no memory
  abbrev pub StaysAmple : ChannelAsk T W → PlainChannel T W → PlainChannel T W → Stage (QueueCall T) T W → Type 0
  StaysAmple a c0 c stage =
      HasNode a (parts_of c0) → ReadyStage (capacity_of (parts_of c0).cells.form) (parts_of c).wait_lists (rooms_of c) stage

  module _ (cap : Option ℕ) (b : WaitLists W) (m : Rooms) where
    first_again : (w : Waiting T) (key : Option Key) (task : W) → IsOnList (line_of w) key b → HasBound cap (line_of w)
        → ReadyTurn cap b m (again w key task)
    first_again w None task h bound = absurd h
    first_again w (Some key) task h bound = (h, bound)

    first_asks : (w : Waiting T) (key : Option Key) (task : W) → IsOnList (line_of w) key b → HasBound cap (line_of w)
        → ReadyTurn cap b m (asks_listener w key task)
    first_asks w None task h bound = absurd h
    first_asks w (Some key) task h bound = (h, bound)

    first_polls : (w : Waiting T) (asks : Bool) (key : Option Key) (task : W) → IsOnList (line_of w) key b → HasBound cap (line_of w)
        → ReadyTurn cap b m (if asks then asks_listener w key task else again w key task)
    first_polls w true key task h bound = first_asks w key task h bound
    first_polls w false key task h bound = first_again w key task h bound

  first_ready : (a : ChannelAsk T W) (p : Parts T W) (m : Rooms) → HasNode a p → ReadyTurn (capacity_of p.cells.form) p.wait_lists m (first a)
  first_ready (PollSend v l task) p m h = first_polls (capacity_of p.cells.form) p.wait_lists m (waiting.Send v) l.asks_first l.key task h.0 h.1
  first_ready (PollRecv l task) p m h = first_polls (capacity_of p.cells.form) p.wait_lists m waiting.Receive l.asks_first l.key task h tt
  first_ready (PollClosed key task) p m h = first_again (capacity_of p.cells.form) p.wait_lists m waiting.Closing key task h tt
  first_ready (PollNext key task) p m h = first_asks (capacity_of p.cells.form) p.wait_lists m waiting.Stream key task h tt
  first_ready a p m h = absurd h

  pub ample_first : (a : ChannelAsk T W) (c : PlainChannel T W) (stage : Stage (QueueCall T) T W) → Takes (first a) stage None
      → StaysAmple a c c stage
  ample_first a c stage takes h =
      (taken (capacity_of (parts_of c).cells.form) (parts_of c).wait_lists (rooms_of c) (first a) stage None takes
      (first_ready a (parts_of c) (rooms_of c) h)).0

  module _ {S : Type 0} (wakes : S → W → S → Type 0) (a : ChannelAsk T W) (c0 : PlainChannel T W) (sink0 : S) (messages0 messages : ℕ) (rest : IsAtRest (parts_of c0))
      (s t : PlainChannel T W × S) (m : Mark) (stage next : Stage (QueueCall T) T W) (r : Option (Reply T))
      (way : IsBetween wakes a (parts_of c0) sink0 messages0 (parts_of s.0) stage s.1 messages) (made : ChannelMakes (Done DoesPlain wakes) stage s t m next r)
      (ample : StaysAmple a c0 s.0 stage) where
    pub ample_next : HasNode a (parts_of c0)
        → StaysReady (capacity_of (parts_of c0).cells.form) (parts_of t.0).wait_lists (rooms_of t.0) next r
    ample_next h =
        let q = rest.0 in
        let x = alone_there wakes a (parts_of c0) sink0 messages0 (parts_of s.0) stage s.1 messages way q rest.1 rest.2 in
        let same : q.capacity ≡ capacity_of (parts_of c0).cells.form = (shows (parts_of c0).cells q [] rest.2).limit in
        subst (λ (cap : Option ℕ). StaysReady cap (parts_of t.0).wait_lists (rooms_of t.0) next r) same
        (step_ready wakes a (channel q (parts_of c0)) x.0 s t m next r stage x.1 made
        (subst (λ (cap : Option ℕ). ReadyStage cap (parts_of s.0).wait_lists (rooms_of s.0) stage) (sym same) (ample h)))
