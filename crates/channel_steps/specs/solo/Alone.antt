-- What a call of a channel does with no other call under way: what it answers, what it leaves to its operation, which tasks it wakes, in
-- order, and the channel after it.
use Rattle.std.specs.Prelude.{◌≡◌, ℕ, zero, suc, ◌+◌, ◌<◌, take, ◌==◌, ◌&&◌, nat_lt, Bool, true, false, if◌then◌else◌, List, [], ◌∷◌, ◌++◌, drop, length, slice_get, Option, None, Some, Ok, Err, ◌⊎◌}
use Rattle.concurrent_queue.specs.Queue.{Queue, IsOpen, is_filled}
use Rattle.event_listener.specs.Lists.{kind_of}
use Rattle.event_listener.specs.declared.key.Key.{Key}
use Rattle.event_listener.specs.declared.error.ListenError.{ListenError}
use Rattle.futures.specs.declared.task.Poll.TheVariants as poll
use Rattle.channel_calls.specs.declared.ask.ChannelAsk.{ChannelAsk}
use Rattle.channel_calls.specs.declared.ask.ChannelAsk.TheVariants.{TrySend, ForceSend, TryRecv, RecvMany, Close, PollSend, PollFinishedSend, PollRecv, PollClosed, PollNext, RefusePoll, GiveUp, DropSender, DropReceiver, CloneHandle, Upgrade, HandleCount, IsClosed, IsEmpty, IsFull, Len, Capacity, IsTerminated, SendIsTerminated, SameChannel, Make, DropWeak}
use Rattle.channel_calls.specs.declared.error.Refused.TheVariants as refused
use Rattle.channel_calls.specs.declared.error.TrySendError.TheVariants as try_send_error
use Rattle.channel_calls.specs.declared.error.TryRecvError.TheVariants as try_recv_error
use Rattle.channel_calls.specs.declared.reply.Reply.{Reply}
use Rattle.channel_calls.specs.declared.reply.Reply.TheVariants as reply
use Rattle.channel_calls.specs.declared.stage.Closer.{Closer}
use Rattle.channel_calls.specs.declared.stage.Closer.TheVariants as closer
use Rattle.channel_calls.specs.declared.stage.Ending.{Ending}
use Rattle.channel_calls.specs.declared.stage.Returned.{Returned}
use Rattle.channel_calls.specs.declared.stage.WaitList.TheVariants.{Sends, Receives, Streams, Closings}
use Rattle.channel_calls.specs.declared.stage.Side.{Side}
use Rattle.channel_calls.specs.declared.stage.Side.TheVariants.{Senders, Receivers}
use Rattle.channel_calls.specs.declared.stage.Waiting.{Waiting}
use Rattle.channel_calls.specs.declared.stage.Waiting.TheVariants as waiting
use Rattle.channel_calls.specs.Parts.{listeners, count, waits}
use Rattle.channel_calls.specs.Turns.{most, says, leaving, nothing_kept, line_of, message_of, pending_reply, refused_reply, closer_ending, dropper}
use Rattle.channel_calls.specs.Answered.{over}
use Rattle.channel_calls.specs.Asks.{is_refused, gives_up}
use Rattle.channel_calls.specs.Moves.{Channel, Effect, tells_one, tells_more, tells_all, listens, registers, leaves, lowers, raises}

-- what a call leaves at its end
pub record Outcome (T W : Type 0) : Type 0 where
  pub reply : Reply T
  pub kept : Returned T
  pub woken : List W
  pub channel : Channel T W

-- the one where this holds, and else the other
abbrev pub Where : Bool → Type 0 → Type 0 → Type 0
Where true A B = A
Where false A B = B

module _ {T : Type 0} where
  -- ---- the queue

  abbrev pub with_appended : T → Queue T → Queue T
  with_appended m q = record q { items = q.items ++ m ∷ []; accepted = q.accepted + 1 }

  abbrev pub replaced : T → Queue T → Queue T
  replaced m q = record q { items = drop 1 q.items ++ m ∷ []; accepted = q.accepted + 1; removed = q.removed + 1 }

  abbrev pub taken : Queue T → Queue T
  taken q = record q { items = drop 1 q.items; removed = q.removed + 1 }

  -- so many taken, or all that there are
  abbrev pub taken_some : ℕ → Queue T → Queue T
  taken_some n q = record q { items = drop n q.items; removed = q.removed + length (take n q.items) }

  abbrev pub with_closed : Queue T → Queue T
  with_closed q = record q { closed = true }

module _ {T W : Type 0} where
  abbrev pub over_queue : (Queue T → Queue T) → Channel T W → Channel T W
  over_queue f c = record c { queue = f c.queue }

  -- ---- how a call ends

  -- those were woken before
  abbrev pub after_waking : List W → Outcome T W → Outcome T W
  after_waking names o = record o { woken = names ++ o.woken }

  -- with this answer, nothing more being done
  abbrev pub answers : Reply T → Returned T → Channel T W → Outcome T W
  answers x kept c = record { reply = x; kept = kept; woken = []; channel = c }

  -- it tells by these sections in order; then the listener that it holds leaves, and passes on the notification that it was told
  abbrev pub ends : List (Channel T W → Effect T W) → Ending T → Channel T W → Outcome T W
  ends [] x c = after_waking (leaves x.held c).woken (answers x.reply (leaving None x.message) (leaves x.held c).channel)
  ends (f ∷ fs) x c = after_waking (f c).woken (ends fs x (f c).channel)

  -- a message that comes in tells one receive and then all streams; one that is taken tells one send; a closing tells all
  abbrev pub of_message : List (Channel T W → Effect T W)
  of_message = tells_one Receives ∷ tells_all Streams ∷ []

  abbrev pub of_room : List (Channel T W → Effect T W)
  of_room = tells_one Sends ∷ []

  -- and several that are taken at once tell as many sends
  abbrev pub of_rooms : ℕ → List (Channel T W → Effect T W)
  of_rooms n = tells_more n Sends ∷ []

  abbrev pub of_closing : List (Channel T W → Effect T W)
  of_closing = tells_all Sends ∷ tells_all Receives ∷ tells_all Streams ∷ tells_all Closings ∷ []

  -- ---- calls that do not wait

  -- only an open queue without a bound may refuse memory to a message; a closed one says that it is closed
  abbrev pub MayLackRoom : Ending T → Channel T W → Outcome T W → Type 0
  MayLackRoom x c o = IsOpen c.queue × (c.queue.capacity ≡ None) × (o ≡ ends [] x c)

  abbrev pub sends : T → Channel T W → Outcome T W
  sends m c =
      if c.queue.closed then ends [] (says (reply.TrySend (Err (refused.Plain (try_send_error.Closed m))))) c
      else (if is_filled c.queue then ends [] (says (reply.TrySend (Err (refused.Plain (try_send_error.Full m))))) c
      else ends of_message (says (reply.TrySend (Ok tt))) (over_queue (with_appended m) c))

  -- the oldest message of a full channel is displaced; no send is told
  abbrev pub force_sends : T → Channel T W → Outcome T W
  force_sends m c =
      if c.queue.closed then ends [] (says (reply.ForceSend (Err (refused.Plain (record { 0 = m }))))) c
      else (if is_filled c.queue then ends of_message (says (reply.ForceSend (Ok (slice_get c.queue.items 0)))) (over_queue (replaced m) c)
      else ends of_message (says (reply.ForceSend (Ok None))) (over_queue (with_appended m) c))

  -- a message if there is one
  abbrev pub receives_by : List T → Channel T W → Outcome T W
  receives_by (m ∷ ms) c = ends of_room (says (reply.TryRecv (Ok m))) (over_queue taken c)
  receives_by [] c = ends [] (says (reply.TryRecv (Err (if c.queue.closed then try_recv_error.Closed else try_recv_error.Empty)))) c

  abbrev pub receives : Channel T W → Outcome T W
  receives c = receives_by c.queue.items c

  -- only the call that closes tells
  abbrev pub closes : Closer → Channel T W → Outcome T W
  closes by c = if c.queue.closed then ends [] (closer_ending by false) c else ends of_closing (closer_ending by true) (over_queue with_closed c)

  -- several messages at most: as many as there are, which these are
  abbrev pub receives_these : ℕ → List T → Channel T W → Outcome T W
  receives_these zero ms c = ends [] (says (reply.RecvMany (Ok []))) c
  receives_these (suc n) [] c =
      ends [] (says (reply.RecvMany (Err (refused.Plain (if c.queue.closed then try_recv_error.Closed else try_recv_error.Empty))))) c
  receives_these (suc n) (m ∷ ms) c = ends (of_rooms (length (m ∷ ms))) (says (reply.RecvMany (Ok (m ∷ ms)))) (over_queue (taken_some (suc n)) c)

  abbrev pub receives_several : ℕ → Channel T W → Outcome T W
  receives_several n c = receives_these n (take n c.queue.items) c

  -- for which there may be no memory
  abbrev pub ReceivesSeveral : ℕ → Channel T W → Outcome T W → Type 0
  ReceivesSeveral n c o = ((0 < n) × (o ≡ ends [] (says (reply.RecvMany (Err (refused.NoMemory tt)))) c)) ⊎ (o ≡ receives_several n c)

  -- ---- polls

  -- where a poll finds nothing, a listener comes in and keeps the task, under a key that is not listed; or it is refused
  abbrev pub ListensOrIsRefused : Waiting T → W → Channel T W → Outcome T W → Type 0
  ListensOrIsRefused w task c o =
      ((key : Key) × (kind_of (listeners (line_of w) c.wait_lists) key ≡ None)
      × (o ≡ answers (pending_reply (line_of w)) (leaving (Some key) (message_of w)) (registers (line_of w) key task (listens (line_of w) key c).channel).channel))
      ⊎ ((error : ListenError) × (o ≡ answers (refused_reply (line_of w) error) (leaving None (message_of w)) c))

  -- a listener that it holds and that waits keeps the task; one that was told is used up
  abbrev pub RegistersOrGoesOn : Waiting T → Key → W → Channel T W → Outcome T W → (Channel T W → Type 0) → Type 0
  RegistersOrGoesOn w key task c o told =
      Where (waits key (listeners (line_of w) c.wait_lists))
      (o ≡ answers (pending_reply (line_of w)) (leaving (Some key) (message_of w)) (registers (line_of w) key task c).channel)
      (told (registers (line_of w) key task c).channel)

  abbrev pub WaitsOrGoesOn : Waiting T → Option Key → W → Channel T W → Outcome T W → Type 0
  WaitsOrGoesOn w None task c o = ListensOrIsRefused w task c o
  WaitsOrGoesOn w (Some key) task c o = RegistersOrGoesOn w key task c o (λ d. ListensOrIsRefused w task d o)

  abbrev pub PollsSend : T → Option Key → W → Channel T W → Outcome T W → Type 0
  PollsSend m key task c o =
      MayLackRoom (over (reply.SendPoll (poll.Ready (Err (refused.NoMemory tt)))) (Some m) Sends key) c o
      ⊎ Where c.queue.closed (o ≡ ends [] (over (reply.SendPoll (poll.Ready (Err (refused.Plain (record { 0 = m }))))) None Sends key) c)
      (Where (is_filled c.queue) (WaitsOrGoesOn (waiting.Send m) key task c o)
      (o ≡ ends of_message (over (reply.SendPoll (poll.Ready (Ok tt))) None Sends key) (over_queue (with_appended m) c)))

  -- a message if there is one; none will come to a closed channel; else the poll waits
  abbrev pub PollsFor : List T → Waiting T → (T → Reply T) → Reply T → Option Key → W → Channel T W → Outcome T W → Type 0
  PollsFor (m ∷ ms) w got closed key task c o = o ≡ ends of_room (over (got m) None (line_of w) key) (over_queue taken c)
  PollsFor [] w got closed key task c o = Where c.queue.closed (o ≡ ends [] (over closed None (line_of w) key) c) (WaitsOrGoesOn w key task c o)

  abbrev pub PollsReceive : Option Key → W → Channel T W → Outcome T W → Type 0
  PollsReceive key task c o =
      PollsFor c.queue.items waiting.Receive (λ m. reply.RecvPoll (poll.Ready (Ok m))) (reply.RecvPoll (poll.Ready (Err (refused.Plain (record {}))))) key task c o

  abbrev pub PollsStream : Option Key → W → Channel T W → Outcome T W → Type 0
  PollsStream key task c o =
      PollsFor c.queue.items waiting.Stream (λ m. reply.Next (poll.Ready (Some (Ok m)))) (reply.Next (poll.Ready None)) key task c o

  abbrev pub PollsClosing : Option Key → W → Channel T W → Outcome T W → Type 0
  PollsClosing key task c o =
      Where c.queue.closed (o ≡ ends [] (over (reply.ClosedPoll (poll.Ready (Ok tt))) None Closings key) c) (WaitsOrGoesOn waiting.Closing key task c o)

  -- ---- handles

  -- the last handle of its kind closes
  abbrev pub drops : Side → Option Key → Channel T W → Outcome T W
  drops side key c =
      if count side c.wait_lists == 1 then closes (dropper side key) (lowers side c).channel else ends [] (closer_ending (dropper side key) false) (lowers side c).channel

  abbrev pub clones : Side → Channel T W → Outcome T W
  clones side c =
      if nat_lt most (count side c.wait_lists) then answers reply.TooMany nothing_kept c
      else answers reply.Made nothing_kept (raises side (count side c.wait_lists) c).channel

  abbrev pub upgrades : Side → Channel T W → Outcome T W
  upgrades side c =
      if c.queue.closed then answers reply.NotMade nothing_kept c
      else (if count side c.wait_lists == 0 then answers reply.NotMade nothing_kept c else clones side c)

  -- ---- every call

  abbrev pub says_only : Reply T → Channel T W → Outcome T W
  says_only x c = answers x nothing_kept c

  -- a poll that asks its listener before it tries: this comes of its try over no listener
  abbrev pub AsksListener : Waiting T → Option Key → W → Channel T W → Outcome T W → (Channel T W → Type 0) → Type 0
  AsksListener w None task c o tries = tries c
  AsksListener w (Some key) task c o tries = RegistersOrGoesOn w key task c o tries

  abbrev pub Alone : ChannelAsk T W → Channel T W → Outcome T W → Type 0
  Alone (TrySend m) c o = MayLackRoom (says (reply.TrySend (Err (refused.NoMemory m)))) c o ⊎ (o ≡ sends m c)
  Alone (ForceSend m) c o = MayLackRoom (says (reply.ForceSend (Err (refused.NoMemory m)))) c o ⊎ (o ≡ force_sends m c)
  Alone TryRecv c o = o ≡ receives c
  Alone (RecvMany n) c o = ReceivesSeveral n c o
  Alone Close c o = o ≡ closes closer.Call c
  Alone (PollSend m l task) c o =
      Where l.asks_first (AsksListener (waiting.Send m) l.key task c o (λ d. PollsSend m None task d o)) (PollsSend m l.key task c o)
  Alone PollFinishedSend c o = o ≡ says_only (reply.SendPoll poll.Pending) c
  Alone (PollRecv l task) c o =
      Where l.asks_first (AsksListener waiting.Receive l.key task c o (λ d. PollsReceive None task d o)) (PollsReceive l.key task c o)
  Alone (PollClosed key task) c o = PollsClosing key task c o
  Alone (PollNext key task) c o = AsksListener waiting.Stream key task c o (λ d. PollsStream None task d o)
  Alone (RefusePoll line message key) c o = o ≡ ends [] (is_refused line message key) c
  Alone (GiveUp line message key) c o = o ≡ ends [] (gives_up line message key) c
  Alone DropSender c o = o ≡ drops Senders None c
  Alone (DropReceiver key) c o = o ≡ drops Receivers key c
  Alone (CloneHandle side) c o = o ≡ clones side c
  Alone (Upgrade side) c o = o ≡ upgrades side c
  Alone (HandleCount side) c o = o ≡ says_only (reply.Count (count side c.wait_lists)) c
  Alone IsClosed c o = o ≡ says_only (reply.Flag c.queue.closed) c
  Alone IsEmpty c o = o ≡ says_only (reply.Flag (length c.queue.items == 0)) c
  Alone IsFull c o = o ≡ says_only (reply.Flag (is_filled c.queue)) c
  Alone Len c o = o ≡ says_only (reply.Count (length c.queue.items)) c
  Alone Capacity c o = o ≡ says_only (reply.Cap c.queue.capacity) c
  Alone IsTerminated c o = o ≡ says_only (reply.Flag (c.queue.closed && (length c.queue.items == 0))) c
  Alone (SendIsTerminated b) c o = o ≡ says_only (reply.Flag b) c
  Alone (SameChannel b) c o = o ≡ says_only (reply.Flag b) c
  Alone Make c o = o ≡ says_only reply.Made c
  Alone DropWeak c o = o ≡ says_only reply.Unit c
