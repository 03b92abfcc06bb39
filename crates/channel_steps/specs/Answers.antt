-- What each reply of a call says of the call's marks and moments, and what a call leaves to its operation.
use Rattle.std.specs.Prelude.{◌≡◌, ℕ, ◌<◌, ◌++◌, Bool, true, false, List, [], length, Option, None, Some, IsSome, Ok, Err, ◌⊎◌}
use Rattle.concurrent_queue.specs.Queue.{is_filled}
use Rattle.event_listener.specs.declared.error.ListenError.TheVariants as listen_error
use Rattle.futures.specs.declared.task.Poll.TheVariants.{Ready, Pending}
use Rattle.channel_calls.specs.Moves.{Channel}
use Rattle.channel_calls.specs.Parts.{count}
use Rattle.channel_calls.specs.Turns.{leaving, nothing_kept, refused_reply}
use Rattle.channel_calls.specs.declared.ask.ChannelAsk.{ChannelAsk}
use Rattle.channel_calls.specs.declared.ask.ChannelAsk.TheVariants.{TrySend, ForceSend, TryRecv, RecvMany, Close, PollSend, PollFinishedSend, PollRecv, PollClosed, PollNext, RefusePoll, GiveUp, DropSender, DropReceiver, CloneHandle, Upgrade, HandleCount, IsClosed, IsEmpty, IsFull, Len, Capacity, IsTerminated, SendIsTerminated, SameChannel, Make}
use Rattle.channel_calls.specs.declared.ask.Loan.{Loan}
use Rattle.channel_calls.specs.declared.error.Refused.TheVariants as refused
use Rattle.channel_calls.specs.declared.error.TrySendError.TheVariants as try_send_error
use Rattle.channel_calls.specs.declared.error.TryRecvError.TheVariants as try_recv_error
use Rattle.channel_calls.specs.declared.reply.Reply.{Reply}
use Rattle.channel_calls.specs.declared.reply.Reply.TheVariants as reply
use Rattle.channel_calls.specs.declared.stage.Returned.{Returned}
use Rattle.channel_calls.specs.declared.stage.WaitList.{WaitList}
use Rattle.channel_calls.specs.declared.stage.WaitList.TheVariants.{Sends, Receives, Streams, Closings}
use Rattle.channel_calls.specs.declared.stage.Side.{Side}
use Rattle.channel_calls.specs.declared.stage.Side.TheVariants.{Senders, Receivers}
use Rattle.channel_steps.specs.Moments.{MarkedMoment, Open, Shut, Crowded, Bare, Spent, Unbounded, is_empty, TooManyOf, Once, Since, Appended, Took, Replaced, Displaced, TookAll, RanOut, ClosedIt, CountRaised, Upgraded, Dropped}

module _ {T : Type 0} where
  -- what a finished poll leaves to its operation, whose message is m
  -- a pending one keeps its listener and its message; one that is refused for memory or serials its message alone
  abbrev pub PollKeeps : Option T → Reply T → Returned T → Type 0
  PollKeeps m (reply.SendPoll Pending) k = IsSome k.key × (k.message ≡ m)
  PollKeeps m (reply.RecvPoll Pending) k = IsSome k.key × (k.message ≡ m)
  PollKeeps m (reply.ClosedPoll Pending) k = IsSome k.key × (k.message ≡ m)
  PollKeeps m (reply.Next Pending) k = IsSome k.key × (k.message ≡ m)
  PollKeeps m (reply.SendPoll (Ready (Err (refused.NoMemory u)))) k = k ≡ leaving None m
  PollKeeps m (reply.SendPoll (Ready (Err (refused.SerialsUsedUp u)))) k = k ≡ leaving None m
  PollKeeps m r k = k ≡ nothing_kept

module _ {T W : Type 0} where
  -- what an operation of this kind waits for did not hold at a moment of its poll; of a stream nothing is said
  abbrev pub WaitsFor : WaitList → List (Channel T W) → Type 0
  WaitsFor Sends seen = Once Crowded seen
  WaitsFor Receives seen = Once Bare seen
  WaitsFor Streams seen = Unit {0}
  WaitsFor Closings seen = Once Open seen

  -- the poll of a send or a receive asks its listener before it tries
  abbrev pub asks_first : ChannelAsk T W → Bool
  asks_first (PollSend m l task) = l.asks_first
  asks_first (PollRecv l task) = l.asks_first
  asks_first ask = false

  -- ---- the marks and the moments of a call that gives this reply

  abbrev pub TrySendRow : T → List (MarkedMoment T W) → List (Channel T W) → Reply T → Type 0
  TrySendRow m ds seen (reply.TrySend (Ok u)) = Appended ds
  TrySendRow m ds seen (reply.TrySend (Err (refused.Plain (try_send_error.Full v)))) = (v ≡ m) × (ds ≡ []) × Once Crowded seen
  TrySendRow m ds seen (reply.TrySend (Err (refused.Plain (try_send_error.Closed v)))) = (v ≡ m) × (ds ≡ []) × Once Shut seen
  TrySendRow m ds seen (reply.TrySend (Err (refused.NoMemory v))) = (v ≡ m) × (ds ≡ []) × Once Unbounded seen
  TrySendRow m ds seen _ = ⊥

  abbrev pub ForceSendRow : T → List (MarkedMoment T W) → List (Channel T W) → Reply T → Type 0
  ForceSendRow m ds seen (reply.ForceSend (Ok None)) = Appended ds
  ForceSendRow m ds seen (reply.ForceSend (Ok (Some d))) = Replaced ds d ⊎ Displaced ds d
  ForceSendRow m ds seen (reply.ForceSend (Err (refused.Plain e))) = (e.0 ≡ m) × (ds ≡ []) × Once Shut seen
  ForceSendRow m ds seen (reply.ForceSend (Err (refused.NoMemory v))) = (v ≡ m) × (ds ≡ []) × Once Unbounded seen
  ForceSendRow m ds seen _ = ⊥

  abbrev pub TryRecvRow : List (MarkedMoment T W) → List (Channel T W) → Reply T → Type 0
  TryRecvRow ds seen (reply.TryRecv (Ok v)) = Took ds v
  TryRecvRow ds seen (reply.TryRecv (Err try_recv_error.Empty)) = (ds ≡ []) × Once Bare seen
  TryRecvRow ds seen (reply.TryRecv (Err try_recv_error.Closed)) = (ds ≡ []) × Once Spent seen
  TryRecvRow ds seen _ = ⊥

  -- at most so many messages, each the oldest one when it was taken; fewer only where the channel held no more at a moment after
  -- the last one
  abbrev pub SeveralRow : ℕ → List (MarkedMoment T W) → List (Channel T W) → Reply T → Type 0
  SeveralRow n ds seen (reply.RecvMany (Ok vs)) = TookAll ds vs × ((length vs ≡ n) ⊎ ((length vs < n) × RanOut ds seen))
  SeveralRow n ds seen (reply.RecvMany (Err (refused.Plain try_recv_error.Empty))) = (ds ≡ []) × (0 < n) × Once Bare seen
  SeveralRow n ds seen (reply.RecvMany (Err (refused.Plain try_recv_error.Closed))) = (ds ≡ []) × (0 < n) × Once Spent seen
  SeveralRow n ds seen (reply.RecvMany (Err (refused.NoMemory u))) = (ds ≡ []) × (0 < n)
  SeveralRow n ds seen _ = ⊥

  -- of a poll that waits, and asked its listener first, nothing is said but that it made no mark
  abbrev pub SendPollRow : T → Loan → List (MarkedMoment T W) → List (Channel T W) → Reply T → Type 0
  SendPollRow m l ds seen (reply.SendPoll (Ready (Ok u))) = Appended ds
  SendPollRow m l ds seen (reply.SendPoll (Ready (Err (refused.Plain e)))) = (e.0 ≡ m) × (ds ≡ []) × Once Shut seen
  SendPollRow m l ds seen (reply.SendPoll (Ready (Err (refused.NoMemory u)))) = (ds ≡ []) × Once Open seen
  SendPollRow m l ds seen (reply.SendPoll (Ready (Err (refused.SerialsUsedUp u)))) = (ds ≡ []) × WaitsFor Sends seen
  SendPollRow m l ds seen (reply.SendPoll Pending) = (ds ≡ []) × (l.asks_first ≡ false → WaitsFor Sends seen)
  SendPollRow m l ds seen _ = ⊥

  abbrev pub RecvPollRow : Loan → List (MarkedMoment T W) → List (Channel T W) → Reply T → Type 0
  RecvPollRow l ds seen (reply.RecvPoll (Ready (Ok v))) = Took ds v
  RecvPollRow l ds seen (reply.RecvPoll (Ready (Err (refused.Plain e)))) = (ds ≡ []) × Once Spent seen
  RecvPollRow l ds seen (reply.RecvPoll (Ready (Err (refused.NoMemory u)))) = (ds ≡ []) × WaitsFor Receives seen
  RecvPollRow l ds seen (reply.RecvPoll (Ready (Err (refused.SerialsUsedUp u)))) = (ds ≡ []) × WaitsFor Receives seen
  RecvPollRow l ds seen (reply.RecvPoll Pending) = (ds ≡ []) × (l.asks_first ≡ false → WaitsFor Receives seen)
  RecvPollRow l ds seen _ = ⊥

  abbrev pub ClosedPollRow : List (MarkedMoment T W) → List (Channel T W) → Reply T → Type 0
  ClosedPollRow ds seen (reply.ClosedPoll (Ready (Ok u))) = (ds ≡ []) × Once Shut seen
  ClosedPollRow ds seen (reply.ClosedPoll (Ready (Err e))) = (ds ≡ []) × WaitsFor Closings seen
  ClosedPollRow ds seen (reply.ClosedPoll Pending) = (ds ≡ []) × WaitsFor Closings seen
  ClosedPollRow ds seen _ = ⊥

  abbrev pub NextRow : List (MarkedMoment T W) → List (Channel T W) → Reply T → Type 0
  NextRow ds seen (reply.Next (Ready (Some (Ok v)))) = Took ds v
  NextRow ds seen (reply.Next (Ready (Some (Err e)))) = ds ≡ []
  NextRow ds seen (reply.Next (Ready None)) = (ds ≡ []) × Once Spent seen
  NextRow ds seen (reply.Next Pending) = (ds ≡ []) × WaitsFor Streams seen
  NextRow ds seen _ = ⊥

  abbrev pub CloseRow : List (MarkedMoment T W) → List (Channel T W) → Reply T → Type 0
  CloseRow ds seen (reply.Closed true) = ClosedIt ds
  CloseRow ds seen (reply.Closed false) = (ds ≡ []) × Once Shut seen
  CloseRow ds seen _ = ⊥

  abbrev pub CloneRow : Side → List (MarkedMoment T W) → List (Channel T W) → Reply T → Type 0
  CloneRow side ds seen reply.Made = CountRaised side ds
  CloneRow side ds seen reply.TooMany = (ds ≡ []) × Once (TooManyOf side) seen
  CloneRow side ds seen _ = ⊥

  abbrev pub UpgradeRow : Side → List (MarkedMoment T W) → List (Channel T W) → Reply T → Type 0
  UpgradeRow side ds seen reply.Made = Upgraded side ds
  UpgradeRow side ds seen reply.NotMade = (ds ≡ []) × Once (λ c. Shut c ⊎ (count side c.wait_lists ≡ 0)) seen
  UpgradeRow side ds seen reply.TooMany = (ds ≡ []) × Since Open (TooManyOf side) seen
  UpgradeRow side ds seen _ = ⊥

  -- a question: the answer was so at one moment
  abbrev pub FlagRow : (Channel T W → Bool) → List (MarkedMoment T W) → List (Channel T W) → Reply T → Type 0
  FlagRow test ds seen (reply.Flag b) = (ds ≡ []) × Once (λ c. test c ≡ b) seen
  FlagRow test ds seen _ = ⊥

  abbrev pub CountRow : (Channel T W → ℕ) → List (MarkedMoment T W) → List (Channel T W) → Reply T → Type 0
  CountRow number ds seen (reply.Count n) = (ds ≡ []) × Once (λ c. number c ≡ n) seen
  CountRow number ds seen _ = ⊥

  abbrev pub CapacityRow : List (MarkedMoment T W) → List (Channel T W) → Reply T → Type 0
  CapacityRow ds seen (reply.Cap cap) = (ds ≡ []) × Once (λ c. c.queue.capacity ≡ cap) seen
  CapacityRow ds seen _ = ⊥

  -- a receiver that got its last message: closed at a moment, and then or later empty
  abbrev pub TerminatedRow : List (MarkedMoment T W) → List (Channel T W) → Reply T → Type 0
  TerminatedRow ds seen (reply.Flag true) = (ds ≡ []) × Since Shut (λ c. is_empty c ≡ true) seen
  TerminatedRow ds seen (reply.Flag false) = (ds ≡ []) × Once (λ c. Open c ⊎ (is_empty c ≡ false)) seen
  TerminatedRow ds seen _ = ⊥

  -- what a call answers that touches nothing, and so has one answer
  abbrev pub sole_reply : ChannelAsk T W → Reply T
  sole_reply PollFinishedSend = reply.SendPoll Pending
  sole_reply (RefusePoll line message key) = refused_reply line listen_error.NoMemory
  sole_reply (GiveUp line message key) = reply.GivenUp message
  sole_reply (SendIsTerminated b) = reply.Flag b
  sole_reply (SameChannel b) = reply.Flag b
  sole_reply Make = reply.Made
  sole_reply ask = reply.Unit

  abbrev pub Row : ChannelAsk T W → List (MarkedMoment T W) → List (Channel T W) → Reply T → Type 0
  Row (TrySend m) ds seen r = TrySendRow m ds seen r
  Row (ForceSend m) ds seen r = ForceSendRow m ds seen r
  Row TryRecv ds seen r = TryRecvRow ds seen r
  Row (RecvMany n) ds seen r = SeveralRow n ds seen r
  Row Close ds seen r = CloseRow ds seen r
  Row (PollSend m l task) ds seen r = SendPollRow m l ds seen r
  Row (PollRecv l task) ds seen r = RecvPollRow l ds seen r
  Row (PollClosed key task) ds seen r = ClosedPollRow ds seen r
  Row (PollNext key task) ds seen r = NextRow ds seen r
  Row DropSender ds seen r = Dropped Senders ds seen × (r ≡ reply.Unit)
  Row (DropReceiver key) ds seen r = Dropped Receivers ds seen × (r ≡ reply.Unit)
  Row (CloneHandle side) ds seen r = CloneRow side ds seen r
  Row (Upgrade side) ds seen r = UpgradeRow side ds seen r
  Row (HandleCount side) ds seen r = CountRow (λ c. count side c.wait_lists) ds seen r
  Row IsClosed ds seen r = FlagRow (λ c. c.queue.closed) ds seen r
  Row IsEmpty ds seen r = FlagRow is_empty ds seen r
  Row IsFull ds seen r = FlagRow (λ c. is_filled c.queue) ds seen r
  Row Len ds seen r = CountRow (λ c. length c.queue.items) ds seen r
  Row Capacity ds seen r = CapacityRow ds seen r
  Row IsTerminated ds seen r = TerminatedRow ds seen r
  Row ask ds seen r = (ds ≡ []) × (r ≡ sole_reply ask)

  -- ---- what a finished call leaves to its operation

  abbrev pub Keeps : ChannelAsk T W → Reply T → Returned T → Type 0
  Keeps (PollSend m l task) r k = PollKeeps (Some m) r k
  Keeps (PollRecv l task) r k = PollKeeps None r k
  Keeps (PollClosed key task) r k = PollKeeps None r k
  Keeps (PollNext key task) r k = PollKeeps None r k
  Keeps (RefusePoll line message key) r k = k ≡ leaving None message
  Keeps ask r k = k ≡ nothing_kept

  -- by some moment of the call, its marks and moments were what its reply says
  abbrev pub Met : ChannelAsk T W → List (MarkedMoment T W) → List (Channel T W) → Reply T → Type 0
  Met ask ds seen r = (newer older : List (Channel T W)) × (seen ≡ newer ++ older) × Row ask ds older r
