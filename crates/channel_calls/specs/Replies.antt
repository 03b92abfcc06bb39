-- What a call may answer, whatever its cells hold: a reply of its own kind, and a refused message is its own. Over cells that
-- threads share this is all that is known of a step.
use Rattle.std.specs.Prelude.{◌≡◌, ℕ, ◌+◌, ◌<◌, ◌≤◌, [], length, Bool, true, false, Option, None, Some, Result, Ok, Err, MatchOption}
use Rattle.concurrent_queue.specs.Replies.{is_bounded, MayCall, MayAnswer}
use Rattle.concurrent_queue.specs.declared.call.QueueAsk.{QueueAsk}
use Rattle.concurrent_queue.specs.declared.call.QueueAsk.TheVariants as ask
use Rattle.concurrent_queue.specs.declared.call.QueueReply.{QueueReply}
use Rattle.concurrent_queue.specs.declared.cells.QueueForm.{QueueForm}
use Rattle.concurrent_queue.specs.declared.queue_call.QueueCall.{QueueCall}
use Rattle.futures.specs.declared.task.Poll.{Poll}
use Rattle.futures.specs.declared.task.Poll.TheVariants as poll
use Rattle.channel_calls.specs.declared.ask.ChannelAsk.{ChannelAsk}
use Rattle.channel_calls.specs.declared.ask.ChannelAsk.TheVariants as call
use Rattle.event_listener.specs.declared.error.ListenError.TheVariants as listen_error
use Rattle.channel_calls.specs.declared.error.Refused.{Refused}
use Rattle.channel_calls.specs.declared.error.Refused.TheVariants as refused
use Rattle.channel_calls.specs.declared.error.SendError.{SendError}
use Rattle.channel_calls.specs.declared.error.TrySendError.{TrySendError}
use Rattle.channel_calls.specs.declared.error.TrySendError.TheVariants as try_send_error
use Rattle.channel_calls.specs.declared.reply.Reply.{Reply}
use Rattle.channel_calls.specs.declared.reply.Reply.TheVariants as reply
use Rattle.channel_calls.specs.declared.stage.Purpose.{Purpose}
use Rattle.channel_calls.specs.declared.stage.Purpose.TheVariants as purpose
use Rattle.channel_calls.specs.declared.stage.Closer.{Closer}
use Rattle.channel_calls.specs.declared.stage.Closer.TheVariants as closer
use Rattle.channel_calls.specs.declared.stage.Ending.{Ending}
use Rattle.channel_calls.specs.declared.stage.WaitList.TheVariants.{Sends, Receives, Streams, Closings}
use Rattle.channel_calls.specs.declared.stage.Making.{Making}
use Rattle.channel_calls.specs.declared.stage.Making.TheVariants as making
use Rattle.channel_calls.specs.declared.stage.Stage.{Stage}
use Rattle.channel_calls.specs.declared.stage.Stage.TheVariants.{Trying, Working, Finished}
use Rattle.channel_calls.specs.declared.stage.NextStep.{NextStep}
use Rattle.channel_calls.specs.declared.stage.NextStep.TheVariants.{Tries, Works, Ends}
use Rattle.channel_calls.specs.declared.stage.Waiting.{Waiting}
use Rattle.channel_calls.specs.declared.stage.Waiting.TheVariants as waiting
use Rattle.channel_calls.specs.declared.stage.ListStep.{ListStep}
use Rattle.channel_calls.specs.declared.stage.ListStep.TheVariants.{TellReceive, TellStreams, TellSend, TellSends, TakeRoom, TellAll, Insert, Register, Leave, Lower, Count, Load, Raise}
use Rattle.channel_calls.specs.Asks.{kept_by}
use Rattle.channel_calls.specs.Errors.{unsent}
use Rattle.channel_calls.specs.Turns.{closer_ending, refused_reply}

module _ {T : Type 0} where
  -- ---- replies by kind; a refused message is the one that was handed in

  -- only a bounded channel is full, and only an unbounded one is out of memory for a message
  abbrev pub RefusesTrySend : Bool → T → Refused (TrySendError T) T → Type 0
  RefusesTrySend bounded v (refused.Plain (try_send_error.Full w)) = (w ≡ v) × (bounded ≡ true)
  RefusesTrySend bounded v (refused.Plain (try_send_error.Closed w)) = w ≡ v
  RefusesTrySend bounded v (refused.NoMemory w) = (w ≡ v) × (bounded ≡ false)
  RefusesTrySend bounded v (refused.SerialsUsedUp w) = ⊥

  abbrev pub RefusesForceSend : Bool → T → Refused (SendError T) T → Type 0
  RefusesForceSend bounded v (refused.Plain e) = unsent e ≡ v
  RefusesForceSend bounded v (refused.NoMemory w) = (w ≡ v) × (bounded ≡ false)
  RefusesForceSend bounded v (refused.SerialsUsedUp w) = ⊥

  abbrev pub SendsAtOnce : Bool → T → Reply T → Type 0
  SendsAtOnce bounded v (reply.TrySend (Ok u)) = Unit {0}
  SendsAtOnce bounded v (reply.TrySend (Err e)) = RefusesTrySend bounded v e
  SendsAtOnce bounded v _ = ⊥

  -- an unbounded channel displaces nothing
  abbrev pub ForcesIn : Bool → T → Reply T → Type 0
  ForcesIn bounded v (reply.ForceSend (Ok o)) = bounded ≡ false → o ≡ None
  ForcesIn bounded v (reply.ForceSend (Err e)) = RefusesForceSend bounded v e
  ForcesIn bounded v _ = ⊥

  abbrev pub IsTryRecv : Reply T → Type 0
  IsTryRecv (reply.TryRecv r) = Unit {0}
  IsTryRecv _ = ⊥

  -- of a receive of at most so many: none only where none is wanted, where there is no refusal
  abbrev pub GivesUpTo : ℕ → Reply T → Type 0
  GivesUpTo n (reply.RecvMany (Ok vs)) = (length vs ≤ n) × (vs ≡ [] → n ≡ 0)
  GivesUpTo n (reply.RecvMany (Err (refused.Plain e))) = 0 < n
  GivesUpTo n (reply.RecvMany (Err (refused.NoMemory u))) = 0 < n
  GivesUpTo n _ = ⊥

  abbrev pub IsFlag : Reply T → Type 0
  IsFlag (reply.Flag b) = Unit {0}
  IsFlag _ = ⊥

  abbrev pub IsCount : Reply T → Type 0
  IsCount (reply.Count n) = Unit {0}
  IsCount _ = ⊥

  abbrev pub IsCap : Reply T → Type 0
  IsCap (reply.Cap c) = Unit {0}
  IsCap _ = ⊥

  abbrev pub IsClosing : Closer → Reply T → Type 0
  IsClosing closer.Call (reply.Closed b) = Unit {0}
  IsClosing closer.Call _ = ⊥
  IsClosing _ r = Unit {0}

  -- a strong handle is cloned: it is made, or there are too many
  abbrev pub IsCloning : Reply T → Type 0
  IsCloning reply.Made = Unit {0}
  IsCloning reply.TooMany = Unit {0}
  IsCloning _ = ⊥

  -- a weak one is upgraded: it may be that none is made, too
  abbrev pub IsUpgrading : Reply T → Type 0
  IsUpgrading reply.Made = Unit {0}
  IsUpgrading reply.NotMade = Unit {0}
  IsUpgrading reply.TooMany = Unit {0}
  IsUpgrading _ = ⊥

  abbrev pub IsMaking : Making → Reply T → Type 0
  IsMaking making.Clone r = IsCloning r
  IsMaking making.Upgrade r = IsUpgrading r

  -- a poll of a send, with the message that stays with it
  abbrev pub SendsBy : T → Poll (Result Unit (Refused (SendError T) Unit)) → Option T → Type 0
  SendsBy v poll.Pending m = m ≡ Some v
  SendsBy v (poll.Ready (Ok u)) m = m ≡ None
  SendsBy v (poll.Ready (Err (refused.Plain e))) m = (unsent e ≡ v) × (m ≡ None)
  SendsBy v (poll.Ready (Err (refused.NoMemory u))) m = m ≡ Some v
  SendsBy v (poll.Ready (Err (refused.SerialsUsedUp u))) m = m ≡ Some v

  abbrev pub MayPoll : Waiting T → Reply T → Option T → Type 0
  MayPoll (waiting.Send v) (reply.SendPoll p) m = SendsBy v p m
  MayPoll (waiting.Send v) _ m = ⊥
  MayPoll waiting.Receive (reply.RecvPoll p) m = m ≡ None
  MayPoll waiting.Receive _ m = ⊥
  MayPoll waiting.Stream (reply.Next p) m = m ≡ None
  MayPoll waiting.Stream _ m = ⊥
  MayPoll waiting.Closing (reply.ClosedPoll p) m = m ≡ None
  MayPoll waiting.Closing _ m = ⊥

  -- ---- by how far a call has come: the reply, and the message that it leaves to its operation

  -- this is how it ends
  abbrev pub EndsBy : Ending T → Reply T → Option T → Type 0
  EndsBy e r m = (r ≡ e.reply) × (m ≡ e.message)

  -- a question, by what is asked
  abbrev pub MayTell : QueueAsk T → Reply T → Type 0
  MayTell ask.IsClosed r = IsFlag r
  MayTell ask.IsEmpty r = IsFlag r
  MayTell ask.IsFull r = IsFlag r
  MayTell ask.Len r = IsCount r
  MayTell ask.Capacity r = IsCap r
  MayTell _ r = Unit {0}

  -- a call of the queue that is made for this, and asks that
  abbrev pub MayTry : {W : Type 0} → QueueForm → Purpose T W → QueueAsk T → Reply T → Option T → Type 0
  MayTry b purpose.TrySend a r m = (v : T) → a ≡ ask.Push v → SendsAtOnce (is_bounded b) v r × (m ≡ None)
  MayTry b purpose.ForceSend a r m = (v : T) → a ≡ ask.ForcePush v → ForcesIn (is_bounded b) v r × (m ≡ None)
  MayTry b purpose.TryRecv a r m = a ≡ ask.Pop → IsTryRecv r × (m ≡ None)
  MayTry b (purpose.RecvMany g) a r m = a ≡ ask.Pop → GivesUpTo (length g.taken + (g.more + 1)) r × (m ≡ None)
  MayTry b (purpose.Poll Sends key task) a r m = (v : T) → a ≡ ask.Push v → MayPoll (waiting.Send v) r m
  MayTry b (purpose.Poll Receives key task) a r m = a ≡ ask.Pop → MayPoll waiting.Receive r m
  MayTry b (purpose.Poll Streams key task) a r m = a ≡ ask.Pop → MayPoll waiting.Stream r m
  MayTry b (purpose.Poll Closings key task) a r m = a ≡ ask.IsClosed → MayPoll waiting.Closing r m
  MayTry b (purpose.Close c) a r m = a ≡ ask.Close → IsClosing c r × (m ≡ None)
  MayTry b purpose.Ask a r m = MayTell a r × (m ≡ None)
  MayTry b purpose.IsTerminated a r m = a ≡ ask.IsClosed → IsFlag r × (m ≡ None)
  MayTry b (purpose.Upgrade side) a r m = a ≡ ask.IsClosed → IsUpgrading r × (m ≡ None)

  abbrev pub MayWork : {W : Type 0} → ListStep T W → Reply T → Option T → Type 0
  MayWork (TellReceive e) r m = EndsBy e r m
  MayWork (TellStreams e) r m = EndsBy e r m
  MayWork (TellSend e) r m = EndsBy e r m
  MayWork (TellSends n e) r m = EndsBy e r m
  MayWork (TakeRoom n) r m = GivesUpTo n r × (m ≡ None)
  MayWork (TellAll line c) r m = EndsBy (closer_ending c true) r m
  MayWork (Insert w task) r m = MayPoll w r m
  MayWork (Register w key task) r m = MayPoll w r m
  MayWork (Leave e) r m = EndsBy e r m
  MayWork (Lower side key) r m = Unit {0}
  MayWork (Count side) r m = IsCount r × (m ≡ None)
  MayWork (Load side k) r m = IsMaking k r × (m ≡ None)
  MayWork (Raise side from k) r m = IsMaking k r × (m ≡ None)

  abbrev pub MayTurn : {W : Type 0} → QueueForm → NextStep T W → Reply T → Option T → Type 0
  MayTurn b (Tries a x) r m = MayTry b x a r m
  MayTurn b (Works w) r m = MayWork w r m
  MayTurn b (Ends x kept) r m = (r ≡ x) × (m ≡ kept.message)

  -- a call of the queue under way: what may come for whatever it may still be the call for
  abbrev pub MayEnd : {W : Type 0} → QueueForm → Stage (QueueCall T) T W → Reply T → Option T → Type 0
  MayEnd b (Trying call x) r m = (a : QueueAsk T) → ((y : QueueReply T) → MayCall b call.state y → MayAnswer b a y) → MayTry b x a r m
  MayEnd b (Working w) r m = MayWork w r m
  MayEnd b (Finished kept) r m = ⊥

  -- what may come after this turn or stage might have come before, and so might the answer
  abbrev pub FollowsTurn : {W : Type 0} → QueueForm → NextStep T W → Stage (QueueCall T) T W → Option (Reply T) → Type 0
  FollowsTurn b turn s answer =
      MatchOption answer ((r : Reply T) (m : Option T) → MayEnd b s r m → MayTurn b turn r m) (λ r. MayTurn b turn r (kept_by s).message)

  abbrev pub FollowsStage : {W : Type 0} → QueueForm → Stage (QueueCall T) T W → Stage (QueueCall T) T W → Option (Reply T) → Type 0
  FollowsStage b s s' answer =
      MatchOption answer ((r : Reply T) (m : Option T) → MayEnd b s' r m → MayEnd b s r m) (λ r. MayEnd b s r (kept_by s').message)

  -- what may be answered to this, and the message that is left to its operation
  abbrev pub ReplyAllowed : {W : Type 0} → QueueForm → ChannelAsk T W → Reply T → Option T → Type 0
  ReplyAllowed b (call.TrySend v) r m = SendsAtOnce (is_bounded b) v r × (m ≡ None)
  ReplyAllowed b (call.ForceSend v) r m = ForcesIn (is_bounded b) v r × (m ≡ None)
  ReplyAllowed b call.TryRecv r m = IsTryRecv r × (m ≡ None)
  ReplyAllowed b (call.RecvMany n) r m = GivesUpTo n r × (m ≡ None)
  ReplyAllowed b call.Close r m = IsClosing closer.Call r × (m ≡ None)
  ReplyAllowed b (call.PollSend v key task) r m = MayPoll (waiting.Send v) r m
  ReplyAllowed b call.PollFinishedSend r m = (r ≡ reply.SendPoll poll.Pending) × (m ≡ None)
  ReplyAllowed b (call.PollRecv key task) r m = MayPoll waiting.Receive r m
  ReplyAllowed b (call.PollClosed key task) r m = MayPoll waiting.Closing r m
  ReplyAllowed b (call.PollNext key task) r m = MayPoll waiting.Stream r m
  ReplyAllowed b (call.RefusePoll line v key) r m = (r ≡ refused_reply line listen_error.NoMemory) × (m ≡ v)
  ReplyAllowed b (call.GiveUp line v key) r m = (r ≡ reply.GivenUp v) × (m ≡ None)
  ReplyAllowed b call.DropSender r m = Unit {0}
  ReplyAllowed b (call.DropReceiver key) r m = Unit {0}
  ReplyAllowed b (call.CloneHandle side) r m = IsCloning r × (m ≡ None)
  ReplyAllowed b (call.Upgrade side) r m = IsUpgrading r × (m ≡ None)
  ReplyAllowed b (call.HandleCount side) r m = IsCount r × (m ≡ None)
  ReplyAllowed b call.IsClosed r m = IsFlag r × (m ≡ None)
  ReplyAllowed b call.IsEmpty r m = IsFlag r × (m ≡ None)
  ReplyAllowed b call.IsFull r m = IsFlag r × (m ≡ None)
  ReplyAllowed b call.Len r m = IsCount r × (m ≡ None)
  ReplyAllowed b call.Capacity r m = IsCap r × (m ≡ None)
  ReplyAllowed b call.IsTerminated r m = IsFlag r × (m ≡ None)
  ReplyAllowed b (call.SendIsTerminated x) r m = (r ≡ reply.Flag x) × (m ≡ None)
  ReplyAllowed b (call.SameChannel x) r m = (r ≡ reply.Flag x) × (m ≡ None)
  ReplyAllowed b call.Make r m = (r ≡ reply.Made) × (m ≡ None)
  ReplyAllowed b call.DropWeak r m = (r ≡ reply.Unit) × (m ≡ None)
