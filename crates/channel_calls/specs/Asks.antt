-- What a call of a channel is asked for, and how it begins.
use Rattle.std.specs.Prelude.{Option, None, Some, true, false, if◌then◌else◌}
use Rattle.concurrent_queue.specs.declared.call.QueueAsk.TheVariants as ask
use Rattle.event_listener.specs.declared.key.Key.{Key}
use Rattle.event_listener.specs.declared.error.ListenError.TheVariants as listen_error
use Rattle.futures.specs.declared.task.Poll.TheVariants as poll
use Rattle.channel_calls.specs.declared.ask.ChannelAsk.{ChannelAsk}
use Rattle.channel_calls.specs.declared.ask.ChannelAsk.TheVariants.{TrySend, ForceSend, TryRecv, RecvMany, Close, PollSend, PollFinishedSend, PollRecv, PollClosed, PollNext, RefusePoll, GiveUp, DropSender, DropReceiver, CloneHandle, Upgrade, HandleCount, IsClosed, IsEmpty, IsFull, Len, Capacity, IsTerminated, SendIsTerminated, SameChannel, Make, DropWeak}
use Rattle.channel_calls.specs.declared.ask.Loan.{Loan}
use Rattle.channel_calls.specs.declared.reply.Reply.TheVariants as reply
use Rattle.channel_calls.specs.declared.stage.Purpose.TheVariants as purpose
use Rattle.channel_calls.specs.declared.stage.Closer.TheVariants as closer
use Rattle.channel_calls.specs.declared.stage.Ending.{Ending}
use Rattle.channel_calls.specs.declared.stage.Returned.{Returned}
use Rattle.channel_calls.specs.declared.stage.WaitList.{WaitList}
use Rattle.channel_calls.specs.declared.stage.Making.TheVariants as making
use Rattle.channel_calls.specs.declared.stage.Side.TheVariants.{Senders, Receivers}
use Rattle.channel_calls.specs.declared.stage.Stage.{Stage}
use Rattle.channel_calls.specs.declared.stage.Stage.TheVariants as stage
use Rattle.channel_calls.specs.declared.stage.NextStep.{NextStep}
use Rattle.channel_calls.specs.declared.stage.NextStep.TheVariants.{Tries, Works}
use Rattle.channel_calls.specs.declared.stage.Waiting.{Waiting}
use Rattle.channel_calls.specs.declared.stage.Waiting.TheVariants as waiting
use Rattle.channel_calls.specs.declared.stage.ListStep.TheVariants as work
use Rattle.channel_calls.specs.Turns.{says, held_on, refused_reply, again, nothing_kept}

-- what is lent to a poll that tries first, and to one that asks its listener first
abbrev pub lent : Option Key → Loan
lent key = record { key = key; asks_first = false }

abbrev pub woken : Key → Loan
woken key = record { key = Some key; asks_first = true }

module _ {T : Type 0} where
  -- a poll for which there was no copy of the waker, and the giving up of an operation
  abbrev pub is_refused : WaitList → Option T → Option Key → Ending T
  is_refused line message key = record { reply = refused_reply line listen_error.NoMemory; message = message; held = held_on line key }

  abbrev pub gives_up : WaitList → Option T → Option Key → Ending T
  gives_up line message key = record { reply = reply.GivenUp message; message = None; held = held_on line key }

  -- what a call that has answered leaves
  abbrev pub kept_by : {Q W : Type 0} → Stage Q T W → Returned T
  kept_by (stage.Finished kept) = kept
  kept_by (stage.Trying call purpose) = nothing_kept
  kept_by (stage.Working w) = nothing_kept

module _ {T W : Type 0} where
  -- a poll that asks its listener before it tries; without one it tries
  abbrev pub asks_listener : Waiting T → Option Key → W → NextStep T W
  asks_listener w None task = again w None task
  asks_listener w (Some key) task = Works (work.Register w key task)

  abbrev pub begins : Waiting T → Loan → W → NextStep T W
  begins w l task = if l.asks_first then asks_listener w l.key task else again w l.key task

  -- the first turn of a call
  abbrev pub first : ChannelAsk T W → NextStep T W
  first (TrySend m) = Tries (ask.Push m) purpose.TrySend
  first (ForceSend m) = Tries (ask.ForcePush m) purpose.ForceSend
  first TryRecv = Tries ask.Pop purpose.TryRecv
  first (RecvMany n) = Works (work.TakeRoom n)
  first Close = Tries ask.Close (purpose.Close closer.Call)
  first (PollSend m l task) = begins (waiting.Send m) l task
  first PollFinishedSend = Works (work.Leave (says (reply.SendPoll poll.Pending)))
  first (PollRecv l task) = begins waiting.Receive l task
  first (PollClosed key task) = again waiting.Closing key task
  first (PollNext key task) = asks_listener waiting.Stream key task
  first (RefusePoll line message key) = Works (work.Leave (is_refused line message key))
  first (GiveUp line message key) = Works (work.Leave (gives_up line message key))
  first DropSender = Works (work.Lower Senders None)
  first (DropReceiver key) = Works (work.Lower Receivers key)
  first (CloneHandle side) = Works (work.Load side making.Clone)
  first (Upgrade side) = Tries ask.IsClosed (purpose.Upgrade side)
  first (HandleCount side) = Works (work.Count side)
  first IsClosed = Tries ask.IsClosed purpose.Ask
  first IsEmpty = Tries ask.IsEmpty purpose.Ask
  first IsFull = Tries ask.IsFull purpose.Ask
  first Len = Tries ask.Len purpose.Ask
  first Capacity = Tries ask.Capacity purpose.Ask
  first IsTerminated = Tries ask.IsClosed purpose.IsTerminated
  first (SendIsTerminated b) = Works (work.Leave (says (reply.Flag b)))
  first (SameChannel b) = Works (work.Leave (says (reply.Flag b)))
  first Make = Works (work.Leave (says reply.Made))
  first DropWeak = Works (work.Leave (says reply.Unit))
