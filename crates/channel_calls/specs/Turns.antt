-- What comes after each step of a call on a list or on a count.
use Rattle.std.specs.Prelude.{◌≡◌, ◌⊎◌, ℕ, zero, suc, ◌<◌, ◌-◌, ◌/◌, ◌^◌, ◌==◌, Bool, true, false, if◌then◌else◌, nat_lt, [], Option, None, Some, Result, Ok, Err}
use Rattle.concurrent_queue.specs.declared.call.QueueAsk.{QueueAsk}
use Rattle.concurrent_queue.specs.declared.call.QueueAsk.TheVariants as ask
use Rattle.event_listener.specs.declared.key.Key.{Key}
use Rattle.event_listener.specs.declared.error.ListenError.{ListenError}
use Rattle.event_listener.specs.declared.error.ListenError.TheVariants as listen_error
use Rattle.futures.specs.declared.task.Poll.TheVariants as poll
use Rattle.channel_calls.specs.declared.error.Refused.{Refused}
use Rattle.channel_calls.specs.declared.error.Refused.TheVariants as refused
use Rattle.channel_calls.specs.declared.reply.Reply.{Reply}
use Rattle.channel_calls.specs.declared.reply.Reply.TheVariants as reply
use Rattle.channel_calls.specs.declared.stage.Purpose.TheVariants as purpose
use Rattle.channel_calls.specs.declared.stage.Closer.{Closer}
use Rattle.channel_calls.specs.declared.stage.Closer.TheVariants as closer
use Rattle.channel_calls.specs.declared.stage.Ending.{Ending}
use Rattle.channel_calls.specs.declared.stage.ListenerRef.{ListenerRef}
use Rattle.channel_calls.specs.declared.stage.Returned.{Returned}
use Rattle.channel_calls.specs.declared.stage.WaitList.{WaitList}
use Rattle.channel_calls.specs.declared.stage.WaitList.TheVariants.{Sends, Receives, Streams, Closings}
use Rattle.channel_calls.specs.declared.stage.Making.{Making}
use Rattle.channel_calls.specs.declared.stage.Making.TheVariants as making
use Rattle.channel_calls.specs.declared.stage.Side.{Side}
use Rattle.channel_calls.specs.declared.stage.Side.TheVariants.{Senders, Receivers}
use Rattle.channel_calls.specs.declared.stage.NextStep.{NextStep}
use Rattle.channel_calls.specs.declared.stage.NextStep.TheVariants.{Tries, Works, Ends}
use Rattle.channel_calls.specs.declared.stage.Waiting.{Waiting}
use Rattle.channel_calls.specs.declared.stage.Waiting.TheVariants as waiting
use Rattle.channel_calls.specs.declared.stage.ListStep.TheVariants as work
use Rattle.channel_calls.specs.Several.{gathering}

-- the greatest count that may be raised: half of the greatest number of the machine
abbrev pub most : ℕ
most = (2 ^ 64 - 1) / 2

-- the listener under this key on this list
abbrev pub held_on : WaitList → Option Key → Option ListenerRef
held_on line None = None
held_on line (Some key) = Some (record { line = line; key = key })

-- which call closes if the last handle of this kind is dropped
abbrev pub dropper : Side → Option Key → Closer
dropper Senders key = closer.Sender
dropper Receivers key = closer.Receiver key

-- a refusal for want of memory or of serials
abbrev pub want : {E : Type 0} → ListenError → Refused E Unit
want listen_error.NoMemory = refused.NoMemory tt
want listen_error.SerialsUsedUp = refused.SerialsUsedUp tt

module _ {T : Type 0} where
  -- the list on which an operation waits, the message that it keeps, and what its try asks of the queue
  abbrev pub line_of : Waiting T → WaitList
  line_of (waiting.Send m) = Sends
  line_of waiting.Receive = Receives
  line_of waiting.Stream = Streams
  line_of waiting.Closing = Closings

  abbrev pub message_of : Waiting T → Option T
  message_of (waiting.Send m) = Some m
  message_of waiting.Receive = None
  message_of waiting.Stream = None
  message_of waiting.Closing = None

  abbrev pub ask_of : Waiting T → QueueAsk T
  ask_of (waiting.Send m) = ask.Push m
  ask_of waiting.Receive = ask.Pop
  ask_of waiting.Stream = ask.Pop
  ask_of waiting.Closing = ask.IsClosed

  -- what a finished call leaves: a listener, a message
  abbrev pub leaving : Option Key → Option T → Returned T
  leaving key message = record { key = key; message = message }

  abbrev pub nothing_kept : Returned T
  nothing_kept = leaving None None

  -- an answer, with nothing kept and no listener to drop
  abbrev pub says : Reply T → Ending T
  says x = record { reply = x; message = None; held = None }

  -- what a poll of this kind answers while it waits
  abbrev pub pending_reply : WaitList → Reply T
  pending_reply Sends = reply.SendPoll poll.Pending
  pending_reply Receives = reply.RecvPoll poll.Pending
  pending_reply Streams = reply.Next poll.Pending
  pending_reply Closings = reply.ClosedPoll poll.Pending

  -- and if memory or a serial was refused
  abbrev pub refused_reply : WaitList → ListenError → Reply T
  refused_reply Sends e = reply.SendPoll (poll.Ready (Err (want e)))
  refused_reply Receives e = reply.RecvPoll (poll.Ready (Err (want e)))
  refused_reply Streams e = reply.Next (poll.Ready (Some (Err e)))
  refused_reply Closings e = reply.ClosedPoll (poll.Ready (Err e))

  -- how a closing ends, if this call closed the channel or not
  abbrev pub closer_ending : Closer → Bool → Ending T
  closer_ending closer.Call closed = says (reply.Closed closed)
  closer_ending closer.Sender closed = says reply.Unit
  closer_ending (closer.Receiver key) closed = record { reply = reply.Unit; message = None; held = held_on Streams key }

module _ {T W : Type 0} where
  -- what is answered by this turn
  abbrev pub answer_of : NextStep T W → Option (Reply T)
  answer_of (Tries x a) = None
  answer_of (Works w) = None
  answer_of (Ends x kept) = Some x

  -- the call answers, or drops the listener that it still holds and answers then
  abbrev pub ends_by : Ending T → NextStep T W
  ends_by e = elim e.held [ None ↦ Ends e.reply (leaving None e.message) | Some held ↦ Works (work.Leave e) ]

  -- a poll tries once more, over the same or no listener
  abbrev pub again : Waiting T → Option Key → W → NextStep T W
  again w key task = Tries (ask_of w) (purpose.Poll (line_of w) key task)

  -- a poll that the channel refused listens, or asks the listener that it holds
  abbrev pub refused_next : Waiting T → Option Key → W → NextStep T W
  refused_next w None task = Works (work.Insert w task)
  refused_next w (Some key) task = Works (work.Register w key task)

  -- a poll ends pending, its operation keeping its listener and its message
  abbrev pub pends_by : Waiting T → Key → NextStep T W
  pends_by w key = Ends (pending_reply (line_of w)) (leaving (Some key) (message_of w))

  -- a poll that was not let listen ends without a listener, its operation keeping its message
  abbrev pub unlistened : Waiting T → ListenError → NextStep T W
  unlistened w e = Ends (refused_reply (line_of w) e) (leaving None (message_of w))

  -- a poll whose listener is in tries once more; one whose listener was refused ends
  abbrev pub inserted_next : Waiting T → W → Result Key ListenError → NextStep T W
  inserted_next w task (Ok key) = again w (Some key) task
  inserted_next w task (Err e) = unlistened w e

  -- a poll whose listener was told, and is gone, tries once more with the task that came back; one whose listener waits ends pending
  abbrev pub registered_next : Waiting T → Key → Option W → NextStep T W
  registered_next w key (Some task) = again w None task
  registered_next w key None = pends_by w key

  -- a closing tells sends, receives, streams and those that wait for it, in this order
  abbrev pub told_all_next : WaitList → Closer → NextStep T W
  told_all_next Sends c = Works (work.TellAll Receives c)
  told_all_next Receives c = Works (work.TellAll Streams c)
  told_all_next Streams c = Works (work.TellAll Closings c)
  told_all_next Closings c = ends_by (closer_ending c true)

  -- room is taken for so many messages at most, and the first one is tried for; if none is wanted, nothing is
  abbrev pub room_next : ℕ → NextStep T W
  room_next zero = Ends (reply.RecvMany (Ok [])) nothing_kept
  room_next (suc n) = Tries ask.Pop (purpose.RecvMany (gathering n))

  -- or there is no memory, which is taken for none
  abbrev pub roomless : NextStep T W
  roomless = Ends (reply.RecvMany (Err (refused.NoMemory tt))) nothing_kept

  abbrev pub TakesRoom : ℕ → NextStep T W → Type 0
  TakesRoom n turn = (turn ≡ room_next n) ⊎ ((0 < n) × (turn ≡ roomless))

  -- the drop of the last handle of its kind closes
  abbrev pub lowered_next : Side → Option Key → ℕ → NextStep T W
  lowered_next side key before =
      if before == 1 then Tries ask.Close (purpose.Close (dropper side key)) else ends_by (closer_ending (dropper side key) false)

  -- a count that was read to be raised
  abbrev pub counted_next : Side → Making → ℕ → NextStep T W
  counted_next side m n = if nat_lt most n then Ends reply.TooMany nothing_kept else Works (work.Raise side n m)

  abbrev pub loaded_next : Side → Making → ℕ → NextStep T W
  loaded_next side making.Clone n = counted_next side making.Clone n
  loaded_next side making.Upgrade n = if n == 0 then Ends reply.NotMade nothing_kept else counted_next side making.Upgrade n

  -- a count that was raised, or that another call changed before
  abbrev pub raised_next : Side → Making → Bool → NextStep T W
  raised_next side m true = Ends reply.Made nothing_kept
  raised_next side m false = Works (work.Load side m)
