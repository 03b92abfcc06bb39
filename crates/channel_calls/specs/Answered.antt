-- What comes after each answer of a channel's queue.
use Rattle.std.specs.Prelude.{true, false, List, [], ◌∷◌, length, Option, None, Some, Result, Ok, Err}
use Rattle.concurrent_queue.specs.declared.call.QueueAsk.TheVariants as ask
use Rattle.concurrent_queue.specs.declared.call.QueueReply.{QueueReply}
use Rattle.concurrent_queue.specs.declared.call.QueueReply.TheVariants.{Push, Force, Pop, Close, Flag, Count, Cap}
use Rattle.concurrent_queue.specs.declared.error.PushError.TheVariants as push_error
use Rattle.concurrent_queue.specs.declared.error.ForcePushError.TheVariants as force_error
use Rattle.concurrent_queue.specs.declared.error.PopError.TheVariants as pop_error
use Rattle.event_listener.specs.declared.key.Key.{Key}
use Rattle.futures.specs.declared.task.Poll.TheVariants.{Ready}
use Rattle.channel_calls.specs.declared.error.Refused.TheVariants as refused
use Rattle.channel_calls.specs.declared.error.TrySendError.TheVariants as try_send_error
use Rattle.channel_calls.specs.declared.error.TryRecvError.{TryRecvError}
use Rattle.channel_calls.specs.declared.error.TryRecvError.TheVariants as try_recv_error
use Rattle.channel_calls.specs.declared.reply.Reply.{Reply}
use Rattle.channel_calls.specs.declared.reply.Reply.TheVariants as reply
use Rattle.channel_calls.specs.declared.stage.Purpose.{Purpose}
use Rattle.channel_calls.specs.declared.stage.Purpose.TheVariants as purpose
use Rattle.channel_calls.specs.declared.stage.Closer.{Closer}
use Rattle.channel_calls.specs.declared.stage.Ending.{Ending}
use Rattle.channel_calls.specs.declared.stage.WaitList.{WaitList}
use Rattle.channel_calls.specs.declared.stage.WaitList.TheVariants.{Sends, Receives, Streams, Closings}
use Rattle.channel_calls.specs.declared.stage.Making.TheVariants.{Upgrade}
use Rattle.channel_calls.specs.declared.stage.Side.{Side}
use Rattle.channel_calls.specs.declared.stage.NextStep.{NextStep}
use Rattle.channel_calls.specs.declared.stage.NextStep.TheVariants.{Tries, Works, Ends}
use Rattle.channel_calls.specs.declared.stage.Waiting.TheVariants as waiting
use Rattle.channel_calls.specs.declared.stage.ListStep.TheVariants as work
use Rattle.channel_calls.specs.Several.{Gathered, with_one}
use Rattle.channel_calls.specs.Turns.{says, held_on, ends_by, refused_next, closer_ending, nothing_kept}

module _ {T : Type 0} where
  -- a poll of this kind is over: its answer, the message that it keeps, and the listener that it drops at the end
  abbrev pub over : Reply T → Option T → WaitList → Option Key → Ending T
  over x message line key = record { reply = x; message = message; held = held_on line key }

module _ {T W : Type 0} where
  -- no call is answered in another kind than its own
  abbrev pub lost : NextStep T W
  lost = Ends reply.Unit nothing_kept

  abbrev pub sent_next : QueueReply T → NextStep T W
  sent_next (Push (Ok u)) = Works (work.TellReceive (says (reply.TrySend (Ok tt))))
  sent_next (Push (Err (push_error.Full m))) = ends_by (says (reply.TrySend (Err (refused.Plain (try_send_error.Full m)))))
  sent_next (Push (Err (push_error.Closed m))) = ends_by (says (reply.TrySend (Err (refused.Plain (try_send_error.Closed m)))))
  sent_next (Push (Err (push_error.NoMemory m))) = ends_by (says (reply.TrySend (Err (refused.NoMemory m))))
  sent_next _ = lost

  abbrev pub forced_next : QueueReply T → NextStep T W
  forced_next (Force (Ok displaced)) = Works (work.TellReceive (says (reply.ForceSend (Ok displaced))))
  forced_next (Force (Err (force_error.Closed m))) = ends_by (says (reply.ForceSend (Err (refused.Plain (record { 0 = m })))))
  forced_next (Force (Err (force_error.NoMemory m))) = ends_by (says (reply.ForceSend (Err (refused.NoMemory m))))
  forced_next _ = lost

  abbrev pub received_next : QueueReply T → NextStep T W
  received_next (Pop (Ok m)) = Works (work.TellSend (says (reply.TryRecv (Ok m))))
  received_next (Pop (Err pop_error.Empty)) = ends_by (says (reply.TryRecv (Err try_recv_error.Empty)))
  received_next (Pop (Err pop_error.Closed)) = ends_by (says (reply.TryRecv (Err try_recv_error.Closed)))
  received_next _ = lost

  -- several messages are handed out, and as many more sends are told
  abbrev pub hands_out : List T → NextStep T W
  hands_out vs = Works (work.TellSends (length vs) (says (reply.RecvMany (Ok vs))))

  -- the next one is tried for, or these are all
  abbrev pub gathered_next : Result (Gathered T) (List T) → NextStep T W
  gathered_next (Ok g) = Tries ask.Pop (purpose.RecvMany g)
  gathered_next (Err vs) = hands_out vs

  -- there is no further one after these
  abbrev pub short_next : List T → TryRecvError → NextStep T W
  short_next [] e = ends_by (says (reply.RecvMany (Err (refused.Plain e))))
  short_next (v ∷ vs) e = hands_out (v ∷ vs)

  abbrev pub several_next : QueueReply T → Gathered T → NextStep T W
  several_next (Pop (Ok m)) g = gathered_next (with_one g m)
  several_next (Pop (Err pop_error.Empty)) g = short_next g.taken try_recv_error.Empty
  several_next (Pop (Err pop_error.Closed)) g = short_next g.taken try_recv_error.Closed
  several_next _ g = lost

  -- a message for which there was no memory stays with its send
  abbrev pub send_next : QueueReply T → Option Key → W → NextStep T W
  send_next (Push (Ok u)) key task = Works (work.TellReceive (over (reply.SendPoll (Ready (Ok tt))) None Sends key))
  send_next (Push (Err (push_error.Full m))) key task = refused_next (waiting.Send m) key task
  send_next (Push (Err (push_error.Closed m))) key task = ends_by (over (reply.SendPoll (Ready (Err (refused.Plain (record { 0 = m }))))) None Sends key)
  send_next (Push (Err (push_error.NoMemory m))) key task = ends_by (over (reply.SendPoll (Ready (Err (refused.NoMemory tt)))) (Some m) Sends key)
  send_next _ key task = lost

  abbrev pub receive_next : QueueReply T → Option Key → W → NextStep T W
  receive_next (Pop (Ok m)) key task = Works (work.TellSend (over (reply.RecvPoll (Ready (Ok m))) None Receives key))
  receive_next (Pop (Err pop_error.Empty)) key task = refused_next waiting.Receive key task
  receive_next (Pop (Err pop_error.Closed)) key task = ends_by (over (reply.RecvPoll (Ready (Err (refused.Plain (record {}))))) None Receives key)
  receive_next _ key task = lost

  abbrev pub stream_next : QueueReply T → Option Key → W → NextStep T W
  stream_next (Pop (Ok m)) key task = Works (work.TellSend (over (reply.Next (Ready (Some (Ok m)))) None Streams key))
  stream_next (Pop (Err pop_error.Empty)) key task = refused_next waiting.Stream key task
  stream_next (Pop (Err pop_error.Closed)) key task = ends_by (over (reply.Next (Ready None)) None Streams key)
  stream_next _ key task = lost

  abbrev pub closing_next : QueueReply T → Option Key → W → NextStep T W
  closing_next (Flag true) key task = ends_by (over (reply.ClosedPoll (Ready (Ok tt))) None Closings key)
  closing_next (Flag false) key task = refused_next waiting.Closing key task
  closing_next _ key task = lost

  abbrev pub polled_next : WaitList → QueueReply T → Option Key → W → NextStep T W
  polled_next Sends x key task = send_next x key task
  polled_next Receives x key task = receive_next x key task
  polled_next Streams x key task = stream_next x key task
  polled_next Closings x key task = closing_next x key task

  abbrev pub closed_next : QueueReply T → Closer → NextStep T W
  closed_next (Close true) c = Works (work.TellAll Sends c)
  closed_next (Close false) c = ends_by (closer_ending c false)
  closed_next _ c = lost

  abbrev pub asked_next : QueueReply T → NextStep T W
  asked_next (Flag b) = ends_by (says (reply.Flag b))
  asked_next (Count n) = ends_by (says (reply.Count n))
  asked_next (Cap c) = ends_by (says (reply.Cap c))
  asked_next _ = lost

  abbrev pub terminated_next : QueueReply T → NextStep T W
  terminated_next (Flag true) = Tries ask.IsEmpty purpose.Ask
  terminated_next (Flag false) = ends_by (says (reply.Flag false))
  terminated_next _ = lost

  abbrev pub upgraded_next : QueueReply T → Side → NextStep T W
  upgraded_next (Flag true) side = ends_by (says reply.NotMade)
  upgraded_next (Flag false) side = Works (work.Load side Upgrade)
  upgraded_next _ side = lost

  -- by what the call of the queue was made for
  abbrev pub answered_next : Purpose T W → QueueReply T → NextStep T W
  answered_next purpose.TrySend x = sent_next x
  answered_next purpose.ForceSend x = forced_next x
  answered_next purpose.TryRecv x = received_next x
  answered_next (purpose.RecvMany g) x = several_next x g
  answered_next (purpose.Poll line key task) x = polled_next line x key task
  answered_next (purpose.Close c) x = closed_next x c
  answered_next purpose.Ask x = asked_next x
  answered_next purpose.IsTerminated x = terminated_next x
  answered_next (purpose.Upgrade side) x = upgraded_next x side
