-- What the parts come to of which the polls of a call that blocks are made.
use Rattle.std.specs.Prelude.{◌≡◌, ℕ, false, Option, None, Some, Result, Ok, Err}
use Rattle.concurrent_queue.specs.declared.queue_call.QueueCall.{QueueCall}
use Rattle.event_listener.specs.declared.key.Key.{Key}
use Rattle.futures.specs.declared.task.Poll.TheVariants.{Ready}
use Rattle.channel_calls.specs.Answered.{over}
use Rattle.channel_calls.specs.Blocks.{waiting_of}
use Rattle.channel_calls.specs.Deeds.{Deed}
use Rattle.channel_calls.specs.Listed.{pends}
use Rattle.channel_calls.specs.Replies.{MayPoll}
use Rattle.channel_calls.specs.Turns.{ends_by, refused_next, leaving, nothing_kept}
use Rattle.channel_calls.specs.Walks.{Takes, ChannelMakes, Leads}
use Rattle.channel_calls.specs.declared.blocked.Blocked.{Blocked}
use Rattle.channel_calls.specs.declared.blocked.Blocked.TheVariants.{Send, Receive}
use Rattle.channel_calls.specs.declared.error.Refused.{Refused}
use Rattle.channel_calls.specs.declared.error.Refused.TheVariants.{Plain, NoMemory, SerialsUsedUp}
use Rattle.channel_calls.specs.declared.error.SendError.{SendError}
use Rattle.channel_calls.specs.declared.error.TryRecvError.{TryRecvError}
use Rattle.channel_calls.specs.declared.error.TryRecvError.TheVariants as try_recv_error
use Rattle.channel_calls.specs.declared.error.TrySendError.{TrySendError}
use Rattle.channel_calls.specs.declared.error.TrySendError.TheVariants as try_send_error
use Rattle.channel_calls.specs.declared.mark.Mark.{Mark}
use Rattle.channel_calls.specs.declared.reply.Reply.{Reply}
use Rattle.channel_calls.specs.declared.reply.Reply.TheVariants as reply
use Rattle.channel_calls.specs.declared.stage.Returned.{Returned}
use Rattle.channel_calls.specs.declared.stage.WaitList.{WaitList}
use Rattle.channel_calls.specs.declared.stage.Stage.{Stage}
use Rattle.channel_calls.specs.declared.stage.NextStep.{NextStep}
use Rattle.channel_calls.specs.declared.whole.Completed.{Completed}

module _ {T : Type 0} where
  -- a poll that is over leaves no listener
  abbrev pub polled : Reply T → Option T → Completed T
  polled r m = record { reply = r; kept = leaving None m }

  abbrev pub IsOver : Blocked T → Completed T → Type 0
  IsOver b given = MayPoll (waiting_of b) given.reply given.kept.message × (pends given.reply ≡ false) × (given.kept.key ≡ None)

  -- what a poll's try comes to, by what a call answers that doesn't wait: it is over, or has to wait
  abbrev pub sent_by : Result Unit (Refused (TrySendError T) T) → Result (Completed T) (Blocked T)
  sent_by (Ok u) = Ok (polled (reply.SendPoll (Ready (Ok tt))) None)
  sent_by (Err (Plain (try_send_error.Full m))) = Err (Send m)
  sent_by (Err (Plain (try_send_error.Closed m))) = Ok (polled (reply.SendPoll (Ready (Err (Plain (record { 0 = m }))))) None)
  sent_by (Err (NoMemory m)) = Ok (polled (reply.SendPoll (Ready (Err (NoMemory tt)))) (Some m))
  sent_by (Err (SerialsUsedUp m)) = Ok (polled (reply.SendPoll (Ready (Err (SerialsUsedUp tt)))) (Some m))

  abbrev pub received_by : Result T TryRecvError → Result (Completed T) (Blocked T)
  received_by (Ok m) = Ok (polled (reply.RecvPoll (Ready (Ok m))) None)
  received_by (Err try_recv_error.Empty) = Err Receive
  received_by (Err try_recv_error.Closed) = Ok (polled (reply.RecvPoll (Ready (Err (Plain (record {}))))) None)

  -- the answer of a send that blocks as that of its last poll, and the message that this one left: if memory or a serial was wanted it
  -- returns that message
  abbrev pub sent_reply : Result Unit (Refused (SendError T) T) → Reply T
  sent_reply (Ok u) = reply.SendPoll (Ready (Ok tt))
  sent_reply (Err (Plain e)) = reply.SendPoll (Ready (Err (Plain e)))
  sent_reply (Err (NoMemory m)) = reply.SendPoll (Ready (Err (NoMemory tt)))
  sent_reply (Err (SerialsUsedUp m)) = reply.SendPoll (Ready (Err (SerialsUsedUp tt)))

  abbrev pub sent_left : Result Unit (Refused (SendError T) T) → Returned T
  sent_left (Ok u) = nothing_kept
  sent_left (Err (Plain e)) = nothing_kept
  sent_left (Err (NoMemory m)) = leaving None (Some m)
  sent_left (Err (SerialsUsedUp m)) = leaving None (Some m)

module _ {T W : Type 0} where
  -- what comes after the try of a poll that holds this listener
  abbrev pub tried_turn : WaitList → Result (Completed T) (Blocked T) → Option Key → W → NextStep T W
  tried_turn line (Ok given) key task = ends_by (over given.reply given.kept.message line key)
  tried_turn line (Err b) key task = refused_next (waiting_of b) key task

  -- the steps of a call from this turn come to where the other one is taken
  abbrev pub Comes : {X : Type 0} → (Deed T W → X → X → Type 0) → NextStep T W → X → NextStep T W → X → Type 0
  Comes {X} did turn s then t =
      (a : Stage (QueueCall T) T W) × Takes turn a None × (n : ℕ) × (x : X) × (b : Stage (QueueCall T) T W) × (m : Mark) × Leads did n s a x b
      × ((next : Stage (QueueCall T) T W) (r : Option (Reply T)) → Takes then next r → ChannelMakes did b x t m next r)
