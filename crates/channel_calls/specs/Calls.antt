-- What calls that are made up to their answer say in their callers' types.
use Rattle.std.specs.Prelude.{◌≡◌, Option, None, Some, Result, Ok, Err}
use Rattle.event_listener.specs.declared.key.Key.{Key}
use Rattle.futures.specs.declared.task.Poll.{Poll}
use Rattle.futures.specs.declared.task.Poll.TheVariants.{Ready, Pending}
use Rattle.channel_calls.specs.Asks.{lent}
use Rattle.channel_calls.specs.Replies.{SendsBy}
use Rattle.channel_calls.specs.declared.ask.ChannelAsk.{ChannelAsk}
use Rattle.channel_calls.specs.declared.ask.ChannelAsk.TheVariants as ask
use Rattle.channel_calls.specs.declared.error.Refused.{Refused}
use Rattle.channel_calls.specs.declared.error.Refused.TheVariants.{NoMemory}
use Rattle.channel_calls.specs.declared.error.SendError.{SendError}
use Rattle.channel_calls.specs.declared.stage.WaitList.TheVariants.{Sends, Receives, Streams, Closings}
use Rattle.channel_calls.specs.declared.error.HandleError.{HandleError}
use Rattle.channel_calls.specs.declared.error.HandleError.TheVariants.{TooMany}
use Rattle.channel_calls.specs.declared.reply.Reply.{Reply}
use Rattle.channel_calls.specs.declared.reply.Reply.TheVariants as reply

module _ {T : Type 0} where
  -- a clone, and an upgrade: what is counted of the handle that was made, and that too many live
  abbrev pub made_answer : Reply T → Result Unit HandleError
  made_answer reply.Made = Ok tt
  made_answer _ = Err TooMany

  abbrev pub upgraded_answer : Reply T → Result (Option Unit) HandleError
  upgraded_answer reply.Made = Ok (Some tt)
  upgraded_answer reply.NotMade = Ok None
  upgraded_answer _ = Err TooMany

  -- a poll of a send, by the message that it has before and after; a finished one has none, and is pending unless the copy of
  -- its waker was refused
  abbrev pub SendsOn : Option T → Poll (Result Unit (Refused (SendError T) Unit)) → Option T → Type 0
  SendsOn (Some v) r m = SendsBy v r m
  SendsOn None Pending m = m ≡ None
  SendsOn None (Ready (Err (NoMemory u))) m = m ≡ None
  SendsOn None _ m = ⊥

module _ {T W : Type 0} where
  -- what a poll asks, with a copy of its waker or without: of a send that has this message or has finished, of a receive, of a wait for
  -- the closing, of a stream
  abbrev pub send_ask : Option T → Option Key → Option W → ChannelAsk T W
  send_ask m key None = ask.RefusePoll Sends m key
  send_ask None key (Some task) = ask.PollFinishedSend
  send_ask (Some v) key (Some task) = ask.PollSend v (lent key) task

  abbrev pub recv_ask : Option Key → Option W → ChannelAsk T W
  recv_ask key None = ask.RefusePoll Receives None key
  recv_ask key (Some task) = ask.PollRecv (lent key) task

  abbrev pub closed_ask : Option Key → Option W → ChannelAsk T W
  closed_ask key None = ask.RefusePoll Closings None key
  closed_ask key (Some task) = ask.PollClosed key task

  abbrev pub next_ask : Option Key → Option W → ChannelAsk T W
  next_ask key None = ask.RefusePoll Streams None key
  next_ask key (Some task) = ask.PollNext key task
