-- A poll that holds a listener, made alone, is refused no memory: the node that its listener leaves serves the next one.
use Rattle.std.specs.Prelude.{◌≡◌, Bool, true, false, Option, None, Some, Err, is_some}
use Rattle.concurrent_queue.specs.Capacity.{capacity_of}
use Rattle.event_listener.specs.Lists.{kind_of}
use Rattle.event_listener.specs.declared.key.Key.{Key}
use Rattle.event_listener.specs.declared.error.ListenError.TheVariants as listen_error
use Rattle.futures.specs.declared.task.Poll.TheVariants.{Ready}
use Rattle.channel_calls.specs.Parts.{Parts, WaitLists, listeners}
use Rattle.channel_calls.specs.declared.ask.ChannelAsk.{ChannelAsk}
use Rattle.channel_calls.specs.declared.ask.ChannelAsk.TheVariants.{PollSend, PollRecv, PollClosed, PollNext}
use Rattle.channel_calls.specs.declared.error.Refused.TheVariants.{NoMemory}
use Rattle.channel_calls.specs.declared.reply.Reply.{Reply}
use Rattle.channel_calls.specs.declared.reply.Reply.TheVariants as reply
use Rattle.channel_calls.specs.declared.stage.WaitList.{WaitList}
use Rattle.channel_calls.specs.declared.stage.WaitList.TheVariants.{Sends, Receives, Streams, Closings}

-- a reply says that memory was refused
abbrev pub lacks_memory : {T : Type 0} → Reply T → Bool
lacks_memory (reply.TrySend (Err (NoMemory m))) = true
lacks_memory (reply.ForceSend (Err (NoMemory m))) = true
lacks_memory (reply.RecvMany (Err (NoMemory u))) = true
lacks_memory (reply.SendPoll (Ready (Err (NoMemory u)))) = true
lacks_memory (reply.RecvPoll (Ready (Err (NoMemory u)))) = true
lacks_memory (reply.ClosedPoll (Ready (Err listen_error.NoMemory))) = true
lacks_memory (reply.Next (Ready (Some (Err listen_error.NoMemory)))) = true
lacks_memory _ = false

module _ {W : Type 0} where
  -- this listener is held, and is on this list
  abbrev pub IsOnList : WaitList → Option Key → WaitLists W → Type 0
  IsOnList line None a = ⊥
  IsOnList line (Some key) a = is_some (kind_of (listeners line a) key) ≡ true

module _ {T W : Type 0} where
  -- A poll that holds a listener which is on its list. Of a send it is one on a channel with a bound: without one no send waits, and
  -- a message may want a block.
  abbrev pub HasNode : ChannelAsk T W → Parts T W → Type 0
  HasNode (PollSend m l task) p = IsOnList Sends l.key p.wait_lists × (is_some (capacity_of p.cells.form) ≡ true)
  HasNode (PollRecv l task) p = IsOnList Receives l.key p.wait_lists
  HasNode (PollClosed key task) p = IsOnList Closings key p.wait_lists
  HasNode (PollNext key task) p = IsOnList Streams key p.wait_lists
  HasNode _ p = ⊥
