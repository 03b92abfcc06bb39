-- What a mark does to a plain channel.
use Rattle.std.specs.Prelude.{◌≡◌, ◌+◌, ◌-◌, true, List, [], ◌++◌, drop}
use Rattle.channel_calls.specs.Moves as moves
use Rattle.channel_calls.specs.declared.mark.Mark.{Mark}
use Rattle.channel_calls.specs.declared.mark.Mark.TheVariants.{Nothing, Append, Take, TakeDisplaced, Replace, Close, SenderUp, SenderDown, ReceiverUp, ReceiverDown}
use Rattle.channel_calls.specs.Model.{ModelChannel}
use Rattle.channel_steps.specs.Configuration.{Configuration}

module _ {T W : Type 0} where
  -- the plain channel that a channel is at a moment: its messages, oldest first, its capacity, its flag and its two counts
  abbrev pub plain : moves.Channel T W → ModelChannel T
  plain c = record {
    messages = c.queue.items;
    capacity = c.queue.capacity;
    closed = c.queue.closed;
    senders = c.wait_lists.senders;
    receivers = c.wait_lists.receivers;
  }

module _ {T : Type 0} where
  -- what it is after a step with this mark, made by a call that brings this message
  abbrev pub marked : Mark → List T → ModelChannel T → ModelChannel T
  marked Nothing message c = c
  marked Append message c = record c { messages = c.messages ++ message }
  marked Take message c = record c { messages = drop 1 c.messages }
  marked TakeDisplaced message c = record c { messages = drop 1 c.messages }
  marked Replace message c = record c { messages = drop 1 c.messages ++ message }
  marked Close message c = record c { closed = true }
  marked SenderUp message c = record c { senders = c.senders + 1 }
  marked SenderDown message c = record c { senders = c.senders - 1 }
  marked ReceiverUp message c = record c { receivers = c.receivers + 1 }
  marked ReceiverDown message c = record c { receivers = c.receivers - 1 }

  -- a message comes in by these two marks, and is the one that the call brings
  abbrev pub brought_by : Mark → List T → List T
  brought_by Append message = message
  brought_by Replace message = message
  brought_by mark message = []

module _ {T W : Type 0} where
  -- what left the channel on the way from s to t, followed by what it holds, is what it held followed by what it accepted, in
  -- order; and so it is noted in the configurations
  pub record AddUp (s : Configuration T W) (taken accepted : List T) (t : Configuration T W) : Type 0 where
    pub held : taken ++ t.now.queue.items ≡ s.now.queue.items ++ accepted
    pub gone : t.gone ≡ s.gone ++ taken
    pub came : t.came ≡ s.came ++ accepted
