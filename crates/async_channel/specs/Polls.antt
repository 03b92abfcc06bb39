-- What one poll does, by what it answers and by the listener that it is left.
use Rattle.std.specs.Prelude.{Option, ⊤}
use Rattle.event_listener.specs.declared.key.Key.{Key}
use Rattle.futures.specs.Poll.{OnPending}
use Rattle.futures.specs.declared.task.Poll.{Poll}
use Rattle.channel_calls.specs.Asks.{first}
use Rattle.channel_calls.specs.Deeds.{Deed}
use Rattle.channel_calls.specs.Turns.{leaving}
use Rattle.channel_calls.specs.Walks.{WalkedFrom}
use Rattle.channel_calls.specs.declared.ask.ChannelAsk.{ChannelAsk}
use Rattle.channel_calls.specs.declared.reply.Reply.{Reply}

module _ {T W X : Type 0} (did : Deed T W → X → X → Type 0) where
  -- of a send, to which this listener and this message are left: what it asks, with a copy of its waker or without
  abbrev pub PollsSend : (Option W → ChannelAsk T W) → X → Reply T → Option Key → Option T → X → Type 0
  PollsSend asks s r key message t = (task : Option W) × WalkedFrom did (first (asks task)) s r (leaving key message) t

  -- of another operation, which has no message to keep
  abbrev pub Polls : (Option W → ChannelAsk T W) → X → Reply T → Option Key → X → Type 0
  Polls asks s r key t = (message : Option T) × PollsSend asks s r key message t

module _ {A : Type 0} where
  -- what a pending one may give is what it might have given before, where that may be anything
  abbrev pub MayStillGive : Poll A → Type 0
  MayStillGive p = OnPending p ((answer : A) → ⊤ → ⊤)
