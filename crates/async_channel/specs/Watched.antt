-- What a call of a handle shows the trace that its channel is watched by.
use Rattle.std.specs.Prelude.{ℕ}
use Rattle.concurrent_queue.specs.Deeds as cell
use Rattle.channel_calls.specs.Deeds.{Deed}
use Rattle.async_channel.specs.Handles.{Handle}
use Rattle.async_channel.specs.Saw.{SeenOn}

module _ {T W X A : Type 0} (did : cell.Deed T → X → X → Type 0) (shown : Deed T W → X → X → Type 0) (entered : ℕ → X → X → Type 0) where
  -- there are two states of the trace, and between them a call was seen that did this and gave this answer. Which states is left open:
  -- the trace is one of which nothing is known but that it can be led from one to the other by these very deeds alone
  abbrev pub WasSeen : Handle → ((Deed T W → X → X → Type 0) → X → A → X → Type 0) → A → Type 0
  WasSeen channel Does answer = (begin end : X) × SeenOn did shown entered channel Does begin answer end
