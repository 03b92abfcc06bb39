-- Where no handle of a kind lives the channel is closed, or a call under way closes it by its next step.
use Rattle.std.specs.Prelude.{◌≡◌, ◌⊎◌, Option}
use Rattle.concurrent_queue.specs.Queue.{Phase}
use Rattle.concurrent_queue.specs.declared.call.QueueAsk.TheVariants as queue
use Rattle.event_listener.specs.declared.key.Key.{Key}
use Rattle.channel_calls.specs.Parts.{count}
use Rattle.channel_calls.specs.Turns.{dropper}
use Rattle.channel_calls.specs.declared.stage.Purpose.TheVariants.{Close}
use Rattle.channel_calls.specs.declared.stage.Side.{Side}
use Rattle.channel_calls.specs.declared.stage.Stage.{Stage}
use Rattle.channel_calls.specs.declared.stage.Stage.TheVariants.{Trying}
use Rattle.channel_steps.specs.Configuration.{Configuration}
use Rattle.channel_steps.specs.Moments.{Shut}
use Rattle.channel_steps.specs.every_run.Waits.{Any}

module _ {T W : Type 0} where
  -- a call at this stage has dropped the last handle of this kind, and its next step closes the channel
  abbrev pub ClosesNext : Side → Stage (Phase T) T W → Type 0
  ClosesNext side (Trying f (Close closer)) = (f.ask ≡ queue.Close) × ((key : Option Key) × (closer ≡ dropper side key))
  ClosesNext side at = ⊥

  abbrev pub LastHandleCloses : Configuration T W → Type 0
  LastHandleCloses s = (side : Side) → count side s.now.wait_lists ≡ 0 → Shut s.now ⊎ Any (λ u. ClosesNext side u.at) s.under_way
