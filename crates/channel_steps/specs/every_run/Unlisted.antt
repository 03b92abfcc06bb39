-- On a channel without a bound no send listens: it is never full, so no send ever waits.
use Rattle.std.specs.Prelude.{◌≡◌, None}
use Rattle.channel_calls.specs.Moves.{Channel}
use Rattle.channel_calls.specs.Parts.{nobody_listens}
use Rattle.channel_steps.specs.Configuration.{Configuration}
use Rattle.channel_steps.specs.every_run.Bounds.{BoundSound}

module _ {T W : Type 0} where
  -- the list of sends is empty, of the told and of those that wait
  abbrev pub NoSendListens : Channel T W → Type 0
  NoSendListens c = c.queue.capacity ≡ None → c.wait_lists.sends ≡ nobody_listens

  -- with what every run needs to keep it
  pub record SendsUnlisted (s : Configuration T W) : Type 0 where
    pub bound : BoundSound s
    pub unlisted : NoSendListens s.now
