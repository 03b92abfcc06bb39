-- From the marks of those that say so.
use Rattle.channel_steps.proofs.every_run.Closers.{closes_once}
use Rattle.channel_steps.proofs.laws.one_close_at_most.Goals as goal

pub returns : goal.returns
returns g c = record { once = closes_once _ _ }
