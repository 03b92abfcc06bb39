-- From each poll, which brings the end nearer by one.
use Rattle.channel_world.proofs.Short.{settling_is_short}
use Rattle.channel_world.proofs.laws.settling_is_short.Goals as goal

pub returns : goal.returns
returns g c = record { short = settling_is_short }
