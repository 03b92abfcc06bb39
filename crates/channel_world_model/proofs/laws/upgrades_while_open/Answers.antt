-- From the counts of every run.
use Rattle.channel_world_model.proofs.HandleLaws.{upgraded}
use Rattle.channel_world_model.proofs.laws.upgrades_while_open.Goals as goal

pub returns : goal.returns
returns g c = record { as_open = upgraded }
