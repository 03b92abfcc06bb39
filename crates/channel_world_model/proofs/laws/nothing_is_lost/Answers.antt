-- From the accounts of runs.
use Rattle.channel_world_model.proofs.LawSteps.{in_order}
use Rattle.channel_world_model.proofs.laws.nothing_is_lost.Goals as goal

pub returns : goal.returns
returns g c = record { in_order = in_order }
