-- From the invariant of runs.
use Rattle.channel_world_model.proofs.LawSteps.{nobody_left}
use Rattle.channel_world_model.proofs.laws.nobody_is_left_asleep.Goals as goal

pub returns : goal.returns
returns g c = record { awake = nobody_left }
