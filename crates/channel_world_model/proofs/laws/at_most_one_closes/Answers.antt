-- From what each call does to the flag.
use Rattle.channel_world_model.proofs.BoundLaws.{once}
use Rattle.channel_world_model.proofs.laws.at_most_one_closes.Goals as goal

pub returns : goal.returns
returns g c = record { once = once }
