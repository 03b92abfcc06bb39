-- From what each call does to the messages.
use Rattle.channel_world_model.proofs.BoundLaws.{within}
use Rattle.channel_world_model.proofs.laws.length_is_within.Goals as goal

pub returns : goal.returns
returns g c = record { within = within }
