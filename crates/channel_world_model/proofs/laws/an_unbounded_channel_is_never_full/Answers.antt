-- From what each call answers.
use Rattle.channel_world_model.proofs.BoundLaws.{never_full}
use Rattle.channel_world_model.proofs.laws.an_unbounded_channel_is_never_full.Goals as goal

pub returns : goal.returns
returns g c = record { never_full = never_full }
