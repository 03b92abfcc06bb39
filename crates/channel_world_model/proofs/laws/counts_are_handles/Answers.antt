-- From the counts of every run.
use Rattle.channel_world_model.proofs.HandleLaws.{counts}
use Rattle.channel_world_model.proofs.laws.counts_are_handles.Goals as goal

pub returns : goal.returns
returns g c = record { counted = counts }
