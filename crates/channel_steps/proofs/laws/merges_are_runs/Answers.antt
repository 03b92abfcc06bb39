-- From what every merge keeps.
use Rattle.channel_steps.proofs.every_run.BridgeHeadline.{merges_are_runs, parties_stand_where_they_went}
use Rattle.channel_steps.proofs.laws.merges_are_runs.Goals as goal

pub returns : goal.returns
returns g c = record { runs = merges_are_runs _ _ _ _; stand = parties_stand_where_they_went _ _ _ _ }
