-- From what every merge by names is.
use Rattle.channel_world.proofs.NamedMerges.{named_merges_are_runs, two_clones_are_named}
use Rattle.channel_world.proofs.laws.named_merges_are_runs_by_names.Goals as goal

pub returns : goal.returns
returns g c = record { runs = named_merges_are_runs _ _ _ _; row = two_clones_are_named _ _ _ _ }
