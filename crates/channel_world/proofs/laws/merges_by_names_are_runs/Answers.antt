-- From what every step of a merge by names keeps.
use Rattle.channel_world.proofs.Lemmas.{merges_by_names_are_runs, two_clones_by_names}
use Rattle.channel_world.proofs.laws.merges_by_names_are_runs.Goals as goal

pub returns : goal.returns
returns g c = record { runs = merges_by_names_are_runs _ _ _; row = two_clones_by_names _ _ _ }
