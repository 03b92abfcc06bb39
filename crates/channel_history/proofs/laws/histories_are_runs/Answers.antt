use Rattle.channel_history.proofs.Runs as runs
use Rattle.channel_history.proofs.laws.histories_are_runs.Goals as goal

pub returns : goal.returns
returns g c = record { runs = runs.histories_are_runs _ _ }
