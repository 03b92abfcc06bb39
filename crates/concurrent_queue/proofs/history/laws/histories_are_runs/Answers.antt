use Rattle.concurrent_queue.proofs.HistoryRuns as runs
use Rattle.concurrent_queue.proofs.history.laws.histories_are_runs.Goals as goal

pub returns : goal.returns
returns g c = record { runs = runs.histories_are_runs _ c.merges_are_runs.ensures.runs }
