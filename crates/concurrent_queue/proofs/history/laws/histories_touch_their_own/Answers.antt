use Rattle.concurrent_queue.proofs.HistoryRuns as runs
use Rattle.concurrent_queue.proofs.history.laws.histories_touch_their_own.Goals as goal

pub returns : goal.returns
returns g c = record { own = runs.histories_touch_their_own _ c.each_touches_its_own.ensures.own }
