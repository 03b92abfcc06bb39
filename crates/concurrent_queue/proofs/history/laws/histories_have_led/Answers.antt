use Rattle.concurrent_queue.proofs.HistoryRuns as runs
use Rattle.concurrent_queue.proofs.history.laws.histories_have_led.Goals as goal

pub returns : goal.returns
returns g c = record { led = runs.histories_have_led _ }
