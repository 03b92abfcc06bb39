use Rattle.concurrent_queue.proofs.HistoryRuns.{runs_with}
use Rattle.concurrent_queue.proofs.history.party.CallSeat+T+Standing+T+OfQueue.run_so_far.Goals as goal

pub returns-clause-run : goal.returns-clause-run
returns-clause-run g c = λ hit. runs_with _ c.histories_are_runs.ensures.runs c.args.self.now.seat.me.0 (c.look.ensures.history (λ _. hit))
