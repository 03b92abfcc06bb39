use Rattle.std.proofs.Common.{⊎_elim, inl, inr}
use Rattle.concurrent_queue.proofs.HistoryRuns.{runs_with}
use Rattle.unbounded_cells.specs.Seated.{party_of}
use Rattle.unbounded_cells.proofs.party.BlockCall+T+Standing+T+OfQueue+R.run_so_far.Goals as goal

pub returns-clause-run : goal.returns-clause-run
returns-clause-run g c = λ hit. ⊎_elim (λ shown. inl (runs_with _ c.histories_are_runs.ensures.runs (party_of c.args.self.now.seat) shown)) (λ far. inr far) (c.look.ensures.history (λ _. hit))
