use Rattle.concurrent_queue.specs.history.Runs.{begun}
use Rattle.concurrent_queue.proofs.shared.witnessed.next_cells.Given as goal

abbrev pub ghosts-turn : goal.ghosts-turn
ghosts-turn g a = record { to = begun a._about.now }
