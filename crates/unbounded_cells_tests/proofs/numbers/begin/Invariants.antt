use Rattle.concurrent_queue.specs.history.Runs.{begun}
use Rattle.unbounded_cells_tests.proofs.numbers.begin.Given as goal

abbrev pub ghosts-enter : goal.ghosts-enter
ghosts-enter g a = record { to = begun a._about.now }
