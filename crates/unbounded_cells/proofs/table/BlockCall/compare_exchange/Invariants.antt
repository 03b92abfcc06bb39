use Rattle.concurrent_queue.specs.Deeds.{exchanged}
use Rattle.concurrent_queue.specs.history.Shared.{answer}
use Rattle.unbounded_cells.proofs.table.BlockCall.compare_exchange.Given as goal

abbrev pub ghosts-reach : goal.ghosts-reach
ghosts-reach g a = record { deed = exchanged a.at a._about.now.0 a._about.now.1 (answer 0 a._about.now.0) }
