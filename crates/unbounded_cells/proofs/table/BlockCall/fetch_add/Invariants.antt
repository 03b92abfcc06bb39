use Rattle.concurrent_queue.specs.Deeds.{added}
use Rattle.unbounded_cells.proofs.table.BlockCall.fetch_add.Given as goal

abbrev pub ghosts-reach : goal.ghosts-reach
ghosts-reach g a = record { deed = added a.at a._about.now 0 }
