use Rattle.concurrent_queue.specs.Deeds.{bits_set}
use Rattle.unbounded_cells.proofs.table.BlockCall.fetch_or.Given as goal

abbrev pub ghosts-reach : goal.ghosts-reach
ghosts-reach g a = record { deed = bits_set a.at a._about.now 0 }
