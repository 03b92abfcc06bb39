use Rattle.concurrent_queue.specs.Deeds.{bits_kept}
use Rattle.unbounded_cells.proofs.table.BlockCall.fetch_and.Given as goal

abbrev pub ghosts-reach : goal.ghosts-reach
ghosts-reach g a = record { deed = bits_kept a.at a._about.now 0 }
