use Rattle.concurrent_queue.specs.Deeds.{stored}
use Rattle.unbounded_cells.proofs.table.BlockCall.store.Given as goal

abbrev pub ghosts-reach : goal.ghosts-reach
ghosts-reach g a = record { deed = stored a.at a._about.now }

abbrev pub ghosts-set_flag : goal.ghosts-set_flag
ghosts-set_flag g a = record { offset = a.offset }
