use Rattle.concurrent_queue.specs.Deeds.{loaded}
use Rattle.unbounded_cells.proofs.table.BlockCall.load.Given as goal

abbrev pub ghosts-reach : goal.ghosts-reach
ghosts-reach g a = record { deed = loaded a.at 0 }

abbrev pub ghosts-load_flag : goal.ghosts-load_flag
ghosts-load_flag g a = record { offset = a.offset }
