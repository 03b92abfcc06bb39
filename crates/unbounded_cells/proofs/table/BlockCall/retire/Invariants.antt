use Rattle.concurrent_queue.specs.Deeds.{retired}
use Rattle.unbounded_cells.proofs.table.BlockCall.retire.Given as goal

abbrev pub ghosts-locate : goal.ghosts-locate
ghosts-locate g a = record { deed = retired a.number }
