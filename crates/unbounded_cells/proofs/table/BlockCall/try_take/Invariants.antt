use Rattle.std.specs.Prelude.{None}
use Rattle.concurrent_queue.specs.Deeds.{did_take}
use Rattle.unbounded_cells.proofs.table.BlockCall.try_take.Given as goal

abbrev pub ghosts-reach_slot : goal.ghosts-reach_slot
ghosts-reach_slot g a = record { deed = did_take a.at None }
