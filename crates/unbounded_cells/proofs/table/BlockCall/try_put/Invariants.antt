use Rattle.std.specs.Prelude.{Err}
use Rattle.concurrent_queue.specs.Deeds.{did_put}
use Rattle.unbounded_cells.proofs.table.BlockCall.try_put.Given as goal

abbrev pub ghosts-reach_slot : goal.ghosts-reach_slot
ghosts-reach_slot g a = record { deed = did_put a.at a._about.now (Err a._about.now) }
