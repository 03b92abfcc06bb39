use Rattle.std.specs.Prelude.{Err}
use Rattle.concurrent_queue.specs.Deeds.{did_put}
use Rattle.concurrent_queue.proofs.history.table.CallSeat.try_put.Given as goal

abbrev pub ghosts-happen : goal.ghosts-happen
ghosts-happen g a = record { deed = did_put a._about.now a._and.now (Err a._and.now) }
