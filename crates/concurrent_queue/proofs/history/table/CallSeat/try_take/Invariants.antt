use Rattle.std.specs.Prelude.{None}
use Rattle.concurrent_queue.specs.Deeds.{did_take}
use Rattle.concurrent_queue.proofs.history.table.CallSeat.try_take.Given as goal

abbrev pub ghosts-happen : goal.ghosts-happen
ghosts-happen g a = record { deed = did_take a._about.now None }
