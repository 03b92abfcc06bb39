use Rattle.concurrent_queue.specs.Deeds.{loaded}
use Rattle.concurrent_queue.proofs.history.table.CallSeat.load.Given as goal

abbrev pub ghosts-happen : goal.ghosts-happen
ghosts-happen g a = record { deed = loaded a._about.now 0 }
