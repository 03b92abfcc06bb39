use Rattle.concurrent_queue.specs.Deeds.{bits_set}
use Rattle.concurrent_queue.proofs.history.table.CallSeat.fetch_or.Given as goal

abbrev pub ghosts-happen : goal.ghosts-happen
ghosts-happen g a = record { deed = bits_set a._about.now a._and.now 0 }
