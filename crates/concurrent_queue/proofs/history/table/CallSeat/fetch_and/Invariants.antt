use Rattle.concurrent_queue.specs.Deeds.{bits_kept}
use Rattle.concurrent_queue.proofs.history.table.CallSeat.fetch_and.Given as goal

abbrev pub ghosts-happen : goal.ghosts-happen
ghosts-happen g a = record { deed = bits_kept a._about.now a._and.now 0 }
