use Rattle.concurrent_queue.specs.Deeds.{added}
use Rattle.concurrent_queue.proofs.history.table.CallSeat.fetch_add.Given as goal

abbrev pub ghosts-happen : goal.ghosts-happen
ghosts-happen g a = record { deed = added a._about.now a._and.now 0 }
