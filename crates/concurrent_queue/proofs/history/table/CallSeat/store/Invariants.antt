use Rattle.concurrent_queue.specs.Deeds.{stored}
use Rattle.concurrent_queue.proofs.history.table.CallSeat.store.Given as goal

abbrev pub ghosts-happen : goal.ghosts-happen
ghosts-happen g a = record { deed = stored a._about.now a._and.now }
