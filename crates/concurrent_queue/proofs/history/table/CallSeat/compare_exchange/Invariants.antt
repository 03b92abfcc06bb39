use Rattle.concurrent_queue.specs.Deeds.{exchanged}
use Rattle.concurrent_queue.specs.history.Shared.{answer}
use Rattle.concurrent_queue.proofs.history.table.CallSeat.compare_exchange.Given as goal

abbrev pub ghosts-happen : goal.ghosts-happen
ghosts-happen g a = record { deed = exchanged a._about.now a._and.now.0 a._and.now.1 (answer 0 a._and.now.0) }
