use Rattle.concurrent_queue.specs.history.Shared.{left_view}
use Rattle.concurrent_queue.proofs.history.table.CallSeat.take_in.Given as goal

abbrev pub ghosts-take_in_as : goal.ghosts-take_in_as
ghosts-take_in_as g a = record { to = λ _. left_view g.P.Machine.left a.other.seat.me.0 }
