use Rattle.concurrent_queue.specs.history.Shared.{spent_view}
use Rattle.concurrent_queue.proofs.history.table.RuledTable.join.Given as goal

abbrev pub ghosts-join_as : goal.ghosts-join_as
ghosts-join_as g a = record { to = λ _. spent_view a.other.seat.me.0 }
