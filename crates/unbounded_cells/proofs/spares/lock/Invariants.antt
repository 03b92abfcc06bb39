use Rattle.growing_table.specs.Seats.{me_of}
use Rattle.unbounded_cells.specs.SeatTold.{without_lock}
use Rattle.unbounded_cells.proofs.spares.lock.Given as goal

abbrev pub ghosts-join_keeper : goal.ghosts-join_keeper
ghosts-join_keeper g a = record { to = λ _. without_lock (me_of a.other).view }
