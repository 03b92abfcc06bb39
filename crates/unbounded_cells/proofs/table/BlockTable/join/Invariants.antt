use Rattle.growing_table.specs.Seats.{me_of}
use Rattle.unbounded_cells.specs.SeatTold.{joined_away}
use Rattle.unbounded_cells.proofs.table.BlockTable.join.Given as goal

abbrev pub ghosts-join_as : goal.ghosts-join_as
ghosts-join_as g a = record { to = λ _. joined_away (me_of a.other.seat).view }
