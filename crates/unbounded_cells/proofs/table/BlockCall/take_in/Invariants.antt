use Rattle.growing_table.specs.Seats.{me_of}
use Rattle.unbounded_cells.specs.SeatTold.{taken}
use Rattle.unbounded_cells.proofs.table.BlockCall.take_in.Given as goal

abbrev pub ghosts-take_in_as : goal.ghosts-take_in_as
ghosts-take_in_as g a = record { to = λ _. taken g.P.Machine.left (me_of a.other.seat).view }
