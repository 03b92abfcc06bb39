use Rattle.std.proofs.Common.{inl}
use Rattle.growing_table.specs.Seats.{me_of}
use Rattle.unbounded_cells.proofs.CallSteps.{put_refused}
use Rattle.unbounded_cells.proofs.cells.BlockCellsCells.put.Goals as goal

pub try_put-requires : goal.try_put-requires
try_put-requires g c = record { next = λ o. c.requires.may o }

pub returns-in-Ok-clause-deed : goal.returns-in-Ok-clause-deed
returns-in-Ok-clause-deed g c =
    let e = c.in-Ok.ensures in
    (inl e.made, e.same.2, (e.same.0, e.same.1, e.same.3))

pub returns-in-Err-clause-deed : goal.returns-in-Err-clause-deed
returns-in-Err-clause-deed g c =
    let e = c.in-Err.ensures in
    (put_refused g.P.Machine.moves (me_of c.args.self.now.seat.seat) (me_of c.try_put.new.self.seat) c.args.at c.args.value _ _ e.made.0 e.made.1, e.same.2, (e.same.0, e.same.1, e.same.3))
