use Rattle.channel_history.proofs.CallEnds.{ends_turn}
use Rattle.channel_cells.specs.Cells.{form_in, view_of}
use Rattle.channel_cells.proofs.cells.CallCells.end.Goals as goal

pub turn_by-requires : goal.turn_by-requires
turn_by-requires g c =
    let e = c.requires.ended in
    record { next = (e.0, (ends_turn (form_in c.args.self) g.E.Answers.gave (view_of c.args.self) e.0 e.1).0, e.1) }
