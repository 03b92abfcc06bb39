use Rattle.std.proofs.Common.{sym, subst}
use Rattle.growing_table.specs.Seats.{me_of, number_of}
use Rattle.growing_table.specs.State.{Joins}
use Rattle.unbounded_cells.specs.Rule.{IsRuled}
use Rattle.unbounded_cells.specs.SeatTold.{joining}
use Rattle.unbounded_cells.specs.declared.rule.BlockView.{BlockView}
use Rattle.unbounded_cells.proofs.Parties.{joins_so}
use Rattle.unbounded_cells.proofs.table.BlockTable.join_as.Goals as goal

pub join_seat-requires-clause-rule : goal.join_seat-requires-clause-rule
join_seat-requires-clause-rule g c =
    let v = c.args.one.now in
    let w = c.args.other in
    subst (λ (x : BlockView g.row.T.Denot g.row.A.Denot). Joins (IsRuled g.P.Machine.moves g.P.Machine.history g.P.BlockMachine.sized g.P.Machine.admits) (number_of v.seat) (me_of v.seat).view (number_of w.seat) (me_of w.seat).view (joining (me_of v.seat).view (me_of w.seat).view) x)
    (sym c.requires.spent) (joins_so g.P.Machine.keeps g.met.P.BlockMachine.blocks g.P.Machine.admits (number_of v.seat) (number_of w.seat) (me_of v.seat).view (me_of w.seat).view v.live w.live w.named)
