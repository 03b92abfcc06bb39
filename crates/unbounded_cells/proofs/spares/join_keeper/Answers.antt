use Rattle.std.proofs.Common.{sym, subst}
use Rattle.growing_table.specs.Seats.{me_of, number_of}
use Rattle.growing_table.specs.State.{Joins}
use Rattle.unbounded_cells.specs.Rule.{IsRuled}
use Rattle.unbounded_cells.specs.SeatTold.{with_lock}
use Rattle.unbounded_cells.specs.declared.rule.BlockView.{BlockView}
use Rattle.unbounded_cells.proofs.SeatSteps as seats
use Rattle.unbounded_cells.proofs.spares.join_keeper.Goals as goal

pub join_seat-requires-clause-rule : goal.join_seat-requires-clause-rule
join_seat-requires-clause-rule g c =
    let v = c.args.seat.now in
    let w = c.args.other in
    subst (λ (x : BlockView g.row.T.Denot g.row.A.Denot). Joins (IsRuled g.P.Machine.moves g.P.Machine.history g.P.BlockMachine.sized g.P.Machine.admits) (number_of v) (me_of v).view (number_of w) (me_of w).view (with_lock (me_of v).view (me_of w).view) x)
    (sym c.requires.spent) (seats.joins_so g.P.Machine.keeps g.met.P.BlockMachine.blocks g.P.Machine.admits (number_of v) (number_of w) (me_of v).view (me_of w).view c.requires.keeper.3 c.requires.seat.1 c.requires.keeper.4)
