use Rattle.std.proofs.Common.{ℕ, sym, subst}
use Rattle.std.specs.Prelude.{Option, None, Ok, Err}
use Rattle.growing_table.specs.Seats.{me_of, number_of}
use Rattle.growing_table.specs.State.{Me, Allows, Makes, step, count, own}
use Rattle.unbounded_cells.specs.Rule.{IsRuled}
use Rattle.unbounded_cells.specs.SpareTold.{makes_spare, refuses_spare}
use Rattle.unbounded_cells.specs.declared.rule.BlockView.{BlockView}
use Rattle.unbounded_cells.proofs.SpareList.{makes_so}
use Rattle.unbounded_cells.proofs.SpareSteps.{refuses_so}
use Rattle.unbounded_cells.proofs.spares.make_block.Goals as goal

pub make-requires-clause-rule : goal.make-requires-clause-rule
make-requires-clause-rule g c =
    let s = c.args.seat.now in
    let q = c.requires in
    subst (λ (k : ℕ). Makes (IsRuled g.P.Machine.moves g.P.Machine.history g.P.BlockMachine.sized g.P.Machine.admits) k None (number_of s) (me_of s) (makes_spare g.P.Machine.moves (step count 0 0) (me_of s))) (sym q.table.1)
    (makes_so g.P.Machine.keeps g.met.P.BlockMachine.blocks g.P.Machine.admits (number_of s) (me_of s) q.seat.2 q.seat.3 q.top (λ b. q.next (Ok b)))

pub load-requires-clause-rule : goal.load-requires-clause-rule
load-requires-clause-rule g c =
    let s = c.args.seat.now in
    let q = c.requires in
    let n = number_of c.make.new.seat in
    subst (λ (m : Me (Option g.row.T.Denot) (BlockView g.row.T.Denot g.row.A.Denot)). Allows (IsRuled g.P.Machine.moves g.P.Machine.history g.P.BlockMachine.sized g.P.Machine.admits) n m (own 25) (λ x. x) (refuses_spare g.P.Machine.moves (step (own 25) 0 0) m)) (sym c.in-Err.ensures.told)
    (refuses_so g.P.Machine.keeps g.met.P.BlockMachine.blocks g.P.Machine.admits n (me_of s) q.seat.2 q.seat.3 q.top (q.next (Err (record {}))))
