use Rattle.std.proofs.Common.{sym, subst}
use Rattle.growing_table.specs.Seats.{me_of, number_of}
use Rattle.growing_table.specs.State.{Joins}
use Rattle.unbounded_cells.specs.Rule.{IsRuled}
use Rattle.unbounded_cells.specs.SeatTold.{taking}
use Rattle.unbounded_cells.specs.declared.rule.BlockView.{BlockView}
use Rattle.unbounded_cells.proofs.Parties.{takes_in_so}
use Rattle.unbounded_cells.specs.Seated.{party_of}
use Rattle.unbounded_cells.proofs.Rounds.{took_in, sits_same, knows_same, free_now, unlocked_now, formed_now, live_now, named_now}
use Rattle.unbounded_cells.proofs.table.BlockCall.take_in_as.Goals as goal

pub join_seat-requires-clause-rule : goal.join_seat-requires-clause-rule
join_seat-requires-clause-rule g c =
    let v = c.args.self.now in
    let w = c.args.other in
    subst (λ (x : BlockView g.row.T.Denot g.row.A.Denot). Joins (IsRuled g.P.Machine.moves g.P.Machine.history g.P.BlockMachine.sized g.P.Machine.admits) (number_of v.seat) (me_of v.seat).view (number_of w.seat) (me_of w.seat).view (taking g.P.Machine.both (me_of v.seat).view (me_of w.seat).view) x)
    (sym c.requires.spent) (takes_in_so g.P.Machine.keeps g.met.P.BlockMachine.blocks g.P.Machine.admits (number_of v.seat) (number_of w.seat) (me_of v.seat).view (me_of w.seat).view v.live w.live)

pub invariant_of-self : goal.invariant_of-self
invariant_of-self g c =
    let p = c.args.self.now in
    let d = c.join_seat.new.seat in
    let t = c.join_seat.ensures in
    let w = took_in p.seat d c.args.other.seat (g.P.Machine.both (party_of p.seat).state (party_of c.args.other.seat).state) c.args.other.unlocked t.same.0 t.same.1 t.joined in
    record {
      sits = sits_same p.table.now.table p.seat d w.same p.sits;
      free = free_now p.seat d w p.free;
      unlocked = unlocked_now p.seat d w p.unlocked;
      formed = formed_now p.seat d w p.formed;
      live = live_now p.seat d w p.live;
      named = named_now p.seat d w p.named;
      knows = knows_same p.seat d p.last w.same p.knows;
    }
