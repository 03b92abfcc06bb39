use Rattle.growing_table.specs.Seats.{me_of, number_of}
use Rattle.unbounded_cells.proofs.Parties.{parts_so}
use Rattle.unbounded_cells.specs.Seated.{party_of}
use Rattle.unbounded_cells.proofs.Rounds.{went_to, sits_same, knows_same, free_now, unlocked_now, formed_now, live_now, named_now}
use Rattle.unbounded_cells.proofs.table.BlockCall.part.Goals as goal

pub split_seat-seat-requires-clause-rule : goal.split_seat-seat-requires-clause-rule
split_seat-seat-requires-clause-rule g c =
    let p = c.args.self.now in
    let v = (me_of p.seat).view in
    parts_so g.P.Machine.keeps g.met.P.BlockMachine.blocks g.P.Machine.admits (number_of p.seat) v (g.E.PicksTwo.stays v.party.state) (g.E.PicksTwo.goes v.party.state) p.formed p.live c.requires.parts

pub invariant_of-self : goal.invariant_of-self
invariant_of-self g c =
    let p = c.args.self.now in
    let d = c.split_seat-seat.new.seat in
    let t = c.split_seat-seat.ensures in
    let w = went_to p.seat d (g.E.PicksTwo.stays (party_of p.seat).state) t.old.0 t.old.1 in
    record {
      sits = sits_same p.table.now.table p.seat d w.same p.sits;
      free = free_now p.seat d w p.free;
      unlocked = unlocked_now p.seat d w p.unlocked;
      formed = formed_now p.seat d w p.formed;
      live = live_now p.seat d w p.live;
      named = named_now p.seat d w p.named;
      knows = knows_same p.seat d p.last w.same p.knows;
    }
