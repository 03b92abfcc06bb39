use Rattle.unbounded_cells.proofs.SeatSteps.{looks_so}
use Rattle.unbounded_cells.specs.Seated.{party_of}
use Rattle.unbounded_cells.proofs.Rounds.{went_to, sits_same, knows_same, free_now, unlocked_now, formed_now, live_now, named_now}
use Rattle.unbounded_cells.proofs.table.BlockCall.look.Goals as goal

pub load-found-requires-clause-rule : goal.load-found-requires-clause-rule
load-found-requires-clause-rule g c =
    let p = c.args.self.now in
    looks_so g.P.Machine.keeps g.met.P.BlockMachine.blocks g.P.Machine.admits _ _ p.live p.named

pub invariant_of-self : goal.invariant_of-self
invariant_of-self g c =
    let p = c.args.self.now in
    let d = c.load-found.new.seat in
    let t = c.load-found.ensures in
    let w = went_to p.seat d (party_of p.seat).state t.same t.told.0 in
    record {
      sits = sits_same p.table.now.table p.seat d w.same p.sits;
      free = free_now p.seat d w p.free;
      unlocked = unlocked_now p.seat d w p.unlocked;
      formed = formed_now p.seat d w p.formed;
      live = live_now p.seat d w p.live;
      named = named_now p.seat d w p.named;
      knows = knows_same p.seat d p.last w.same p.knows;
    }
