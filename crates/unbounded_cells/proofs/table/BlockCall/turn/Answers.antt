use Rattle.unbounded_cells.proofs.Parties.{turns_so}
use Rattle.unbounded_cells.specs.Seated.{party_of}
use Rattle.unbounded_cells.proofs.Rounds.{went_to, sits_same, knows_same, free_now, unlocked_now, formed_now, live_now, named_now}
use Rattle.unbounded_cells.proofs.table.BlockCall.turn.Goals as goal

pub load-requires-clause-rule : goal.load-requires-clause-rule
load-requires-clause-rule g c =
    let p = c.args.self.now in
    turns_so g.P.Machine.keeps g.met.P.BlockMachine.blocks g.P.Machine.admits _ 24 _ g.E.Picks.to p.formed p.live c.requires.next

pub invariant_of-self : goal.invariant_of-self
invariant_of-self g c =
    let p = c.args.self.now in
    let d = c.load.new.seat in
    let t = c.load.ensures in
    let w = went_to p.seat d (g.E.Picks.to (party_of p.seat).state) t.same t.told in
    record {
      sits = sits_same p.table.now.table p.seat d w.same p.sits;
      free = free_now p.seat d w p.free;
      unlocked = unlocked_now p.seat d w p.unlocked;
      formed = formed_now p.seat d w p.formed;
      live = live_now p.seat d w p.live;
      named = named_now p.seat d w p.named;
      knows = knows_same p.seat d p.last w.same p.knows;
    }
