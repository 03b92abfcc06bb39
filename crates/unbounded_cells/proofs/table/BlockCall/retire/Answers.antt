use Rattle.unbounded_cells.proofs.Rounds.{round, sits_same, knows_same, free_now, unlocked_now, formed_now, live_now, named_now}
use Rattle.unbounded_cells.proofs.table.BlockCall.retire.Goals as goal

pub invariant_of-self : goal.invariant_of-self
invariant_of-self g c =
    let p = c.locate.new.self in
    let l = c.lock-taken.ensures in
    let s = c.retire_one.ensures in
    let u = c.unlock.ensures in
    let d = c.unlock.new.seat in
    let w = round p.seat c.lock-taken.new.seat c.retire_one.new.seat c.unlock.new.seat p.unlocked l.same.0 l.locked s.same.0 s.goes u.same.0 u.same.1 u.unlocked in
    record {
      sits = sits_same p.table.now.table p.seat d w.same p.sits;
      free = free_now p.seat d w p.free;
      unlocked = unlocked_now p.seat d w p.unlocked;
      formed = formed_now p.seat d w p.formed;
      live = live_now p.seat d w p.live;
      named = named_now p.seat d w p.named;
      knows = knows_same p.seat d p.last w.same p.knows;
    }
