use Rattle.std.proofs.Common.{sym, subst}
use Rattle.std.specs.Prelude.{Some}
use Rattle.concurrent_queue.specs.Bridge.{does}
use Rattle.concurrent_queue.specs.Deeds.{spared}
use Rattle.concurrent_queue.specs.declared.cells.QueueForm.{QueueForm}
use Rattle.concurrent_queue.specs.declared.cells.QueueForm.TheVariants.{Unbounded}
use Rattle.unbounded_cells.specs.Seated.{party_of}
use Rattle.unbounded_cells.proofs.Rounds.{round, state_locked, sits_same, knows_same, free_now, unlocked_now, formed_now, live_now, named_now}
use Rattle.unbounded_cells.proofs.table.BlockCall.spare.Goals as goal

pub spare_one-result-requires-clause-next : goal.spare_one-result-requires-clause-next
spare_one-result-requires-clause-next g c = λ o.
    let p = c.args.self.now in
    subst (λ (z : g.row.A.Denot). (a : g.row.A.Denot) × g.P.Machine.moves Unbounded z (does (Some (spared o))) a) (sym (state_locked p.seat c.lock-taken.new.seat c.lock-taken.ensures.locked))
    (subst (λ (f : QueueForm). (a : g.row.A.Denot) × g.P.Machine.moves f (party_of p.seat).state (does (Some (spared o))) a) p.formed (c.requires.next o))

pub invariant_of-self : goal.invariant_of-self
invariant_of-self g c =
    let p = c.args.self.now in
    let l = c.lock-taken.ensures in
    let s = c.spare_one-result.ensures in
    let u = c.unlock.ensures in
    let d = c.unlock.new.seat in
    let w = round p.seat c.lock-taken.new.seat c.spare_one-result.new.seat c.unlock.new.seat p.unlocked l.same.0 l.locked s.same.0 s.goes u.same.0 u.same.1 u.unlocked in
    record {
      sits = sits_same p.table.now.table p.seat d w.same p.sits;
      free = free_now p.seat d w p.free;
      unlocked = unlocked_now p.seat d w p.unlocked;
      formed = formed_now p.seat d w p.formed;
      live = live_now p.seat d w p.live;
      named = named_now p.seat d w p.named;
      knows = knows_same p.seat d p.last w.same p.knows;
    }
