use Rattle.std.proofs.Common.{◌≡◌, refl, ap, ◌∙◌}
use Rattle.growing_table.specs.Seats.{me_of}
use Rattle.concurrent_queue.specs.Deeds.{stored}
use Rattle.concurrent_queue.specs.declared.cells.Word.TheVariants.{Written}
use Rattle.unbounded_cells.proofs.CallSteps.{stores_here, may_there, made_there, only_one}
use Rattle.unbounded_cells.proofs.table.BlockCall.store.Goals as goal

pub store-requires-clause-rule : goal.store-requires-clause-rule
store-requires-clause-rule g c =
    let p = c.args.self.now in
    let i = c.in-Own.ensures.reached in
    stores_here g.P.Machine.keeps g.met.P.BlockMachine.blocks g.P.Machine.admits _ _ _ i.3 p.formed p.live c.args.at i.0 _ i.1 c.args.value c.requires.next

pub invariant_of-self : goal.invariant_of-self
invariant_of-self g c =
    let p = c.reach.new.self in
    let e = c.store.ensures in
    record {
      sits = (e.same.0.0 ∙ p.sits.0, e.same.0.1 ∙ p.sits.1, e.same.0.3 ∙ p.sits.2);
      free = (ap (λ m. m.hand) e.told.1 ∙ p.free.0, ap (λ m. m.view.held) e.told.1 ∙ p.free.1);
      unlocked = (ap (λ m. m.view.keeper) e.told.1 ∙ p.unlocked.0, e.same.1 ∙ p.unlocked.1);
      formed = ap (λ m. m.view.party.form) e.told.1 ∙ p.formed;
      live = ap (λ m. m.view.party.spent) e.told.1 ∙ p.live;
      named = ap (λ m. m.view.party.nameless) e.told.1 ∙ p.named;
      knows = λ place at. e.same.0.4 _ _ (p.knows place at);
    }

pub store_in-requires-clause-rule : goal.store_in-requires-clause-rule
store_in-requires-clause-rule g c =
    let p = c.args.self.now in
    let i = c.in-Within.ensures.reached in
    stores_here g.P.Machine.keeps g.met.P.BlockMachine.blocks g.P.Machine.admits _ _ _ i.4 p.formed p.live c.args.at i.0 _ i.1 c.args.value c.requires.next

pub invariant_of-self-in-Within : goal.invariant_of-self-in-Within
invariant_of-self-in-Within g c =
    let p = c.reach.new.self in
    let e = c.store_in.ensures in
    record {
      sits = (e.same.0.0 ∙ p.sits.0, e.same.0.1 ∙ p.sits.1, e.same.0.3 ∙ p.sits.2);
      free = (ap (λ m. m.hand) e.told.1 ∙ p.free.0, ap (λ m. m.view.held) e.told.1 ∙ p.free.1);
      unlocked = (ap (λ m. m.view.keeper) e.told.1 ∙ p.unlocked.0, e.same.1 ∙ p.unlocked.1);
      formed = ap (λ m. m.view.party.form) e.told.1 ∙ p.formed;
      live = ap (λ m. m.view.party.spent) e.told.1 ∙ p.live;
      named = ap (λ m. m.view.party.nameless) e.told.1 ∙ p.named;
      knows = λ place at. e.same.0.4 _ _ (p.knows place at);
    }

pub set_flag-requires-clause-next : goal.set_flag-requires-clause-next
set_flag-requires-clause-next g c =
    let p = c.args.self.now in
    let i = c.in-Flag.ensures.reached in
    let here = may_there g.P.Machine.moves (me_of p.seat) (me_of p.seat) refl c.args.at (Written c.in-Flag.place.number c.in-Flag.offset) i.0 (λ w. stored w c.args.value) c.requires.next in
    let one : c.args.value ≡ 1 = only_one g.P.Machine.keeps g.met.P.BlockMachine.blocks g.P.Machine.admits 0 (me_of p.seat) (me_of p.seat) refl p.formed p.live c.in-Flag.place.number c.in-Flag.offset c.args.value here in
    may_there g.P.Machine.moves (me_of p.seat) (me_of c.reach.new.self.seat) i.3 c.args.value 1 one (λ x. stored (Written c.in-Flag.place.number c.in-Flag.offset) x) here

pub returns-in-Flag-clause-made : goal.returns-in-Flag-clause-made
returns-in-Flag-clause-made g c =
    let p = c.args.self.now in
    let i = c.in-Flag.ensures.reached in
    let here = may_there g.P.Machine.moves (me_of p.seat) (me_of p.seat) refl c.args.at (Written c.in-Flag.place.number c.in-Flag.offset) i.0 (λ w. stored w c.args.value) c.requires.next in
    let one : c.args.value ≡ 1 = only_one g.P.Machine.keeps g.met.P.BlockMachine.blocks g.P.Machine.admits 0 (me_of p.seat) (me_of p.seat) refl p.formed p.live c.in-Flag.place.number c.in-Flag.offset c.args.value here in
    made_there g.P.Machine.moves (me_of p.seat) (me_of p.seat) refl c.args.at (Written c.in-Flag.place.number c.in-Flag.offset) i.0 (λ w. stored w c.args.value) _
    (made_there g.P.Machine.moves (me_of p.seat) (me_of c.reach.new.self.seat) i.3 c.args.value 1 one (λ x. stored (Written c.in-Flag.place.number c.in-Flag.offset) x) _ c.set_flag.ensures.made)
