use Rattle.std.proofs.Common.{refl, ap, ◌∙◌}
use Rattle.unbounded_cells.proofs.CallSteps.{flag_set}
use Rattle.unbounded_cells.proofs.table.BlockCall.set_flag.Goals as goal

pub fetch_or_in-requires-clause-rule : goal.fetch_or_in-requires-clause-rule
fetch_or_in-requires-clause-rule g c =
    let p = c.args.self.now in
    flag_set g.P.Machine.keeps g.met.P.BlockMachine.blocks g.P.Machine.admits _ _ _ refl p.formed p.live _ c.args.offset c.requires.place.1 _ _ c.requires.place.2 (c.flag_bit-bit.ensures c.requires.place.1) c.requires.next

pub invariant_of-self : goal.invariant_of-self
invariant_of-self g c =
    let p = c.args.self.now in
    let e = c.fetch_or_in.ensures in
    record {
      sits = (e.same.0.0 ∙ p.sits.0, e.same.0.1 ∙ p.sits.1, e.same.0.3 ∙ p.sits.2);
      free = (ap (λ m. m.hand) e.told.1 ∙ p.free.0, ap (λ m. m.view.held) e.told.1 ∙ p.free.1);
      unlocked = (ap (λ m. m.view.keeper) e.told.1 ∙ p.unlocked.0, e.same.1 ∙ p.unlocked.1);
      formed = ap (λ m. m.view.party.form) e.told.1 ∙ p.formed;
      live = ap (λ m. m.view.party.spent) e.told.1 ∙ p.live;
      named = ap (λ m. m.view.party.nameless) e.told.1 ∙ p.named;
      knows = λ place at. e.same.0.4 _ _ (p.knows place at);
    }
