use Rattle.std.proofs.Common.{ap, ◌∙◌}
use Rattle.unbounded_cells.proofs.CountSteps.{reads_so}
use Rattle.unbounded_cells.proofs.table.BlockCall.count.Goals as goal

pub load-requires-clause-rule : goal.load-requires-clause-rule
load-requires-clause-rule g c =
    let p = c.args.self.now in
    reads_so g.P.Machine.keeps g.met.P.BlockMachine.blocks g.P.Machine.admits _ _ _ c.args.which c.count_index-at.ensures.0 p.formed p.live c.requires.next

pub invariant_of-self : goal.invariant_of-self
invariant_of-self g c =
    let p = c.args.self.now in
    let e = c.load.ensures in
    record {
      sits = (e.same.0.0 ∙ p.sits.0, e.same.0.1 ∙ p.sits.1, e.same.0.3 ∙ p.sits.2);
      free = (ap (λ m. m.hand) e.told.1 ∙ p.free.0, ap (λ m. m.view.held) e.told.1 ∙ p.free.1);
      unlocked = (ap (λ m. m.view.keeper) e.told.1 ∙ p.unlocked.0, e.same.1 ∙ p.unlocked.1);
      formed = ap (λ m. m.view.party.form) e.told.1 ∙ p.formed;
      live = ap (λ m. m.view.party.spent) e.told.1 ∙ p.live;
      named = ap (λ m. m.view.party.nameless) e.told.1 ∙ p.named;
      knows = λ place at. e.same.0.4 _ _ (p.knows place at);
    }
