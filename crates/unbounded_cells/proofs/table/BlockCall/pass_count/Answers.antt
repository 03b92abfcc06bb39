use Rattle.growing_table.specs.Seats.{me_of}
use Rattle.std.proofs.Common.{ap, ◌∙◌}
use Rattle.unbounded_cells.proofs.CountSteps.{passes_so, passed_on}
use Rattle.unbounded_cells.proofs.table.BlockCall.pass_count.Goals as goal

pub load-found-requires-clause-rule : goal.load-found-requires-clause-rule
load-found-requires-clause-rule g c =
    let p = c.args.self.now in
    passes_so g.P.Machine.keeps g.met.P.BlockMachine.blocks g.P.Machine.admits _ _ _ c.args.which c.count_index-at.ensures.0 p.formed p.live g.E.LeadsTo.to c.requires.next

pub invariant_of-self : goal.invariant_of-self
invariant_of-self g c =
    let p = c.args.self.now in
    let e = c.load-found.ensures in
    let on = passed_on g.E.LeadsTo.to (me_of p.seat) c.load-found.result (me_of c.load-found.new.seat) e.told in
    record {
      sits = (e.same.0.0 ∙ p.sits.0, e.same.0.1 ∙ p.sits.1, e.same.0.3 ∙ p.sits.2);
      free = (ap (λ m. m.hand) on.1 ∙ p.free.0, ap (λ m. m.view.held) on.1 ∙ p.free.1);
      unlocked = (ap (λ m. m.view.keeper) on.1 ∙ p.unlocked.0, e.same.1 ∙ p.unlocked.1);
      formed = ap (λ m. m.view.party.form) on.1 ∙ p.formed;
      live = ap (λ m. m.view.party.spent) on.1 ∙ p.live;
      named = ap (λ m. m.view.party.nameless) on.1 ∙ p.named;
      knows = λ place at. e.same.0.4 _ _ (p.knows place at);
    }
