use Rattle.std.proofs.Common.{ap, ◌∙◌}
use Rattle.concurrent_queue.specs.Deeds.{loaded}
use Rattle.unbounded_cells.proofs.Absent.{absent_load}
use Rattle.unbounded_cells.proofs.CallSteps.{loads_here, may_there}
use Rattle.unbounded_cells.proofs.table.BlockCall.load.Goals as goal

pub reach-requires-clause-leaves : goal.reach-requires-clause-leaves
reach-requires-clause-leaves g c = λ none. absent_load c.args.at none

pub reach-requires-clause-next : goal.reach-requires-clause-next
reach-requires-clause-next g c = c.requires.next 0

pub load-requires-clause-rule : goal.load-requires-clause-rule
load-requires-clause-rule g c =
    let p = c.args.self.now in
    let i = c.in-Own.ensures.reached in
    loads_here g.P.Machine.keeps g.met.P.BlockMachine.blocks g.P.Machine.admits _ _ _ i.3 p.formed p.live c.args.at i.0 _ i.1 c.requires.next

pub invariant_of-self : goal.invariant_of-self
invariant_of-self g c =
    let p = c.reach.new.self in
    let e = c.load.ensures in
    record {
      sits = (e.same.0.0 ∙ p.sits.0, e.same.0.1 ∙ p.sits.1, e.same.0.3 ∙ p.sits.2);
      free = (ap (λ m. m.hand) e.told.1 ∙ p.free.0, ap (λ m. m.view.held) e.told.1 ∙ p.free.1);
      unlocked = (ap (λ m. m.view.keeper) e.told.1 ∙ p.unlocked.0, e.same.1 ∙ p.unlocked.1);
      formed = ap (λ m. m.view.party.form) e.told.1 ∙ p.formed;
      live = ap (λ m. m.view.party.spent) e.told.1 ∙ p.live;
      named = ap (λ m. m.view.party.nameless) e.told.1 ∙ p.named;
      knows = λ place at. e.same.0.4 _ _ (p.knows place at);
    }

pub load_in-requires-clause-rule : goal.load_in-requires-clause-rule
load_in-requires-clause-rule g c =
    let p = c.args.self.now in
    let i = c.in-Within.ensures.reached in
    loads_here g.P.Machine.keeps g.met.P.BlockMachine.blocks g.P.Machine.admits _ _ _ i.4 p.formed p.live c.args.at i.0 _ i.1 c.requires.next

pub invariant_of-self-in-Within : goal.invariant_of-self-in-Within
invariant_of-self-in-Within g c =
    let p = c.reach.new.self in
    let e = c.load_in.ensures in
    record {
      sits = (e.same.0.0 ∙ p.sits.0, e.same.0.1 ∙ p.sits.1, e.same.0.3 ∙ p.sits.2);
      free = (ap (λ m. m.hand) e.told.1 ∙ p.free.0, ap (λ m. m.view.held) e.told.1 ∙ p.free.1);
      unlocked = (ap (λ m. m.view.keeper) e.told.1 ∙ p.unlocked.0, e.same.1 ∙ p.unlocked.1);
      formed = ap (λ m. m.view.party.form) e.told.1 ∙ p.formed;
      live = ap (λ m. m.view.party.spent) e.told.1 ∙ p.live;
      named = ap (λ m. m.view.party.nameless) e.told.1 ∙ p.named;
      knows = λ place at. e.same.0.4 _ _ (p.knows place at);
    }

pub load_flag-requires-clause-next : goal.load_flag-requires-clause-next
load_flag-requires-clause-next g c =
    let i = c.in-Flag.ensures.reached in
    λ x. may_there g.P.Machine.moves _ _ i.3 c.args.at _ i.0 (λ w. loaded w x) (c.requires.next x)
