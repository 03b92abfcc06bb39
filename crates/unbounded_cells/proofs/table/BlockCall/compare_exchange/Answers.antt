use Rattle.std.proofs.Common.{refl, ap, ◌∙◌}
use Rattle.growing_table.specs.Seats.{me_of}
use Rattle.concurrent_queue.specs.Deeds.{exchanged}
use Rattle.concurrent_queue.specs.history.Shared.{answer}
use Rattle.unbounded_cells.proofs.Absent.{absent_exchange}
use Rattle.unbounded_cells.proofs.CallSteps.{exchanges_here, may_there, no_exchange}
use Rattle.unbounded_cells.proofs.table.BlockCall.compare_exchange.Goals as goal

pub reach-requires-clause-leaves : goal.reach-requires-clause-leaves
reach-requires-clause-leaves g c = λ none. absent_exchange c.args.at none c.args.expected c.args.next

pub reach-requires-clause-next : goal.reach-requires-clause-next
reach-requires-clause-next g c = c.requires.next 0

pub compare_exchange-requires-clause-rule : goal.compare_exchange-requires-clause-rule
compare_exchange-requires-clause-rule g c =
    let p = c.args.self.now in
    let i = c.in-Own.ensures.reached in
    exchanges_here g.P.Machine.keeps g.met.P.BlockMachine.blocks g.P.Machine.admits _ _ _ i.3 p.formed p.live c.args.at i.0 _ i.1 c.args.expected c.args.next c.requires.next

pub invariant_of-self : goal.invariant_of-self
invariant_of-self g c =
    let p = c.reach.new.self in
    let e = c.compare_exchange.ensures in
    record {
      sits = (e.same.0.0 ∙ p.sits.0, e.same.0.1 ∙ p.sits.1, e.same.0.3 ∙ p.sits.2);
      free = (ap (λ m. m.hand) e.told.1 ∙ p.free.0, ap (λ m. m.view.held) e.told.1 ∙ p.free.1);
      unlocked = (ap (λ m. m.view.keeper) e.told.1 ∙ p.unlocked.0, e.same.1 ∙ p.unlocked.1);
      formed = ap (λ m. m.view.party.form) e.told.1 ∙ p.formed;
      live = ap (λ m. m.view.party.spent) e.told.1 ∙ p.live;
      named = ap (λ m. m.view.party.nameless) e.told.1 ∙ p.named;
      knows = λ place at. e.same.0.4 _ _ (p.knows place at);
    }

pub compare_exchange_in-requires-clause-rule : goal.compare_exchange_in-requires-clause-rule
compare_exchange_in-requires-clause-rule g c =
    let p = c.args.self.now in
    let i = c.in-Within.ensures.reached in
    exchanges_here g.P.Machine.keeps g.met.P.BlockMachine.blocks g.P.Machine.admits _ _ _ i.4 p.formed p.live c.args.at i.0 _ i.1 c.args.expected c.args.next c.requires.next

pub invariant_of-self-in-Within : goal.invariant_of-self-in-Within
invariant_of-self-in-Within g c =
    let p = c.reach.new.self in
    let e = c.compare_exchange_in.ensures in
    record {
      sits = (e.same.0.0 ∙ p.sits.0, e.same.0.1 ∙ p.sits.1, e.same.0.3 ∙ p.sits.2);
      free = (ap (λ m. m.hand) e.told.1 ∙ p.free.0, ap (λ m. m.view.held) e.told.1 ∙ p.free.1);
      unlocked = (ap (λ m. m.view.keeper) e.told.1 ∙ p.unlocked.0, e.same.1 ∙ p.unlocked.1);
      formed = ap (λ m. m.view.party.form) e.told.1 ∙ p.formed;
      live = ap (λ m. m.view.party.spent) e.told.1 ∙ p.live;
      named = ap (λ m. m.view.party.nameless) e.told.1 ∙ p.named;
      knows = λ place at. e.same.0.4 _ _ (p.knows place at);
    }

pub unreachable-requires : goal.unreachable-requires
unreachable-requires g c =
    let p = c.args.self.now in
    let i = c.in-Flag.ensures.reached in
    absurd (no_exchange g.P.Machine.keeps g.met.P.BlockMachine.blocks g.P.Machine.admits 0 (me_of p.seat) (me_of p.seat) refl p.formed p.live _ _ c.args.expected c.args.next (λ x. may_there g.P.Machine.moves (me_of p.seat) (me_of p.seat) refl c.args.at _ i.0 (λ w. exchanged w c.args.expected c.args.next (answer x c.args.expected)) (c.requires.next x)))
