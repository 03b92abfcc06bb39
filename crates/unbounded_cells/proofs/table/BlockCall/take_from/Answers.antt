use Rattle.std.specs.Prelude.{None}
use Rattle.std.proofs.Common.{◌≡◌, refl, ap, ◌∙◌, arith}
use Rattle.growing_table.specs.Seats.{me_of}
use Rattle.unbounded_cells.proofs.CallSteps.{takes_here, gives_here, take_gives}
use Rattle.unbounded_cells.proofs.SeatStays.{follows_on}
use Rattle.unbounded_cells.proofs.table.BlockCall.take_from.Goals as goal

pub compare_exchange_in-requires-clause-rule : goal.compare_exchange_in-requires-clause-rule
compare_exchange_in-requires-clause-rule g c =
    let p = c.args.self.now in
    takes_here g.P.Machine.keeps g.met.P.BlockMachine.blocks g.P.Machine.admits _ _ _ refl p.formed p.live _ _ c.requires.there.1 p.free.1 c.requires.next

pub invariant_of-self : goal.invariant_of-self
invariant_of-self g c =
    let p = c.args.self.now in
    let e = c.compare_exchange_in.ensures in
    let still = e.told.1 (λ (zero : c.compare_exchange_in.result ≡ 0). c.if-compare_exchange_in-ne0.true zero) in
    record {
      sits = (e.same.0.0 ∙ p.sits.0, e.same.0.1 ∙ p.sits.1, e.same.0.3 ∙ p.sits.2);
      free = (ap (λ m. m.hand) still ∙ p.free.0, ap (λ m. m.view.held) still ∙ p.free.1);
      unlocked = (ap (λ m. m.view.keeper) still ∙ p.unlocked.0, e.same.1 ∙ p.unlocked.1);
      formed = ap (λ m. m.view.party.form) still ∙ p.formed;
      live = ap (λ m. m.view.party.spent) still ∙ p.live;
      named = ap (λ m. m.view.party.nameless) still ∙ p.named;
      knows = λ place at. e.same.0.4 _ _ (p.knows place at);
    }

pub store_in-requires-clause-rule : goal.store_in-requires-clause-rule
store_in-requires-clause-rule g c =
    let p = c.args.self.now in
    let hit : c.compare_exchange_in.result ≡ 0 = omega (arith, c.if-compare_exchange_in-ne0.false) in
    let took = c.compare_exchange_in.ensures.told.0 hit in
    let e = c.exchange-found.ensures.slot in
    gives_here g.P.Machine.keeps g.met.P.BlockMachine.blocks g.P.Machine.admits _ _ _ _ _ 0 c.requires.there.1 (ap (λ m. m.view.held) e.1 ∙ ap (λ m. m.view.held) took.1.1) (ap (λ m. m.hand) e.1) (ap (λ m. m.view.party.spent) e.1 ∙ (ap (λ m. m.view.party.spent) took.1.1 ∙ p.live))

pub invariant_of-self-2 : goal.invariant_of-self-2
invariant_of-self-2 g c =
    let p = c.args.self.now in
    let hit : c.compare_exchange_in.result ≡ 0 = omega (arith, c.if-compare_exchange_in-ne0.false) in
    let took = c.compare_exchange_in.ensures.told.0 hit in
    let e = c.exchange-found.ensures in
    let given = take_gives g.P.Machine.moves c.args.place.number c.args.offset (me_of p.seat) (me_of c.compare_exchange_in.new.seat) took.0 took.1 None (me_of c.exchange-found.new.seat) (me_of c.store_in.new.seat) (e.slot.1, c.store_in.ensures.told) in
    let f = follows_on p.seat c.exchange-found.new.seat c.store_in.new.seat (follows_on p.seat c.compare_exchange_in.new.seat c.exchange-found.new.seat c.compare_exchange_in.ensures.same e.same) c.store_in.ensures.same in
    record {
      sits = (f.0.0 ∙ p.sits.0, f.0.1 ∙ p.sits.1, f.0.3 ∙ p.sits.2);
      free = (ap (λ m. m.hand) given, ap (λ m. m.view.held) given);
      unlocked = (ap (λ m. m.view.keeper) given ∙ p.unlocked.0, f.1 ∙ p.unlocked.1);
      formed = ap (λ m. m.view.party.form) given ∙ p.formed;
      live = ap (λ m. m.view.party.spent) given ∙ p.live;
      named = ap (λ m. m.view.party.nameless) given ∙ p.named;
      knows = λ place at. f.0.4 _ _ (p.knows place at);
    }
