use Rattle.std.proofs.Common.{◌≡◌, refl, ap, ◌∙◌}
use Rattle.std.specs.Prelude.{Option, Some}
use Rattle.growing_table.specs.Seats.{me_of}
use Rattle.unbounded_cells.proofs.CallSteps.{unbounded_now, put_carries, put_in, put_back, put_live, put_gives, written_twice, gives_here}
use Rattle.unbounded_cells.proofs.SeatStays.{follows_on}
use Rattle.unbounded_cells.proofs.table.BlockCall.put_into.Goals as goal

pub win_to_put-requires-clause-brought : goal.win_to_put-requires-clause-brought
win_to_put-requires-clause-brought g c =
    let p = c.args.self.now in
    (c.args.value, refl, refl, λ o. unbounded_now g.P.Machine.moves _ p.formed _ _ (c.requires.next o))

pub invariant_of-self : goal.invariant_of-self
invariant_of-self g c =
    let p = c.args.self.now in
    let e = c.win_to_put.ensures in
    let still = (e.told c.args.value refl).1 (λ (zero : c.win_to_put.result ≡ 0). c.if-win_to_put-ne0.true zero) in
    record {
      sits = (e.same.0.0 ∙ p.sits.0, e.same.0.1 ∙ p.sits.1, e.same.0.3 ∙ p.sits.2);
      free = (ap (λ m. m.hand) still ∙ p.free.0, ap (λ m. m.view.held) still ∙ p.free.1);
      unlocked = (ap (λ m. m.view.keeper) still ∙ p.unlocked.0, e.same.1 ∙ p.unlocked.1);
      formed = ap (λ m. m.view.party.form) still ∙ p.formed;
      live = ap (λ m. m.view.party.spent) still ∙ p.live;
      named = ap (λ m. m.view.party.nameless) still ∙ p.named;
      knows = λ place at. e.same.0.4 _ _ (p.knows place at);
    }

pub exchange-requires-clause-slot : goal.exchange-requires-clause-slot
exchange-requires-clause-slot g c =
    let given = (c.win_to_put.ensures.told c.args.value refl).0 c.if-win_to_put-ne0.false in
    (given.0, put_carries g.P.Machine.moves c.args.place.number c.args.offset (me_of c.args.self.now.seat) (me_of c.win_to_put.new.seat) c.args.value given.0 given.1)

pub store_in-requires-clause-rule : goal.store_in-requires-clause-rule
store_in-requires-clause-rule g c =
    let p = c.args.self.now in
    let given = (c.win_to_put.ensures.told c.args.value refl).0 c.if-win_to_put-ne0.false in
    let e = c.exchange.ensures.slot in
    let empty = e.0 ∙ ap (λ (o : Option g.row.T.Denot). Some (c.args.place.number, c.args.offset, o)) c.in-None-exchange.is in
    let now = put_in g.P.Machine.moves c.args.place.number c.args.offset (me_of c.args.self.now.seat) (me_of c.win_to_put.new.seat) c.args.value given.0 given.1 empty in
    gives_here g.P.Machine.keeps g.met.P.BlockMachine.blocks g.P.Machine.admits _ _ _ _ _ 0 c.requires.there.1 (ap (λ m. m.view.held) e.1 ∙ now.0) (ap (λ m. m.hand) e.1) (ap (λ m. m.view.party.spent) e.1 ∙ (put_live g.P.Machine.moves c.args.place.number c.args.offset (me_of c.args.self.now.seat) (me_of c.win_to_put.new.seat) c.args.value given.0 given.1 ∙ p.live))

pub invariant_of-self-in-None-exchange : goal.invariant_of-self-in-None-exchange
invariant_of-self-in-None-exchange g c =
    let p = c.args.self.now in
    let won = (c.win_to_put.ensures.told c.args.value refl).0 c.if-win_to_put-ne0.false in
    let e = c.exchange.ensures in
    let given = put_gives g.P.Machine.moves c.args.place.number c.args.offset (me_of c.args.self.now.seat) (me_of c.win_to_put.new.seat) c.args.value won.0 (Some c.args.value) (me_of c.exchange.new.seat) (me_of c.store_in.new.seat) won.1 (e.slot.1, c.store_in.ensures.told) in
    let f = follows_on p.seat c.exchange.new.seat c.store_in.new.seat (follows_on p.seat c.win_to_put.new.seat c.exchange.new.seat c.win_to_put.ensures.same e.same) c.store_in.ensures.same in
    record {
      sits = (f.0.0 ∙ p.sits.0, f.0.1 ∙ p.sits.1, f.0.3 ∙ p.sits.2);
      free = (ap (λ m. m.hand) given, ap (λ m. m.view.held) given);
      unlocked = (ap (λ m. m.view.keeper) given ∙ p.unlocked.0, f.1 ∙ p.unlocked.1);
      formed = ap (λ m. m.view.party.form) given ∙ p.formed;
      live = ap (λ m. m.view.party.spent) given ∙ p.live;
      named = ap (λ m. m.view.party.nameless) given ∙ p.named;
      knows = λ place at. f.0.4 _ _ (p.knows place at);
    }

pub store_in-requires-in-Some-exchange-clause-rule : goal.store_in-requires-in-Some-exchange-clause-rule
store_in-requires-in-Some-exchange-clause-rule g c =
    let p = c.args.self.now in
    let given = (c.win_to_put.ensures.told c.args.value refl).0 c.if-win_to_put-ne0.false in
    let e = c.exchange.ensures.slot in
    let b = c.exchange-back.ensures.slot in
    let full = e.0 ∙ ap (λ (o : Option g.row.T.Denot). Some (c.args.place.number, c.args.offset, o)) c.in-Some-exchange.is in
    let now = put_back g.P.Machine.moves c.args.place.number c.args.offset (me_of c.args.self.now.seat) (me_of c.win_to_put.new.seat) c.args.value _ given.0 given.1 full in
    gives_here g.P.Machine.keeps g.met.P.BlockMachine.blocks g.P.Machine.admits _ _ _ _ _ 0 c.requires.there.1 (ap (λ m. m.view.held) b.1 ∙ (ap (λ m. m.view.held) e.1 ∙ now.0)) (ap (λ m. m.hand) b.1)
    (ap (λ m. m.view.party.spent) b.1 ∙ (ap (λ m. m.view.party.spent) e.1 ∙ (put_live g.P.Machine.moves c.args.place.number c.args.offset (me_of c.args.self.now.seat) (me_of c.win_to_put.new.seat) c.args.value given.0 given.1 ∙ p.live)))

pub invariant_of-self-in-Some-exchange : goal.invariant_of-self-in-Some-exchange
invariant_of-self-in-Some-exchange g c =
    let p = c.args.self.now in
    let won = (c.win_to_put.ensures.told c.args.value refl).0 c.if-win_to_put-ne0.false in
    let e = c.exchange.ensures in
    let b = c.exchange-back.ensures in
    let given = put_gives g.P.Machine.moves c.args.place.number c.args.offset (me_of c.args.self.now.seat) (me_of c.win_to_put.new.seat) c.args.value won.0 _ (me_of c.exchange-back.new.seat) (me_of c.store_in-in-Some-exchange.new.seat) won.1 (written_twice g.P.Machine.moves c.args.place.number c.args.offset (me_of c.win_to_put.new.seat) _ _ (me_of c.exchange.new.seat) (me_of c.exchange-back.new.seat) e.slot.1 b.slot.1, c.store_in-in-Some-exchange.ensures.told) in
    let f = follows_on p.seat c.exchange-back.new.seat c.store_in-in-Some-exchange.new.seat (follows_on p.seat c.exchange.new.seat c.exchange-back.new.seat (follows_on p.seat c.win_to_put.new.seat c.exchange.new.seat c.win_to_put.ensures.same e.same) b.same) c.store_in-in-Some-exchange.ensures.same in
    record {
      sits = (f.0.0 ∙ p.sits.0, f.0.1 ∙ p.sits.1, f.0.3 ∙ p.sits.2);
      free = (ap (λ m. m.hand) given, ap (λ m. m.view.held) given);
      unlocked = (ap (λ m. m.view.keeper) given ∙ p.unlocked.0, f.1 ∙ p.unlocked.1);
      formed = ap (λ m. m.view.party.form) given ∙ p.formed;
      live = ap (λ m. m.view.party.spent) given ∙ p.live;
      named = ap (λ m. m.view.party.nameless) given ∙ p.named;
      knows = λ place at. f.0.4 _ _ (p.knows place at);
    }
