use Rattle.std.proofs.Common.{◌≡◌, ap, ◌∙◌, ◌∷◌, sym, ℕ, List}
use Rattle.std.specs.Prelude.{Option, Some}
use Rattle.atomic_table.specs.Table.{rest}
use Rattle.concurrent_queue.proofs.HistorySteps.{guard_there, puts_so, gives_so, put_carries, put_live, same_found, put_in, put_refused}
use Rattle.concurrent_queue.proofs.history.table.CallSeat.put_into.Goals as goal

pub compare_exchange_with-requires : goal.compare_exchange_with-requires
compare_exchange_with-requires g c =
    let p = c.args.self.now in
    (p.seated.0, guard_there p.table.now.shared.key _ _ _ p.slots p.words c.requires.there, puts_so g.P.Machine.keeps _ p.table.now.shared.key _ _ _ _ _ p.slots c.requires.there p.free.0 p.live c.requires.next)

pub store-requires : goal.store-requires
store-requires g c =
    let p = c.args.self.now in
    let t = c.compare_exchange_with.ensures in
    let given = (t.2).0 c.if-compare_exchange_with-ne0.false in
    let e = c.exchange.ensures in
    let found : c.exchange.result ≡ given.0 =
    same_found c.args.index given.0 c.exchange.result _ _ (put_carries g.P.Machine.keeps g.P.Machine.admits p.table.now.shared.key c.args.index c.args.value given.0 p.seat.me c.compare_exchange_with.new.seat.me given.1 ∙ ap (λ (l : List (ℕ × Option g.row.T.Denot)). (c.args.index, given.0) ∷ l) p.free.1) e.2 in
    let now = put_in g.P.Machine.keeps g.P.Machine.admits p.table.now.shared.key c.args.index c.args.value given.0 p.seat.me c.compare_exchange_with.new.seat.me given.1 (sym found ∙ c.in-None-exchange.is) in
    (e.0 ∙ (t.0 ∙ p.seated.0), guard_there p.table.now.shared.key _ _ _ p.slots p.words c.requires.there, gives_so g.P.Machine.keeps g.P.Machine.admits p.table.now.shared.key _ _ _ _ _ _ p.slots c.requires.there (ap (λ m. m.1) e.3) (ap (λ m. m.0.held) e.3 ∙ now.0) (ap (λ m. m.0.spent) e.3 ∙ (put_live g.P.Machine.keeps g.P.Machine.admits p.table.now.shared.key c.args.index c.args.value given.0 p.seat.me c.compare_exchange_with.new.seat.me given.1 ∙ p.live)))

pub exchange-back-requires : goal.exchange-back-requires
exchange-back-requires g c =
    let p = c.args.self.now in
    let t = c.compare_exchange_with.ensures in
    let e = c.exchange.ensures in
    let a = ap (λ m. m.1) e.3 in
    (e.0 ∙ (t.0 ∙ p.seated.0), (Some c.args.value, a ∙ ap (λ (l : List (ℕ × Option g.row.T.Denot)). (c.args.index, Some c.args.value) ∷ l) (sym (ap rest a))))

pub store-requires-in-Some-exchange : goal.store-requires-in-Some-exchange
store-requires-in-Some-exchange g c =
    let p = c.args.self.now in
    let t = c.compare_exchange_with.ensures in
    let given = (t.2).0 c.if-compare_exchange_with-ne0.false in
    let e = c.exchange.ensures in
    let b = c.exchange-back.ensures in
    let found : c.exchange.result ≡ given.0 =
    same_found c.args.index given.0 c.exchange.result _ _ (put_carries g.P.Machine.keeps g.P.Machine.admits p.table.now.shared.key c.args.index c.args.value given.0 p.seat.me c.compare_exchange_with.new.seat.me given.1 ∙ ap (λ (l : List (ℕ × Option g.row.T.Denot)). (c.args.index, given.0) ∷ l) p.free.1) e.2 in
    let now = put_refused g.P.Machine.keeps g.P.Machine.admits p.table.now.shared.key c.args.index c.args.value _ given.0 p.seat.me c.compare_exchange_with.new.seat.me given.1 (sym found ∙ c.in-Some-exchange.is) in
    (b.0 ∙ (e.0 ∙ (t.0 ∙ p.seated.0)), guard_there p.table.now.shared.key _ _ _ p.slots p.words c.requires.there, gives_so g.P.Machine.keeps g.P.Machine.admits p.table.now.shared.key _ _ _ _ _ _ p.slots c.requires.there (ap (λ m. m.1) b.3) (ap (λ m. m.0.held) b.3 ∙ (ap (λ m. m.0.held) e.3 ∙ now.0)) (ap (λ m. m.0.spent) b.3 ∙ (ap (λ m. m.0.spent) e.3 ∙ (put_live g.P.Machine.keeps g.P.Machine.admits p.table.now.shared.key c.args.index c.args.value given.0 p.seat.me c.compare_exchange_with.new.seat.me given.1 ∙ p.live))))
