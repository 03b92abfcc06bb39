use Rattle.std.proofs.Common.{arith, ◌≡◌, ap, ◌∙◌, ◌∷◌, sym, ℕ, List}
use Rattle.std.specs.Prelude.{Option, Some}
use Rattle.atomic_table.specs.Table.{rest}
use Rattle.concurrent_queue.specs.history.QueueKeeps.{queue_keeps}
use Rattle.concurrent_queue.specs.history.Shared.{slot_in}
use Rattle.concurrent_queue.proofs.HistorySteps.{guard_there, wins_so, returns_so}
use Rattle.concurrent_queue.proofs.history.foreign.ForeignSeat.put_into.Goals as goal

pub compare_exchange-requires : goal.compare_exchange-requires
compare_exchange-requires g c =
    let p = c.args.self.now in
    let k = p.table.now.shared.key in
    (p.seated.0, guard_there k _ _ _ p.slots p.words c.requires.there, wins_so queue_keeps (Unit {0}) k tt _ _ _ p.foreign p.live _ p.slots c.requires.there p.free.0)

pub store-requires : goal.store-requires
store-requires g c =
    let p = c.args.self.now in
    let k = p.table.now.shared.key in
    let t = c.compare_exchange.ensures in
    let hit : c.compare_exchange.result ≡ 0 = omega (arith, c.if-compare_exchange-ne0.false) in
    let took = (t.2).0 hit in
    let e = c.exchange.ensures in
    let now = e.3 in (
      e.0 ∙ (t.0 ∙ p.seated.0),
      guard_there k _ _ _ p.slots p.words c.requires.there,
      returns_so queue_keeps (Unit {0}) k tt _ _ _ (ap (λ m. m.0.foreign) now ∙ (ap (λ m. m.0.foreign) took.1 ∙ p.foreign)) (ap (λ m. m.0.spent) now ∙ (ap (λ m. m.0.spent) took.1 ∙ p.live)) _ _ _ p.slots c.requires.there (ap (λ m. m.1) now)
          (ap (λ m. slot_in m.0.held) now ∙ ap (λ m. slot_in m.0.held) took.1),
    )

pub exchange-back-requires : goal.exchange-back-requires
exchange-back-requires g c =
    let p = c.args.self.now in
    let t = c.compare_exchange.ensures in
    let e = c.exchange.ensures in
    let a = ap (λ m. m.1) e.3 in
    (e.0 ∙ (t.0 ∙ p.seated.0), (Some c.args.value, a ∙ ap (λ (l : List (ℕ × Option g.row.T.Denot)). (c.args.index, Some c.args.value) ∷ l) (sym (ap rest a))))

pub store-requires-in-Some : goal.store-requires-in-Some
store-requires-in-Some g c =
    let p = c.args.self.now in
    let k = p.table.now.shared.key in
    let t = c.compare_exchange.ensures in
    let hit : c.compare_exchange.result ≡ 0 = omega (arith, c.if-compare_exchange-ne0.false) in
    let took = (t.2).0 hit in
    let e = c.exchange.ensures in
    let b = c.exchange-back.ensures in (
      b.0 ∙ (e.0 ∙ (t.0 ∙ p.seated.0)),
      guard_there k _ _ _ p.slots p.words c.requires.there,
      returns_so queue_keeps (Unit {0}) k tt _ _ _ (ap (λ m. m.0.foreign) b.3 ∙ (ap (λ m. m.0.foreign) e.3 ∙ (ap (λ m. m.0.foreign) took.1 ∙ p.foreign))) (ap (λ m. m.0.spent) b.3 ∙ (ap (λ m. m.0.spent) e.3 ∙ (ap (λ m. m.0.spent) took.1 ∙ p.live))) _ _ _ p.slots c.requires.there (ap (λ m. m.1) b.3)
          (ap (λ m. slot_in m.0.held) b.3 ∙ (ap (λ m. slot_in m.0.held) e.3 ∙ ap (λ m. slot_in m.0.held) took.1)),
    )
