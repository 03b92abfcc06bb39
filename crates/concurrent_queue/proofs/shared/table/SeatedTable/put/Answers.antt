use Rattle.std.proofs.Common.{arith, ap, ◌∙◌}
use Rattle.concurrent_queue.proofs.Guards.{wins, gives_back, held}
use Rattle.concurrent_queue.proofs.shared.table.SeatedTable.put.Goals as goal

pub compare_exchange-requires : goal.compare_exchange-requires
compare_exchange-requires g c =
    let s = c.args.self.now in
    (s.seated.0, omega (arith, s.wide, c.slot_count.ensures, c.if-slot-slot_count.false), wins _ _ _ _ (omega (arith, c.slot_count.ensures, c.if-slot-slot_count.false)) (ap (λ m. m.0) s.seated.1))

pub store-requires : goal.store-requires
store-requires g c =
    let s = c.args.self.now in
    let did = c.compare_exchange.ensures.2.0 c.if-compare_exchange-ne0.false in
    let now = c.exchange.ensures.3 in (
      c.exchange.ensures.0 ∙ c.compare_exchange.ensures.0 ∙ s.seated.0,
      omega (arith, s.wide, c.slot_count.ensures, c.if-slot-slot_count.false),
      gives_back _ _ _ _ _ _ (omega (arith, c.slot_count.ensures, c.if-slot-slot_count.false)) (ap (λ m. m.0) now ∙ did.0) (ap (λ m. m.1) now),
    )

pub exchange-back-requires : goal.exchange-back-requires
exchange-back-requires g c =
    let s = c.args.self.now in
    (c.exchange.ensures.0 ∙ c.compare_exchange.ensures.0 ∙ s.seated.0, (_, held _ _ _ _ c.exchange.ensures.3))

pub store-requires-in_default : goal.store-requires-in_default
store-requires-in_default g c =
    let s = c.args.self.now in
    let did = c.compare_exchange.ensures.2.0 c.if-compare_exchange-ne0.false in
    let was = c.exchange.ensures.3 in
    let now = c.exchange-back.ensures.3 in (
      c.exchange-back.ensures.0 ∙ c.exchange.ensures.0 ∙ c.compare_exchange.ensures.0 ∙ s.seated.0,
      omega (arith, s.wide, c.slot_count.ensures, c.if-slot-slot_count.false),
      gives_back _ _ _ _ _ _ (omega (arith, c.slot_count.ensures, c.if-slot-slot_count.false)) (ap (λ m. m.0) now ∙ ap (λ m. m.0) was ∙ did.0) (ap (λ m. m.1) now),
    )
