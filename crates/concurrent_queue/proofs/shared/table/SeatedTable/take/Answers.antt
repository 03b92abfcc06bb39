use Rattle.std.proofs.Common.{arith, ap, ◌∙◌}
use Rattle.concurrent_queue.proofs.Guards.{wins, gives_back}
use Rattle.concurrent_queue.proofs.shared.table.SeatedTable.take.Goals as goal

pub compare_exchange-requires : goal.compare_exchange-requires
compare_exchange-requires g c =
    let s = c.args.self.now in
    (s.seated.0, omega (arith, s.wide, c.slot_count.ensures, c.if-slot-slot_count.false), wins _ _ _ _ (omega (arith, c.slot_count.ensures, c.if-slot-slot_count.false)) (ap (λ m. m.0) s.seated.1))

pub store-requires : goal.store-requires
store-requires g c =
    let s = c.args.self.now in
    let did = c.compare_exchange.ensures.2.0 c.if-compare_exchange-ne0.false in
    let now = c.exchange-found.ensures.3 in (
      c.exchange-found.ensures.0 ∙ c.compare_exchange.ensures.0 ∙ s.seated.0,
      omega (arith, s.wide, c.slot_count.ensures, c.if-slot-slot_count.false),
      gives_back _ _ _ _ _ _ (omega (arith, c.slot_count.ensures, c.if-slot-slot_count.false)) (ap (λ m. m.0) now ∙ did.0) (ap (λ m. m.1) now),
    )
