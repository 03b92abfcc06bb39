use Rattle.std.proofs.Common.{arith, ◌≡◌, ap, ◌∙◌}
use Rattle.concurrent_queue.proofs.HistorySteps.{guard_there, takes_so, gives_so}
use Rattle.concurrent_queue.proofs.history.table.CallSeat.take_from.Goals as goal

pub compare_exchange-requires : goal.compare_exchange-requires
compare_exchange-requires g c =
    let p = c.args.self.now in
    (p.seated.0, guard_there p.table.now.shared.key _ _ _ p.slots p.words c.requires.there, takes_so g.P.Machine.keeps _ p.table.now.shared.key _ _ _ _ p.slots c.requires.there p.free.0 p.live c.requires.next)

pub store-requires : goal.store-requires
store-requires g c =
    let p = c.args.self.now in
    let t = c.compare_exchange.ensures in
    let hit : c.compare_exchange.result ≡ 0 = omega (arith, c.if-compare_exchange-ne0.false) in
    let took = (t.2).0 hit in
    let e = c.exchange-found.ensures in
    (e.0 ∙ (t.0 ∙ p.seated.0), guard_there p.table.now.shared.key _ _ _ p.slots p.words c.requires.there, gives_so g.P.Machine.keeps g.P.Machine.admits p.table.now.shared.key _ _ _ _ _ _ p.slots c.requires.there (ap (λ m. m.1) e.3) (ap (λ m. m.0.held) e.3 ∙ ap (λ m. m.0.held) took.1.1) (ap (λ m. m.0.spent) e.3 ∙ (ap (λ m. m.0.spent) took.1.1 ∙ p.live)))
