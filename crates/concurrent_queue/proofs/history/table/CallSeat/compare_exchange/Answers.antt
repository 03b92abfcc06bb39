use Rattle.concurrent_queue.proofs.HistorySteps.{exchanges_so}
use Rattle.concurrent_queue.proofs.HistoryWords.{absent_exchange}
use Rattle.concurrent_queue.proofs.history.table.CallSeat.compare_exchange.Goals as goal

pub compare_exchange-requires : goal.compare_exchange-requires
compare_exchange-requires g c =
    let p = c.args.self.now in
    let i = c.in-Some.ensures in
    (p.seated.0, i.2, exchanges_so g.P.Machine.keeps _ _ _ _ _ _ _ p.slots i.0 i.1 p.live c.args.expected c.args.next c.requires.next)

pub happen-requires : goal.happen-requires
happen-requires g c = record { quiet = absent_exchange _ c.args.at c.in-None.ensures c.args.expected c.args.next; next = c.requires.next 0 }
