use Rattle.concurrent_queue.proofs.HistorySteps.{stores_so}
use Rattle.concurrent_queue.proofs.HistoryWords.{absent_store}
use Rattle.concurrent_queue.proofs.history.table.CallSeat.store.Goals as goal

pub store-requires : goal.store-requires
store-requires g c =
    let p = c.args.self.now in
    let i = c.in-Some.ensures in
    (p.seated.0, i.2, stores_so g.P.Machine.keeps _ _ _ _ _ _ _ p.slots i.0 i.1 p.live c.args.value c.requires.next)

pub happen-requires : goal.happen-requires
happen-requires g c = record { quiet = absent_store _ c.args.at c.in-None.ensures c.args.value; next = c.requires.next }
