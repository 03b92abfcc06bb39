use Rattle.concurrent_queue.proofs.HistorySteps.{keeps_so}
use Rattle.concurrent_queue.proofs.HistoryWords.{absent_keep}
use Rattle.concurrent_queue.proofs.history.table.CallSeat.fetch_and.Goals as goal

pub fetch_and-requires : goal.fetch_and-requires
fetch_and-requires g c =
    let p = c.args.self.now in
    let i = c.in-Some.ensures in
    (p.seated.0, i.2, keeps_so g.P.Machine.keeps _ _ _ _ _ _ _ p.slots i.0 i.1 p.live c.args.bits c.requires.next)

pub happen-requires : goal.happen-requires
happen-requires g c = record { quiet = absent_keep _ c.args.at c.in-None.ensures c.args.bits; next = c.requires.next 0 }
