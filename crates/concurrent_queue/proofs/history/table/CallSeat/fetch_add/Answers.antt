use Rattle.concurrent_queue.proofs.HistorySteps.{adds_so}
use Rattle.concurrent_queue.proofs.HistoryWords.{absent_add}
use Rattle.concurrent_queue.proofs.history.table.CallSeat.fetch_add.Goals as goal

pub fetch_add-requires : goal.fetch_add-requires
fetch_add-requires g c =
    let p = c.args.self.now in
    let i = c.in-Some.ensures in
    (p.seated.0, i.2, adds_so g.P.Machine.keeps _ _ _ _ _ _ _ p.slots i.0 i.1 p.live c.args.by c.requires.next)

pub happen-requires : goal.happen-requires
happen-requires g c = record { quiet = absent_add _ c.args.at c.in-None.ensures c.args.by; next = c.requires.next 0 }
