use Rattle.concurrent_queue.proofs.HistorySteps.{loads_so}
use Rattle.concurrent_queue.proofs.HistoryWords.{absent_load}
use Rattle.concurrent_queue.proofs.history.table.CallSeat.load.Goals as goal

pub load-requires : goal.load-requires
load-requires g c =
    let p = c.args.self.now in
    let i = c.in-Some.ensures in
    (p.seated.0, i.2, loads_so g.P.Machine.keeps _ _ _ _ _ _ _ p.slots i.0 i.1 p.live c.requires.next)

pub happen-requires : goal.happen-requires
happen-requires g c = record { quiet = absent_load _ c.args.at c.in-None.ensures; next = c.requires.next 0 }
