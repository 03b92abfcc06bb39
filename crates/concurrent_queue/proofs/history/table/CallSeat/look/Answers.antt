use Rattle.concurrent_queue.proofs.HistorySteps.{looks_so}
use Rattle.concurrent_queue.proofs.history.table.CallSeat.look.Goals as goal

pub load-found-requires : goal.load-found-requires
load-found-requires g c =
    let p = c.args.self.now in
    (p.seated.0, c.flag_index-at.ensures.1, looks_so g.P.Machine.keeps _ p.table.now.shared.key _ _ _ _ c.flag_index-at.ensures.0 p.live p.named)
