use Rattle.concurrent_queue.proofs.HistorySteps.{happens_so}
use Rattle.concurrent_queue.proofs.history.table.CallSeat.happen.Goals as goal

pub load-requires : goal.load-requires
load-requires g c =
    let p = c.args.self.now in
    (p.seated.0, c.flag_index-at.ensures.1, happens_so g.P.Machine.keeps _ p.table.now.shared.key _ _ _ _ _ p.live c.requires.quiet c.requires.next)
