use Rattle.concurrent_queue.proofs.HistoryCounts.{reads_so}
use Rattle.concurrent_queue.proofs.history.table.CallSeat.count.Goals as goal

pub load-requires : goal.load-requires
load-requires g c =
    let p = c.args.self.now in
    let i = c.count_index-at.ensures in
    (p.seated.0, i.1, reads_so g.P.Machine.keeps g.P.Machine.admits p.table.now.shared.key _ _ _ _ c.args.which p.slots i.0 p.live c.requires.next)
