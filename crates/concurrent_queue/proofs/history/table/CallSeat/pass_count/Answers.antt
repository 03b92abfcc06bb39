use Rattle.concurrent_queue.proofs.HistoryCounts.{passes_so}
use Rattle.concurrent_queue.proofs.history.table.CallSeat.pass_count.Goals as goal

pub load-found-requires : goal.load-found-requires
load-found-requires g c =
    let p = c.args.self.now in
    let i = c.count_index-at.ensures in
    (p.seated.0, i.1, passes_so g.P.Machine.keeps g.P.Machine.admits p.table.now.shared.key _ _ _ _ c.args.which p.slots i.0 p.live g.E.LeadsTo.to c.requires.next)
