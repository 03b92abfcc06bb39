use Rattle.concurrent_queue.proofs.HistoryCounts.{lowers_so}
use Rattle.concurrent_queue.proofs.history.table.CallSeat.lower_count.Goals as goal

pub fetch_sub-requires : goal.fetch_sub-requires
fetch_sub-requires g c =
    let p = c.args.self.now in
    let i = c.count_index-at.ensures in
    (p.seated.0, i.1, lowers_so g.P.Machine.keeps g.P.Machine.admits p.table.now.shared.key _ _ _ _ c.args.which p.slots i.0 p.live c.requires.next)
