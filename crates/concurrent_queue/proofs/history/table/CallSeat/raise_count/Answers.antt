use Rattle.concurrent_queue.proofs.HistoryCounts.{raises_so}
use Rattle.concurrent_queue.proofs.history.table.CallSeat.raise_count.Goals as goal

pub compare_exchange-requires : goal.compare_exchange-requires
compare_exchange-requires g c =
    let p = c.args.self.now in
    let i = c.count_index-at.ensures in
    (p.seated.0, i.1, raises_so g.P.Machine.keeps g.P.Machine.admits p.table.now.shared.key _ _ _ _ c.args.which p.slots i.0 p.live c.args.from c.requires.next)
