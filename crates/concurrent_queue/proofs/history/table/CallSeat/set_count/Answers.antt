use Rattle.concurrent_queue.proofs.HistoryCounts.{sets_so}
use Rattle.concurrent_queue.proofs.history.table.CallSeat.set_count.Goals as goal

pub store-requires : goal.store-requires
store-requires g c =
    let p = c.args.self.now in
    let i = c.count_index-at.ensures in
    (p.seated.0, i.1, sets_so g.P.Machine.keeps g.P.Machine.admits p.table.now.shared.key _ _ _ _ c.args.which p.slots i.0 p.live c.args.value g.E.LeadsTo.to c.requires.next)
