use Rattle.concurrent_queue.proofs.HistoryParties.{led_so}
use Rattle.concurrent_queue.proofs.history.table.CallSeat.turn_by.Goals as goal

pub load-requires : goal.load-requires
load-requires g c =
    let p = c.args.self.now in
    (p.seated.0, c.flag_index-at.ensures.1, led_so g.P.Machine.keeps g.P.Machine.admits p.table.now.shared.key _ _ _ _ g.E.LeadsTo.to p.live c.requires.next)
