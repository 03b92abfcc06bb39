use Rattle.concurrent_queue.proofs.HistoryParties.{parts_so}
use Rattle.concurrent_queue.proofs.HistorySteps.{word_there}
use Rattle.concurrent_queue.proofs.history.table.CallSeat.part.Goals as goal

pub split_seat-seat-requires : goal.split_seat-seat-requires
split_seat-seat-requires g c =
    let p = c.args.self.now in
    let key = p.table.now.shared.key in
    (p.seated.0, word_there key _ p.words, parts_so g.P.Machine.keeps g.P.Machine.admits key p.seat.id p.seat.me.0 (g.E.PicksTwo.stays p.seat.me.0.state) (g.E.PicksTwo.goes p.seat.me.0.state) p.free.0 p.live c.requires.parts)
