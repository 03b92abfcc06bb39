use Rattle.std.proofs.Common.{refl, []}
use Rattle.concurrent_queue.specs.history.Shared.{first_view}
use Rattle.concurrent_queue.proofs.HistoryParties.{enters_so}
use Rattle.concurrent_queue.proofs.history.table.RuledTable.enter.Goals as goal

pub load_new_seat-seat-requires : goal.load_new_seat-seat-requires
load_new_seat-seat-requires g c =
    let k = c.args.self.now.table.shared.key in
    (c.flag_index-at.ensures.1, enters_so g.P.Machine.keeps g.P.Machine.admits k _ _ (first_view g.P.Machine.opened k, []) (g.E.Picks.to g.P.Machine.first) refl c.requires.enters)
