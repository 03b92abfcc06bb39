use Rattle.concurrent_queue.proofs.HistorySteps.{looks_so}
use Rattle.concurrent_queue.proofs.history.table.RuledTable.look.Goals as goal

pub load-found-requires : goal.load-found-requires
load-found-requires g c =
    let q = c.args.self.now in
    let v = c.args.idle.now in
    (c.requires.same, c.flag_index-at.ensures.1, looks_so g.P.Machine.keeps _ q.table.shared.key _ _ _ _ c.flag_index-at.ensures.0 v.live v.named)
