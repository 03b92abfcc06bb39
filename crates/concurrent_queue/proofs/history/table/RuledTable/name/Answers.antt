use Rattle.concurrent_queue.proofs.HistoryParties.{names_so}
use Rattle.concurrent_queue.proofs.history.table.RuledTable.name.Goals as goal

pub load-requires : goal.load-requires
load-requires g c = (c.requires.same, c.flag_index-at.ensures.1, names_so g.P.Machine.keeps g.P.Machine.admits c.args.self.now.table.shared.key _ _ _ _ c.args.nameless.live)
