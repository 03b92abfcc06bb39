use Rattle.concurrent_queue.specs.history.QueueKeeps.{queue_keeps}
use Rattle.concurrent_queue.proofs.HistorySteps.{passes_so}
use Rattle.concurrent_queue.proofs.HistoryWords.{behind_guards}
use Rattle.concurrent_queue.proofs.history.foreign.ForeignSeatCells.load.Goals as goal

pub load-requires : goal.load-requires
load-requires g c =
    let p = c.args.self.now in
    let i = c.in-Some.ensures in
    let b = behind_guards p.table.now.shared.key c.args.at _ i.0 i.1 in
    (p.seated.0, i.2, passes_so queue_keeps (Unit {0}) p.table.now.shared.key tt _ _ _ p.foreign p.live _ (λ n. n) b.0 b.1)
