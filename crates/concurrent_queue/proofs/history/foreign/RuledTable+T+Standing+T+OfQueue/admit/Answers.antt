use Rattle.std.proofs.Common.{inl, refl, []}
use Rattle.concurrent_queue.specs.history.QueueKeeps.{queue_keeps}
use Rattle.concurrent_queue.specs.history.Runs.{fresh}
use Rattle.concurrent_queue.specs.history.Shared.{first_view}
use Rattle.concurrent_queue.proofs.HistoryParties.{comes_so}
use Rattle.concurrent_queue.proofs.HistorySteps.{turns_so}
use Rattle.concurrent_queue.proofs.history.foreign.RuledTable+T+Standing+T+OfQueue.admit.Goals as goal

pub load_new_seat-found-requires : goal.load_new_seat-found-requires
load_new_seat-found-requires g c =
    let q = c.args.self.now in
    let k = q.table.shared.key in
    (c.flag_index-at.ensures.1, comes_so queue_keeps (Unit {0}) k _ _ (first_view fresh k, []) fresh refl c.flag_index-at.ensures.0 (inl refl))

pub store-requires : goal.store-requires
store-requires g c =
    let q = c.args.self.now in
    let e = c.load_new_seat-found.ensures in
    (e.0, c.flag_index-at.ensures.1, turns_so queue_keeps (Unit {0}) q.table.shared.key tt _ _ _ _ c.flag_index-at.ensures.0 e.2.2.2)
