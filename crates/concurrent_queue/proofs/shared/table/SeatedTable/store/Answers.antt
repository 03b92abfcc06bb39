use Rattle.concurrent_queue.proofs.Guards.{looks}
use Rattle.concurrent_queue.proofs.shared.table.SeatedTable.store.Goals as goal

pub store-requires : goal.store-requires
store-requires g c = (c.args.self.now.seated.0, c.in-Some.ensures.1, looks _ _ _ _ (λ _. c.args.value) c.in-Some.ensures.0)
