use Rattle.std.proofs.Common.{◌==◌}
use prog.Atomic.{either}
use Rattle.concurrent_queue.proofs.Guards.{looks}
use Rattle.concurrent_queue.proofs.shared.table.SeatedTable.compare_exchange.Goals as goal

pub compare_exchange-found-requires : goal.compare_exchange-found-requires
compare_exchange-found-requires g c = (c.args.self.now.seated.0, c.in-Some.ensures.1, looks _ _ _ _ (λ n. either (n == c.args.expected) c.args.next n) c.in-Some.ensures.0)
