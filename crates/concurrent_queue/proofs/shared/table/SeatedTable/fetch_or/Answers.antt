use Rattle.std.proofs.Common.{bit_or}
use Rattle.concurrent_queue.proofs.Guards.{looks}
use Rattle.concurrent_queue.proofs.shared.table.SeatedTable.fetch_or.Goals as goal

pub fetch_or-requires : goal.fetch_or-requires
fetch_or-requires g c = (c.args.self.now.seated.0, c.in-Some.ensures.1, looks _ _ _ _ (λ n. bit_or n c.args.bits) c.in-Some.ensures.0)
