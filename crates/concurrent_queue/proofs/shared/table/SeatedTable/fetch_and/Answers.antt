use Rattle.std.proofs.Common.{bit_and}
use Rattle.concurrent_queue.proofs.Guards.{looks}
use Rattle.concurrent_queue.proofs.shared.table.SeatedTable.fetch_and.Goals as goal

pub fetch_and-requires : goal.fetch_and-requires
fetch_and-requires g c = (c.args.self.now.seated.0, c.in-Some.ensures.1, looks _ _ _ _ (λ n. bit_and n c.args.bits) c.in-Some.ensures.0)
