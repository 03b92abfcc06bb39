use Rattle.std.proofs.Common.{◌+◌, ◌%◌, ◌^◌}
use Rattle.concurrent_queue.proofs.Guards.{looks}
use Rattle.concurrent_queue.proofs.shared.table.SeatedTable.fetch_add.Goals as goal

pub fetch_add-requires : goal.fetch_add-requires
fetch_add-requires g c = (c.args.self.now.seated.0, c.in-Some.ensures.1, looks _ _ _ _ (λ n. (n + c.args.by) % 2 ^ 64) c.in-Some.ensures.0)
