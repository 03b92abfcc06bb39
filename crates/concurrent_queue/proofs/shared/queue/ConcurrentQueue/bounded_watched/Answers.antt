use Rattle.std.proofs.Common.{◌≤◌, ◌^◌, Some, ap, rules}
use Rattle.concurrent_queue.proofs.FitsFacts.{cap_same}
use Rattle.concurrent_queue.proofs.shared.queue.ConcurrentQueue.bounded_watched.Goals as goal

pub returns-in-Ok-clause-limit : goal.returns-in-Ok-clause-limit
returns-in-Ok-clause-limit g c =
    let within : c.args.capacity ≤ 2 ^ 58 = search rules in
    ap Some (cap_same c.args.capacity within)
