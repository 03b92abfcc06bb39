-- From each step of the walk, noted.
use Rattle.concurrent_queue.proofs.Bridge.{walks_act}
use Rattle.concurrent_queue.proofs.laws.seen_walks_act.Goals as goal

pub returns : goal.returns
returns g c = record { acts = walks_act g.S.Trace.did }
