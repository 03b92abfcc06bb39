-- From what each mark says of the moment before it.
use Rattle.concurrent_queue.proofs.Bounds.{never_overfull}
use Rattle.concurrent_queue.proofs.laws.never_overfull.Goals as goal

pub returns : goal.returns
returns g c = record { within = never_overfull }
