-- From the closes that may still answer true.
use Rattle.concurrent_queue.proofs.Bounds.{closes_once}
use Rattle.concurrent_queue.proofs.laws.closes_once.Goals as goal

pub returns : goal.returns
returns g c = record { once = closes_once }
