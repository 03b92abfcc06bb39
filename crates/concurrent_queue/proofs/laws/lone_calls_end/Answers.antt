-- From the silent steps that each call has left.
use Rattle.concurrent_queue.proofs.Lone.{lone_calls_end}
use Rattle.concurrent_queue.proofs.laws.lone_calls_end.Goals as goal

pub returns : goal.returns
returns g c = record { ends = lone_calls_end }
