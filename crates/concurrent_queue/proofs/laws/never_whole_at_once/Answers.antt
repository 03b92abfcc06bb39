-- From one cell a step, and from where the messages lie.
use Rattle.concurrent_queue.proofs.Whole.{never_whole}
use Rattle.concurrent_queue.proofs.laws.never_whole_at_once.Goals as goal

pub returns : goal.returns
returns g c = record { stepwise = never_whole }
