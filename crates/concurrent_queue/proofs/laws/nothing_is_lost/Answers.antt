-- From the accounts of each step.
use Rattle.concurrent_queue.proofs.Accounts.{accounts}
use Rattle.concurrent_queue.proofs.laws.nothing_is_lost.Goals as goal

pub returns : goal.returns
returns g c = record { in_order = accounts }
