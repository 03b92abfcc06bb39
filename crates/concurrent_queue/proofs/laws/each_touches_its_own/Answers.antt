-- From where each party stands among all others.
use Rattle.concurrent_queue.proofs.ItsOwn.{each_touches_its_own}
use Rattle.concurrent_queue.proofs.laws.each_touches_its_own.Goals as goal

pub returns : goal.returns
returns g c = record { own = each_touches_its_own }
