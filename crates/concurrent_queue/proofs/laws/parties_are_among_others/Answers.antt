-- From where each party stands at the end of a merge.
use Rattle.concurrent_queue.proofs.Among.{parties_are_among_others}
use Rattle.concurrent_queue.proofs.laws.parties_are_among_others.Goals as goal

pub returns : goal.returns
returns g c = record { among = parties_are_among_others }
