-- From the exact step of each machine, among the parties that a run keeps.
use Rattle.concurrent_queue.proofs.Bridge.{events_lead_to_one_place, merges_are_runs}
use Rattle.concurrent_queue.proofs.laws.merges_are_runs.Goals as goal

pub returns : goal.returns
returns g c = record { runs = merges_are_runs; one_place = events_lead_to_one_place }
