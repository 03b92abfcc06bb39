-- From the calls, one by one.
use Rattle.channel_world_runs.proofs.refinement.Calls.{calls_over}
use Rattle.channel_world_runs.proofs.refinement_laws.calls_are_over.Goals as goal

pub returns : goal.returns
returns g c = record { as_in_the_world = calls_over _ }
