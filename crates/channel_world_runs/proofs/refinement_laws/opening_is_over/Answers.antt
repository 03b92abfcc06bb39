-- Nobody waits and nobody listens, so there is little to show.
use Rattle.channel_world_runs.proofs.refinement.Opening.{opening_over}
use Rattle.channel_world_runs.proofs.refinement_laws.opening_is_over.Goals as goal

pub returns : goal.returns
returns g c = record { as_in_the_world = opening_over _ }
