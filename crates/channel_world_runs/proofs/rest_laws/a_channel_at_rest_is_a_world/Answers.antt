-- From who holds which listener, and from what is owed to those who wait.
use Rattle.channel_world_runs.proofs.rest.World.{rest_is_a_world}
use Rattle.channel_world_runs.proofs.rest_laws.a_channel_at_rest_is_a_world.Goals as goal

pub returns : goal.returns
returns g c = record { as_in_the_world = rest_is_a_world _ }
