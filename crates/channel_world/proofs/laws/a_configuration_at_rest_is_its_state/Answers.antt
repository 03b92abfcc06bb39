-- From what its cells show.
use Rattle.channel_world.proofs.TurnFacts.{stands_as_its_state, has_its_accounts}
use Rattle.channel_world.proofs.laws.a_configuration_at_rest_is_its_state.Goals as goal

pub returns : goal.returns
returns g c = record { state = stands_as_its_state _; accounts = has_its_accounts _ }
