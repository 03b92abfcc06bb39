-- From what its cells show.
use Rattle.channel_world.proofs.Lemmas.{holds_what_fits, world_state_of}
use Rattle.channel_world.proofs.laws.a_world_holds_what_fits.Goals as goal

pub returns : goal.returns
returns g c = record { within = λ w k. holds_what_fits (world_state_of w) k }
