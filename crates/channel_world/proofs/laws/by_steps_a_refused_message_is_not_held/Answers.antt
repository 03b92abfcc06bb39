-- From the row of each reply.
use Rattle.channel_world.proofs.TurnFacts.{refused_is_kept_out}
use Rattle.channel_world.proofs.laws.by_steps_a_refused_message_is_not_held.Goals as goal

pub returns : goal.returns
returns g c = record { kept_out = refused_is_kept_out _ }
