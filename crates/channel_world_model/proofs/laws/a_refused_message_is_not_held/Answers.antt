-- From what each call answers.
use Rattle.channel_world_model.proofs.LeavingLaws.{kept_out}
use Rattle.channel_world_model.proofs.laws.a_refused_message_is_not_held.Goals as goal

pub returns : goal.returns
returns g c = record { not_held = kept_out }
