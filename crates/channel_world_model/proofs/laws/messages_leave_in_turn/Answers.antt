-- From the accounts of runs.
use Rattle.channel_world_model.proofs.LeavingLaws.{in_turn}
use Rattle.channel_world_model.proofs.laws.messages_leave_in_turn.Goals as goal

pub returns : goal.returns
returns g c = record { in_turn = in_turn }
