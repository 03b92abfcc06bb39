-- From the accounts of each step.
use Rattle.channel_world.proofs.TurnFacts.{leave_in_turn, later_leaves_later, of_one_party_in_turn}
use Rattle.channel_world.proofs.laws.by_steps_messages_leave_in_turn.Goals as goal

pub returns : goal.returns
returns g c = record { in_turn = leave_in_turn _; later = later_leaves_later _; of_one_party = of_one_party_in_turn _ }
