-- From what each poll of settling leaves.
use Rattle.channel_world_model.proofs.Settle.{settling_ends, at_rest}
use Rattle.channel_world_model.proofs.laws.settling_ends.Goals as goal

pub returns : goal.returns
returns g c = record { ends = settling_ends; rests = at_rest }
