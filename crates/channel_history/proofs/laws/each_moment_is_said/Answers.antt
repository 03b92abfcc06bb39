use Rattle.channel_history.proofs.Saying as saying
use Rattle.channel_history.proofs.laws.each_moment_is_said.Goals as goal

pub returns : goal.returns
returns g c = record { said = saying.each_moment_is_said _ _ }
