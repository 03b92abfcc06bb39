use Rattle.channel_history.proofs.Saying as saying
use Rattle.channel_history.proofs.laws.nobody_is_missed_at_rest.Goals as goal

pub returns : goal.returns
returns g c = record { rest = saying.nobody_is_missed_at_rest _ _ }
