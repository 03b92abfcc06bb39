use Rattle.channel_history.proofs.Row as row
use Rattle.channel_history.proofs.laws.a_sender_is_cloned_and_dropped.Goals as goal

pub returns : goal.returns
returns g c = record { cloned = row.a_sender_is_cloned_and_dropped _ _ }
