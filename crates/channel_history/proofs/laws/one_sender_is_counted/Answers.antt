use Rattle.channel_history.proofs.Row as row
use Rattle.channel_history.proofs.laws.one_sender_is_counted.Goals as goal

pub returns : goal.returns
returns g c = record { counted = row.one_sender_is_counted _ _ }
