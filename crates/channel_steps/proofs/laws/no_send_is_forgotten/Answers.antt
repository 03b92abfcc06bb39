-- One that takes a message tells one more send, and one that was told tries or passes it on.
use Rattle.channel_steps.proofs.every_run.Sends.{sends_stay_owed, no_send_is_forgotten}
use Rattle.channel_steps.proofs.laws.no_send_is_forgotten.Goals as goal

pub returns : goal.returns
returns g c = record { kept = sends_stay_owed _ _; owed = no_send_is_forgotten _ _ }
