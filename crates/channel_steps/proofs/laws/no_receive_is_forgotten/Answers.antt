-- One that brings a message tells one more receive, and one that was told tries or passes it on.
use Rattle.channel_steps.proofs.every_run.Receives.{receives_stay_owed, no_receive_is_forgotten}
use Rattle.channel_steps.proofs.laws.no_receive_is_forgotten.Goals as goal

pub returns : goal.returns
returns g c = record { kept = receives_stay_owed _ _; owed = no_receive_is_forgotten _ _ }
