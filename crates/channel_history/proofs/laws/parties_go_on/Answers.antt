use Rattle.channel_history.proofs.Steps as steps
use Rattle.channel_history.proofs.laws.parties_go_on.Goals as goal

pub returns : goal.returns
returns g c = record { goes_on = steps.parties_go_on _ _ }
