use Rattle.channel_history.proofs.Accounts as accounts
use Rattle.channel_history.proofs.laws.histories_are_accounted.Goals as goal

pub returns : goal.returns
returns g c = record { accounted = accounts.histories_are_accounted _ _ }
