use Rattle.queue_history.proofs.Told as told
use Rattle.queue_history.proofs.accounts.three_are_told.Goals as goal

pub returns : goal.returns
returns g c = record { told = told.three_are_told _ c.three_parties_conclude.ensures.concluded }
