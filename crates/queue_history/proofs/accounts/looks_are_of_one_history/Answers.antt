use Rattle.queue_history.proofs.Told as told
use Rattle.queue_history.proofs.accounts.looks_are_of_one_history.Goals as goal

pub returns : goal.returns
returns g c = record { told = told.looks_are_of_one_history _ }
