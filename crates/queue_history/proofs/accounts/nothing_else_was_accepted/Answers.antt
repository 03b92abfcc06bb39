use Rattle.queue_history.proofs.NothingElse as nothing
use Rattle.queue_history.proofs.accounts.nothing_else_was_accepted.Goals as goal

pub returns : goal.returns
returns g c = record { nothing_else = nothing.nothing_else _ }
