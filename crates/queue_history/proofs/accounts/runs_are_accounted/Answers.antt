use Rattle.queue_history.proofs.Accounted as accounted
use Rattle.queue_history.proofs.accounts.runs_are_accounted.Goals as goal

pub returns : goal.returns
returns g c = record { accounted = accounted.runs_are_accounted _ c.nothing_is_lost.ensures.in_order }
