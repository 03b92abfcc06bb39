use Rattle.queue_history.proofs.Accounted as accounted
use Rattle.queue_history.proofs.accounts.histories_are_accounted.Goals as goal

pub returns : goal.returns
returns g c = record { accounted = accounted.histories_are_accounted _ c.histories_are_runs.ensures.runs c.nothing_is_lost.ensures.in_order }
