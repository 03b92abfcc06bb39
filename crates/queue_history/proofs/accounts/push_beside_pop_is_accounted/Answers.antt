use Rattle.queue_history.proofs.AccountedRows as rows
use Rattle.queue_history.proofs.accounts.push_beside_pop_is_accounted.Goals as goal

pub returns : goal.returns
returns g c = record { row = rows.push_beside_pop_accounts _ c.two_calls_merge.ensures.merge c.histories_are_accounted.ensures.accounted }
