use Rattle.queue_history.proofs.PartyAccounts as party
use Rattle.queue_history.proofs.accounts.calls_add_up.Goals as goal

pub returns : goal.returns
returns g c = record { added = party.calls_add_up }
