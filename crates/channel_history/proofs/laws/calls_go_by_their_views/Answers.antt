use Rattle.channel_history.proofs.WholeCalls as whole_calls
use Rattle.channel_history.proofs.laws.calls_go_by_their_views.Goals as goal

pub returns : goal.returns
returns g c = record { calls = whole_calls.calls_go_by_their_views _ _ _ }
