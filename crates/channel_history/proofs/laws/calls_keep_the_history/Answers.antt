use Rattle.channel_history.proofs.Keeping as keeping
use Rattle.channel_history.proofs.laws.calls_keep_the_history.Goals as goal

pub returns : goal.returns
returns g c = record { begins = keeping.beginnings_keep _ _; arrives = keeping.arrivals_keep _ _; ends = keeping.endings_keep _ _ }
