use Rattle.channel_history.proofs.Registrations as registrations
use Rattle.channel_history.proofs.laws.registrations_are_live.Goals as goal

pub returns : goal.returns
returns g c = record { live = registrations.registrations_are_live _ _; rest = registrations.pending_wait_rightly _ _ }
