-- No step of a call opens it, and only a message on its way comes in.
use Rattle.channel_steps.proofs.every_run.Closed.{closing_is_for_good}
use Rattle.channel_steps.proofs.laws.a_closed_channel_stays_closed.Goals as goal

pub returns : goal.returns
returns g c = record { closed = closing_is_for_good _ _ }
