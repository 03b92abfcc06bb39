-- No step of a call moves anything there.
use Rattle.channel_steps.proofs.every_run.Ends.{end_is_for_good}
use Rattle.channel_steps.proofs.laws.what_is_over_stays_over.Goals as goal

pub returns : goal.returns
returns g c = record { stays = end_is_for_good _ _ }
