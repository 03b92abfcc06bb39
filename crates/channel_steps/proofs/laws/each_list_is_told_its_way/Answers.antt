-- One that brings or takes a message tells one more, and only who closes tells all that wait for it.
use Rattle.channel_steps.proofs.every_run.Notices.{tellings_stay_fit, tellings_always_fit}
use Rattle.channel_steps.proofs.laws.each_list_is_told_its_way.Goals as goal

pub returns : goal.returns
returns g c = record { kept = tellings_stay_fit _ _; fit = tellings_always_fit _ _ }
