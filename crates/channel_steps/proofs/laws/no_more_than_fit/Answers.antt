-- From what each mark says of the moment before it.
use Rattle.channel_steps.proofs.every_run.Bounds.{bounds_stay, never_overfull, never_full}
use Rattle.channel_steps.proofs.laws.no_more_than_fit.Goals as goal

pub returns : goal.returns
returns g c = record { kept = bounds_stay _ _; within = never_overfull _ _; never_full = never_full _ _ }
