-- By going through the events.
use Rattle.channel_steps.proofs.every_run.NamedRow.{one_task_has_two_names, two_waits_merge}
use Rattle.channel_steps.proofs.laws.one_task_has_two_names.Goals as goal

pub returns : goal.returns
returns g c = record { merge = two_waits_merge _ _ _ g.S.Wakes.wakes; named = one_task_has_two_names _ _ _ _ g.S.Wakes.wakes }
