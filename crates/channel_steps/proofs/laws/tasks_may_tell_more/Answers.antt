-- By going through the events, with the tasks that the calls are given.
use Rattle.channel_steps.proofs.every_run.TaskBehind.{tasks_may_tell_more}
use Rattle.channel_steps.proofs.laws.tasks_may_tell_more.Goals as goal

pub returns : goal.returns
returns g c = record { behind = λ put. tasks_may_tell_more put _ _ g.S.Wakes.wakes }
