-- From each step of a walk, and from each event, with these tasks.
use Rattle.channel_calls.specs.Deeds.{Done}
use Rattle.channel_steps.proofs.every_run.TaskMerges.{merges_have_any_tasks}
use Rattle.channel_steps.proofs.every_run.TaskWalks.{walks_have_any_tasks}
use Rattle.channel_steps.proofs.laws.tasks_may_be_others.Goals as goal

pub returns : goal.returns
returns g c =
    record {
      walks = λ put. walks_have_any_tasks put (Done g.C.ChannelCells.did g.S.Wakes.wakes);
      merges = λ put. merges_have_any_tasks put _ _ g.S.Wakes.wakes;
    }
