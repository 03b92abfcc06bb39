use Rattle.std.proofs.Common.{None}
use Rattle.channel_calls.specs.declared.stage.Stage.TheVariants.{Trying, Working, Finished}
use Rattle.channel_calls.specs.Replies.{FollowsStage}
use Rattle.channel_calls.proofs.Replying as replying
use Rattle.channel_calls.proofs.step.stage_step.Goals as goal

pub returns-in-Trying-clause-answers : goal.returns-in-Trying-clause-answers
returns-in-Trying-clause-answers g c f has = replying.at_stage _ f _ (Trying c.in-Trying.call c.in-Trying.purpose) c.in-Trying.is _ _ (c.try_step.ensures.answers f has)

pub returns-in-Working-clause-answers : goal.returns-in-Working-clause-answers
returns-in-Working-clause-answers g c f has = replying.at_stage _ f _ (Working c.in-Working.work) c.in-Working.is _ _ (c.work_step.ensures.answers f)

pub returns-in-Finished-clause-answers : goal.returns-in-Finished-clause-answers
returns-in-Finished-clause-answers g c f has =
    let kept = c.in-Finished.kept in
    let h : FollowsStage {W = g.row.W.Denot} f (Finished kept) (Finished kept) None = λ r m w. w in
    replying.at_stage _ f _ (Finished kept) c.in-Finished.is _ _ (replying.at_next _ f (Finished kept) _ _ _ _ c.goes_on.ensures.stage c.goes_on.ensures.reply h)
