use Rattle.channel_calls.specs.declared.stage.Stage.TheVariants.{Trying}
use Rattle.channel_calls.proofs.Replying as replying
use Rattle.channel_calls.proofs.Standing as standing
use Rattle.channel_calls.proofs.step.try_step.Goals as goal

pub returns-in-None-clause-answers : goal.returns-in-None-clause-answers
returns-in-None-clause-answers g c f has = replying.at_next _ f (Trying c.args.call c.args.purpose) _ _ _ _ c.goes_on.ensures.stage c.goes_on.ensures.reply (replying.goes_on f c.args.call c.step_queue-answer.new.call c.args.purpose _ c.in-None.is (c.step_queue-answer.ensures.answers f has))

pub returns-in-Some-clause-answers : goal.returns-in-Some-clause-answers
returns-in-Some-clause-answers g c f has =
    replying.answers f c.args.call c.step_queue-answer.new.call c.args.purpose _ c.in-Some.answer c.in-Some.is (c.step_queue-answer.ensures.answers f has) _ c.answered_next.ensures _ _ (c.takes.ensures.follows f)

pub step_queue-answer-requires : goal.step_queue-answer-requires
step_queue-answer-requires g c = record { may = standing.step_ready g.C.ChannelCells.stands g.C.ChannelCells.may g.met.C.ChannelCells.ready c.args.cells.now c.args.call c.args.purpose c.requires.stands }
