use Rattle.std.proofs.Common.{refl, None}
use Rattle.channel_calls.specs.declared.stage.Stage.TheVariants.{Working}
use Rattle.channel_calls.specs.declared.stage.ListStep.TheVariants.{Leave}
use Rattle.channel_calls.specs.declared.stage.NextStep.TheVariants.{Ends}
use Rattle.channel_calls.specs.Turns.{leaving}
use Rattle.channel_calls.proofs.Replying as replying
use Rattle.channel_calls.proofs.Standing as standing
use Rattle.channel_calls.proofs.step.leave.Goals as goal

pub returns-in-None-clause-answers : goal.returns-in-None-clause-answers
returns-in-None-clause-answers g c b = replying.through _ b (Ends c.args.ending.reply (leaving None c.args.ending.message)) (Ends c.args.ending.reply (leaving None c.args.ending.message)) refl (Working (Leave c.args.ending)) _ _ (c.answers.ensures.follows b) (λ r m t. t)

pub returns-in-Some-clause-answers : goal.returns-in-Some-clause-answers
returns-in-Some-clause-answers g c b = replying.through _ b (Ends c.args.ending.reply (leaving None c.args.ending.message)) (Ends c.args.ending.reply (leaving None c.args.ending.message)) refl (Working (Leave c.args.ending)) _ _ (c.answers-in-Some.ensures.follows b) (λ r m t. t)

pub remove-requires : goal.remove-requires
remove-requires g c = record { may = standing.leave_ready g.C.ChannelCells.stands g.C.ChannelCells.may g.met.C.ChannelCells.ready c.args.cells.now c.args.ending c.in-Some.held c.in-Some.is c.requires.stands }
