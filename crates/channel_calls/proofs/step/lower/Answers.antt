use Rattle.channel_calls.specs.declared.stage.ListStep.TheVariants.{Lower}
use Rattle.channel_calls.specs.declared.stage.Stage.TheVariants.{Working}
use Rattle.channel_calls.proofs.Replying as replying
use Rattle.channel_calls.proofs.Standing as standing
use Rattle.channel_calls.proofs.step.lower.Goals as goal

pub returns-clause-answers : goal.returns-clause-answers
returns-clause-answers g c b = replying.through _ b _ _ c.lowered_next.ensures (Working (Lower c.args.side c.args.key)) _ _ (c.takes.ensures.follows b) (λ r m t. tt)

pub lower-before-requires : goal.lower-before-requires
lower-before-requires g c = record { may = standing.lower_ready g.C.ChannelCells.stands g.C.ChannelCells.may g.met.C.ChannelCells.ready c.args.cells.now c.args.side c.args.key c.requires.stands }
