use Rattle.std.proofs.Common.{true, false}
use Rattle.channel_calls.specs.declared.stage.Stage.TheVariants.{Working}
use Rattle.channel_calls.specs.declared.stage.ListStep.TheVariants.{Raise}
use Rattle.channel_calls.proofs.Replying as replying
use Rattle.channel_calls.proofs.Standing as standing
use Rattle.channel_calls.proofs.step.raise.Goals as goal

pub returns-then-raise-clause-answers : goal.returns-then-raise-clause-answers
returns-then-raise-clause-answers g c b = replying.through _ b _ _ c.raised_next.ensures (Working (Raise c.args.side c.args.from c.args.making)) _ _ (c.takes.ensures.follows b) (λ r m t. replying.raised g.row.W.Denot b c.args.side c.args.making true r m t)

pub returns-else-raise-clause-answers : goal.returns-else-raise-clause-answers
returns-else-raise-clause-answers g c b =
    replying.through _ b _ _ c.raised_next-else-raise.ensures (Working (Raise c.args.side c.args.from c.args.making)) _ _ (c.takes-else-raise.ensures.follows b) (λ r m t. replying.raised g.row.W.Denot b c.args.side c.args.making false r m t)

pub raise-requires : goal.raise-requires
raise-requires g c = record { may = standing.raise_ready g.C.ChannelCells.stands g.C.ChannelCells.may g.met.C.ChannelCells.ready c.args.cells.now c.args.side c.args.from c.args.making c.requires.stands }
