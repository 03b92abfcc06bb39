use Rattle.channel_calls.specs.declared.stage.Stage.TheVariants.{Working}
use Rattle.channel_calls.specs.declared.stage.ListStep.TheVariants.{Register}
use Rattle.channel_calls.proofs.Replying as replying
use Rattle.std.proofs.Common.{Option, sym, subst}
use Rattle.channel_calls.specs.Deeds.{registered}
use Rattle.channel_calls.specs.declared.stage.WaitList.{WaitList}
use Rattle.channel_calls.proofs.Standing as standing
use Rattle.channel_calls.proofs.step.register.Goals as goal

pub returns-in-Some-clause-answers : goal.returns-in-Some-clause-answers
returns-in-Some-clause-answers g c b = replying.through _ b _ _ c.again.ensures (Working (Register c.args.waiting c.args.key c.args.task)) _ _ (c.takes.ensures.follows b) (λ r m t. replying.retried _ b c.args.waiting _ _ r m t)

pub returns-in-None-clause-answers : goal.returns-in-None-clause-answers
returns-in-None-clause-answers g c b = replying.through _ b _ _ c.pends_by.ensures (Working (Register c.args.waiting c.args.key c.args.task)) _ _ (c.takes-in-None.ensures.follows b) (λ r m t. replying.pending g.row.W.Denot b c.args.waiting c.args.key r m t)

pub register-requires : goal.register-requires
register-requires g c = record {
  may = subst (λ (line : WaitList). (o : Option g.row.W.Denot) → g.C.ChannelCells.may (registered line c.args.key c.args.task o) c.args.cells.now) (sym c.line.ensures)
      (standing.register_ready g.C.ChannelCells.stands g.C.ChannelCells.may g.met.C.ChannelCells.ready c.args.cells.now c.args.waiting c.args.key c.args.task c.requires.stands);
}
