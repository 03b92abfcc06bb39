use Rattle.channel_calls.specs.declared.stage.Stage.TheVariants.{Working}
use Rattle.channel_calls.specs.declared.stage.ListStep.TheVariants.{Insert}
use Rattle.channel_calls.proofs.Replying as replying
use Rattle.std.proofs.Common.{Result, sym, subst}
use Rattle.event_listener.specs.declared.error.ListenError.{ListenError}
use Rattle.event_listener.specs.declared.key.Key.{Key}
use Rattle.channel_calls.specs.Deeds.{inserted}
use Rattle.channel_calls.specs.declared.stage.WaitList.{WaitList}
use Rattle.channel_calls.proofs.Standing as standing
use Rattle.channel_calls.proofs.step.insert.Goals as goal

pub returns-in-Ok-clause-answers : goal.returns-in-Ok-clause-answers
returns-in-Ok-clause-answers g c b = replying.through _ b _ _ c.again.ensures (Working (Insert c.args.waiting c.args.task)) _ _ (c.takes.ensures.follows b) (λ r m t. replying.retried _ b c.args.waiting _ c.args.task r m t)

pub returns-in-Err-clause-answers : goal.returns-in-Err-clause-answers
returns-in-Err-clause-answers g c b = replying.through _ b _ _ c.unlistened.ensures (Working (Insert c.args.waiting c.args.task)) _ _ (c.takes-in-Err.ensures.follows b) (λ r m t. replying.unheard g.row.W.Denot b c.args.waiting c.in-Err.error r m t)

pub insert-requires : goal.insert-requires
insert-requires g c = record {
  may = subst (λ (line : WaitList). (o : Result Key ListenError) → g.C.ChannelCells.may (inserted line o) c.args.cells.now) (sym c.line.ensures)
      (standing.insert_ready g.C.ChannelCells.stands g.C.ChannelCells.may g.met.C.ChannelCells.ready c.args.cells.now c.args.waiting c.args.task c.requires.stands);
}
