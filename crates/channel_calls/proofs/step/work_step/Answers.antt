use Rattle.std.proofs.Common.{refl, ap, subst}
use Rattle.channel_calls.specs.declared.reply.Reply.TheVariants as reply
use Rattle.channel_calls.specs.declared.stage.Returned.{Returned}
use Rattle.channel_calls.specs.declared.stage.NextStep.TheVariants.{Works, Ends}
use Rattle.channel_calls.specs.declared.stage.ListStep.TheVariants.{TellReceive, TellStreams, TellSend, TellSends, TakeRoom, TellAll, Insert, Register, Leave, Lower, Count, Load, Raise}
use Rattle.channel_calls.specs.declared.stage.Stage.TheVariants.{Working}
use Rattle.channel_calls.proofs.Replying as replying
use Rattle.channel_calls.specs.declared.stage.ListStep.{ListStep}
use Rattle.channel_calls.proofs.Standing as standing
use Rattle.channel_calls.proofs.step.work_step.Goals as goal

pub returns-in-TellReceive-clause-answers : goal.returns-in-TellReceive-clause-answers
returns-in-TellReceive-clause-answers g c b = replying.at_work _ b _ (TellReceive c.in-TellReceive.ending) c.in-TellReceive.is _ _ (replying.through _ b (Works (TellStreams c.in-TellReceive.ending)) (Works (TellStreams c.in-TellReceive.ending)) refl (Working (TellReceive c.in-TellReceive.ending)) _ _ (c.takes.ensures.follows b) (λ r m t. t))

pub returns-in-TellStreams-clause-answers : goal.returns-in-TellStreams-clause-answers
returns-in-TellStreams-clause-answers g c b = replying.at_work _ b _ (TellStreams c.in-TellStreams.ending) c.in-TellStreams.is _ _ (replying.through _ b _ _ c.ends_by.ensures (Working (TellStreams c.in-TellStreams.ending)) _ _ (c.takes-in-TellStreams.ensures.follows b) (λ r m t. replying.ended _ b c.in-TellStreams.ending r m t))

pub returns-in-TellSend-clause-answers : goal.returns-in-TellSend-clause-answers
returns-in-TellSend-clause-answers g c b = replying.at_work _ b _ (TellSend c.in-TellSend.ending) c.in-TellSend.is _ _ (replying.through _ b _ _ c.ends_by-in-TellSend.ensures (Working (TellSend c.in-TellSend.ending)) _ _ (c.takes-in-TellSend.ensures.follows b) (λ r m t. replying.ended _ b c.in-TellSend.ending r m t))

pub returns-in-TellSends-clause-answers : goal.returns-in-TellSends-clause-answers
returns-in-TellSends-clause-answers g c b = replying.at_work _ b _ (TellSends c.in-TellSends.count c.in-TellSends.ending) c.in-TellSends.is _ _ (replying.through _ b _ _ c.ends_by-in-TellSends.ensures (Working (TellSends c.in-TellSends.count c.in-TellSends.ending)) _ _ (c.takes-in-TellSends.ensures.follows b) (λ r m t. replying.ended _ b c.in-TellSends.ending r m t))

pub returns-in-TakeRoom-clause-answers : goal.returns-in-TakeRoom-clause-answers
returns-in-TakeRoom-clause-answers g c b = replying.at_work _ b _ (TakeRoom c.in-TakeRoom.limit) c.in-TakeRoom.is _ _ (replying.through _ b _ _ refl (Working (TakeRoom c.in-TakeRoom.limit)) _ _ (c.takes-in-TakeRoom.ensures.follows b) (λ r m t. replying.room_taken _ b c.in-TakeRoom.limit _ c.room_next.ensures r m t))

pub returns-in-TellAll-clause-answers : goal.returns-in-TellAll-clause-answers
returns-in-TellAll-clause-answers g c b = replying.at_work _ b _ (TellAll c.in-TellAll.line c.in-TellAll.closer) c.in-TellAll.is _ _ (replying.through _ b _ _ c.told_all_next.ensures (Working (TellAll c.in-TellAll.line c.in-TellAll.closer)) _ _ (c.takes-in-TellAll.ensures.follows b) (λ r m t. replying.told_all _ b c.in-TellAll.line c.in-TellAll.closer r m t))

pub returns-in-Insert-clause-answers : goal.returns-in-Insert-clause-answers
returns-in-Insert-clause-answers g c b = replying.at_work _ b _ (Insert c.in-Insert.waiting c.in-Insert.task) c.in-Insert.is _ _ (c.insert.ensures.answers b)

pub returns-in-Register-clause-answers : goal.returns-in-Register-clause-answers
returns-in-Register-clause-answers g c b = replying.at_work _ b _ (Register c.in-Register.waiting c.in-Register.key c.in-Register.task) c.in-Register.is _ _ (c.register.ensures.answers b)

pub returns-in-Lower-clause-answers : goal.returns-in-Lower-clause-answers
returns-in-Lower-clause-answers g c b = replying.at_work _ b _ (Lower c.in-Lower.side c.in-Lower.key) c.in-Lower.is _ _ (c.lower.ensures.answers b)

pub returns-in-Raise-clause-answers : goal.returns-in-Raise-clause-answers
returns-in-Raise-clause-answers g c b = replying.at_work _ b _ (Raise c.in-Raise.side c.in-Raise.from c.in-Raise.making) c.in-Raise.is _ _ (c.raise.ensures.answers b)

pub returns-in-Leave-clause-answers : goal.returns-in-Leave-clause-answers
returns-in-Leave-clause-answers g c b = replying.at_work _ b _ (Leave c.in-Leave.ending) c.in-Leave.is _ _ (c.leave.ensures.answers b)

pub returns-in-Count-clause-answers : goal.returns-in-Count-clause-answers
returns-in-Count-clause-answers g c b = replying.at_work _ b _ (Count c.in-Count.side) c.in-Count.is _ _ (replying.through _ b _ _ (ap (λ (k : Returned g.row.T.Denot). Ends (reply.Count c.count-count.result) k) c.nothing.ensures) (Working (Count c.in-Count.side)) _ _ (c.takes-in-Count.ensures.follows b) (λ r m t. replying.counted g.row.W.Denot b c.count-count.result r m t))

pub returns-in-Load-clause-answers : goal.returns-in-Load-clause-answers
returns-in-Load-clause-answers g c b = replying.at_work _ b _ (Load c.in-Load.side c.in-Load.making) c.in-Load.is _ _ (replying.through _ b _ _ c.loaded_next.ensures (Working (Load c.in-Load.side c.in-Load.making)) _ _ (c.takes-in-Load.ensures.follows b) (λ r m t. replying.loaded _ b c.in-Load.side c.in-Load.making _ r m t))

pub tell-requires : goal.tell-requires
tell-requires g c = record {
  may = standing.tell_receive_ready g.C.ChannelCells.stands g.C.ChannelCells.may g.met.C.ChannelCells.ready c.args.cells.now c.in-TellReceive.ending
      (subst (λ (w : ListStep g.row.T.Denot g.row.W.Denot). g.C.ChannelCells.stands (Working w) c.args.cells.now) c.in-TellReceive.is c.requires.stands);
}

pub tell-requires-in-TellStreams : goal.tell-requires-in-TellStreams
tell-requires-in-TellStreams g c = record {
  may = standing.tell_streams_ready g.C.ChannelCells.stands g.C.ChannelCells.may g.met.C.ChannelCells.ready c.args.cells.now c.in-TellStreams.ending
      (subst (λ (w : ListStep g.row.T.Denot g.row.W.Denot). g.C.ChannelCells.stands (Working w) c.args.cells.now) c.in-TellStreams.is c.requires.stands);
}

pub tell-requires-in-TellSend : goal.tell-requires-in-TellSend
tell-requires-in-TellSend g c = record {
  may = standing.tell_send_ready g.C.ChannelCells.stands g.C.ChannelCells.may g.met.C.ChannelCells.ready c.args.cells.now c.in-TellSend.ending
      (subst (λ (w : ListStep g.row.T.Denot g.row.W.Denot). g.C.ChannelCells.stands (Working w) c.args.cells.now) c.in-TellSend.is c.requires.stands);
}

pub tell-requires-in-TellSends : goal.tell-requires-in-TellSends
tell-requires-in-TellSends g c = record {
  may = standing.tell_sends_ready g.C.ChannelCells.stands g.C.ChannelCells.may g.met.C.ChannelCells.ready c.args.cells.now c.in-TellSends.count c.in-TellSends.ending
      (subst (λ (w : ListStep g.row.T.Denot g.row.W.Denot). g.C.ChannelCells.stands (Working w) c.args.cells.now) c.in-TellSends.is c.requires.stands);
}

pub tell-requires-in-TellAll : goal.tell-requires-in-TellAll
tell-requires-in-TellAll g c = record {
  may = standing.tell_all_ready g.C.ChannelCells.stands g.C.ChannelCells.may g.met.C.ChannelCells.ready c.args.cells.now c.in-TellAll.line c.in-TellAll.closer
      (subst (λ (w : ListStep g.row.T.Denot g.row.W.Denot). g.C.ChannelCells.stands (Working w) c.args.cells.now) c.in-TellAll.is c.requires.stands);
}

pub count-count-requires : goal.count-count-requires
count-count-requires g c = record {
  may = standing.count_ready g.C.ChannelCells.stands g.C.ChannelCells.may g.met.C.ChannelCells.ready c.args.cells.now c.in-Count.side
      (subst (λ (w : ListStep g.row.T.Denot g.row.W.Denot). g.C.ChannelCells.stands (Working w) c.args.cells.now) c.in-Count.is c.requires.stands);
}

pub count-count-requires-in-Load : goal.count-count-requires-in-Load
count-count-requires-in-Load g c = record {
  may = standing.load_ready g.C.ChannelCells.stands g.C.ChannelCells.may g.met.C.ChannelCells.ready c.args.cells.now c.in-Load.side c.in-Load.making
      (subst (λ (w : ListStep g.row.T.Denot g.row.W.Denot). g.C.ChannelCells.stands (Working w) c.args.cells.now) c.in-Load.is c.requires.stands);
}
