use Rattle.std.proofs.Common.{[], refl}
use Rattle.std.specs.Prelude.{None}
use Rattle.channel_calls.specs.declared.ask.ChannelAsk.TheVariants as ask
use Rattle.channel_calls.specs.declared.reply.Reply.TheVariants as reply
use Rattle.channel_calls.specs.declared.stage.Side.TheVariants.{Senders}
use Rattle.channel_cells.specs.Channel.{standing_of}
use Rattle.channel_cells.proofs.Calling.{begins_here, cells_may_end, cells_called}
use Rattle.channel_cells.proofs.Dropping.{drop_walks}
use Rattle.channel_cells.proofs.Leaving.{may_ask_of, left_none, rests_with}
use Rattle.channel_cells.proofs.channel.ChannelTable.drop_sender.Goals as goal

pub begin_on-cells-requires-clause-asks : goal.begin_on-cells-requires-clause-asks
begin_on-cells-requires-clause-asks g c = may_ask_of c.args.self.now (standing_of c.args.seat) ask.DropSender tt c.requires.handle

pub drop_sender-requires : goal.drop_sender-requires
drop_sender-requires g c = record { stands = begins_here c.begin_on-cells.ensures.begun }

pub end-requires : goal.end-requires
end-requires g c =
    let d = drop_walks g.S.Wakes.wakes Senders None _ _ c.drop_sender.ensures.deeds in
    record { ended = cells_may_end g.S.Wakes.wakes _ _ reply.Unit c.begin_on-cells.ensures.begun d }

pub returns-clause-called : goal.returns-clause-called
returns-clause-called g c =
    let d = drop_walks g.S.Wakes.wakes Senders None _ _ c.drop_sender.ensures.deeds in
    let e = c.end.ensures in
    cells_called g.S.Wakes.wakes _ _ reply.Unit c.begin_on-cells.ensures.begun d c.end.result e.ended e.table

pub returns-clause-nothing : goal.returns-clause-nothing
returns-clause-nothing g c =
    let called = returns-clause-called g c in
    rests_with [] [] called.2 refl (left_none {T = g.row.T.Denot} reply.Unit (λ k. refl) called.0.key)
