use Rattle.std.proofs.Common.{[], refl}
use Rattle.channel_cells.specs.Channel.{standing_of}
use Rattle.channel_cells.proofs.Calling.{begins_here, cells_reply, may_end_so, has_polled}
use Rattle.channel_cells.proofs.Leaving.{may_poll_send, send_listed, rests_with}
use Rattle.channel_cells.proofs.channel.ChannelTable.poll_send.Goals as goal

pub begin_on-cells-requires-clause-asks : goal.begin_on-cells-requires-clause-asks
begin_on-cells-requires-clause-asks g c = may_poll_send c.args.self.now (standing_of c.args.seat) c.args.message c.args.key c.args.task c.requires.finished c.requires.listener

pub poll_send-polled-requires-clause-stands : goal.poll_send-polled-requires-clause-stands
poll_send-polled-requires-clause-stands g c = begins_here c.begin_on-cells.ensures.begun

pub end-seat-requires : goal.end-seat-requires
end-seat-requires g c = record { ended = may_end_so (cells_reply g.S.Wakes.wakes _ _ _ _ c.begin_on-cells.ensures.begun c.poll_send-polled.ensures.deeds) }

pub returns-clause-called : goal.returns-clause-called
returns-clause-called g c =
    let e = c.end-seat.ensures in
    has_polled (cells_reply g.S.Wakes.wakes _ _ _ _ c.begin_on-cells.ensures.begun c.poll_send-polled.ensures.deeds) c.end-seat.result e.ended e.table

pub returns-clause-listener : goal.returns-clause-listener
returns-clause-listener g c =
    let polled = c.poll_send-polled in
    rests_with [] _ (returns-clause-called g c).1 refl (send_listed polled.result.0 c.args.message polled.result.1.key polled.ensures.listed)
