use Rattle.std.proofs.Common.{[], refl}
use Rattle.channel_calls.specs.declared.ask.ChannelAsk.TheVariants as ask
use Rattle.channel_calls.specs.declared.reply.Reply.TheVariants as reply
use Rattle.channel_cells.specs.Channel.{standing_of}
use Rattle.channel_cells.proofs.Calling.{begins_here, cells_may_end, cells_called}
use Rattle.channel_cells.proofs.Leaving.{may_ask_of, left_none, rests_with}
use Rattle.channel_cells.proofs.channel.ChannelTable.give_up.Goals as goal

pub begin_on-cells-requires-clause-asks : goal.begin_on-cells-requires-clause-asks
begin_on-cells-requires-clause-asks g c = may_ask_of c.args.self.now (standing_of c.args.seat) (ask.GiveUp c.args.line c.args.message c.args.key) tt c.requires.listener

pub give_up-back-requires-clause-stands : goal.give_up-back-requires-clause-stands
give_up-back-requires-clause-stands g c = begins_here c.begin_on-cells.ensures.begun

pub end-seat-requires : goal.end-seat-requires
end-seat-requires g c = record { ended = cells_may_end g.S.Wakes.wakes _ _ _ c.begin_on-cells.ensures.begun c.give_up-back.ensures.deeds }

pub returns-clause-called : goal.returns-clause-called
returns-clause-called g c =
    let e = c.end-seat.ensures in
    cells_called g.S.Wakes.wakes _ _ _ c.begin_on-cells.ensures.begun c.give_up-back.ensures.deeds c.end-seat.result e.ended e.table

pub returns-clause-listener : goal.returns-clause-listener
returns-clause-listener g c =
    let called = returns-clause-called g c in
    rests_with [] [] called.2 refl (left_none (reply.GivenUp c.give_up-back.result) (λ k. refl) called.0.key)
