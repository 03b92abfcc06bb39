use Rattle.std.proofs.Common.{IfErr, refl, subst}
use Rattle.concurrent_queue.specs.Replies.{is_bounded}
use Rattle.concurrent_queue.specs.declared.cells.QueueForm.{QueueForm}
use Rattle.channel_calls.specs.Replies.{RefusesForceSend}
use Rattle.channel_cells.proofs.Calling.{begins_here, cells_may_end, cells_called}
use Rattle.channel_calls.specs.declared.ask.ChannelAsk.TheVariants as ask
use Rattle.channel_cells.specs.Channel.{standing_of}
use Rattle.channel_cells.proofs.Leaving.{may_ask_of, called_rests}
use Rattle.channel_cells.proofs.channel.ChannelTable.force_send.Goals as goal

pub begin_on-cells-requires-clause-asks : goal.begin_on-cells-requires-clause-asks
begin_on-cells-requires-clause-asks g c = may_ask_of c.args.self.now (standing_of c.args.seat) (ask.ForceSend c.args.message) tt c.requires.rests

pub force_send-sent-requires : goal.force_send-sent-requires
force_send-sent-requires g c = record { form = (_, refl); stands = begins_here c.begin_on-cells.ensures.begun }

pub end-seat-requires : goal.end-seat-requires
end-seat-requires g c = record { ended = cells_may_end g.S.Wakes.wakes _ _ _ c.begin_on-cells.ensures.begun c.force_send-sent.ensures.deeds }

pub returns : goal.returns
returns g c =
    let e = c.end-seat.ensures in
    let b = c.begin_on-cells.ensures.begun in
    record {
      called = cells_called g.S.Wakes.wakes _ _ _ b c.force_send-sent.ensures.deeds c.end-seat.result e.ended e.table;
      rests = called_rests c.end-seat.result (cells_called g.S.Wakes.wakes _ _ _ b c.force_send-sent.ensures.deeds c.end-seat.result e.ended e.table) refl (λ k. refl);
      refused = subst (λ (f : QueueForm). IfErr c.force_send-sent.result (λ e. RefusesForceSend (is_bounded f) c.args.message e)) b.form (c.force_send-sent.ensures.refused _ refl);
    }
