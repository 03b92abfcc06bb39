use Rattle.std.proofs.Common.{[], ◌∷◌, sym, subst}
use Rattle.std.specs.Prelude.{◌≡◌, IfOk}
use Rattle.channel_calls.specs.Calls.{made_answer}
use Rattle.channel_history.specs.CallEnds.{Rests}
use Rattle.channel_cells.specs.Channel.{standing_of}
use Rattle.channel_cells.proofs.Calling.{begins_here, cells_reply}
use Rattle.channel_cells.proofs.Leaving.{may_end_like, has_called_like, clone_rests, may_ask_of}
use Rattle.channel_calls.specs.declared.ask.ChannelAsk.TheVariants as ask
use Rattle.channel_cells.proofs.channel.ChannelTable.clone_handle.Goals as goal

pub begin_on-cells-requires-clause-asks : goal.begin_on-cells-requires-clause-asks
begin_on-cells-requires-clause-asks g c = may_ask_of c.args.self.now (standing_of c.args.seat) (ask.CloneHandle g.K.Kind.side) tt c.requires.rests

pub clone_handle-made-requires : goal.clone_handle-made-requires
clone_handle-made-requires g c = record { stands = begins_here c.begin_on-cells.ensures.begun }

pub end-seat-requires : goal.end-seat-requires
end-seat-requires g c =
    let d = c.clone_handle-made.ensures.deeds in
    record { ended = may_end_like (λ z. c.clone_handle-made.result ≡ made_answer z.reply) (cells_reply g.S.Wakes.wakes _ _ _ d.1.0 c.begin_on-cells.ensures.begun d.1.1) d.2 }

pub returns-clause-called : goal.returns-clause-called
returns-clause-called g c =
    let d = c.clone_handle-made.ensures.deeds in
    let e = c.end-seat.ensures in
    let called = has_called_like (λ z. c.clone_handle-made.result ≡ made_answer z.reply) (cells_reply g.S.Wakes.wakes _ _ _ d.1.0 c.begin_on-cells.ensures.begun d.1.1) d.2 c.end-seat.result e.ended e.table in
    (called.0.reply, called.2, called.1)

pub returns-clause-handle : goal.returns-clause-handle
returns-clause-handle g c =
    let called = returns-clause-called g c in
    subst (λ z. IfOk z (λ made. Rests (g.K.Kind.side ∷ []) [] (standing_of c.end-seat.result))) (sym called.2) (clone_rests g.K.Kind.side called.0 called.1.2)
