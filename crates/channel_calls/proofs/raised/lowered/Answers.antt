use Rattle.std.proofs.Common.{◌≡◌, refl, sym, subst, ne_eqb, Option, Some, None}
use Rattle.event_listener.specs.declared.key.Key.{Key}
use Rattle.channel_calls.proofs.BlockedPolls.{no_key}
use Rattle.channel_calls.proofs.Counting.{lowers, lowers_on, drops}
use Rattle.channel_calls.specs.Deeds.{Done}
use Rattle.channel_calls.specs.Turns.{nothing_kept, lowered_next}
use Rattle.channel_calls.specs.Walks.{Takes}
use Rattle.channel_calls.specs.declared.reply.Reply.TheVariants.{Unit}
use Rattle.channel_calls.specs.declared.stage.Stage.TheVariants.{Finished}
use Rattle.channel_calls.specs.declared.stage.NextStep.{NextStep}
use Rattle.channel_calls.specs.declared.stage.ListStep.TheVariants.{Lower}
use Rattle.channel_calls.specs.declared.stage.Stage.TheVariants.{Working}
use Rattle.channel_calls.proofs.Standing as standing
use Rattle.channel_calls.proofs.raised.lowered.Goals as goal

pub returns-then-is_none : goal.returns-then-is_none
returns-then-is_none g c =
    let did = Done g.C.ChannelCells.did g.S.Wakes.wakes in
    let s : g.row.C.Denot × g.row.S.Denot = (c.args.cells.now, c.args.sink.now) in
    let t : g.row.C.Denot × g.row.S.Denot = (c.lower-before.new.self, c.args.sink.now) in
    let n = c.lower-before.result in
    let none : c.args.stream_key ≡ None = no_key c.args.stream_key c.if-is_none.ensures in
    let takes = subst (λ (key : Option Key). Takes {T = g.row.T.Denot} {W = g.row.W.Denot} (lowered_next c.args.side key n) (Finished nothing_kept) (Some Unit)) (sym none)
    (drops g.row.T.Denot g.row.W.Denot c.args.side n (ne_eqb n 1 c.if-before-ne1.true))
    in
    record { deeds = (Unit, lowers did c.args.side n c.args.stream_key s t (c.lower-before.ensures.deed, refl) Unit (Finished nothing_kept) takes) }

pub returns-in-Ok : goal.returns-in-Ok
returns-in-Ok g c =
    let did = Done g.C.ChannelCells.did g.S.Wakes.wakes in
    let s : g.row.C.Denot × g.row.S.Denot = (c.args.cells.now, c.args.sink.now) in
    let t : g.row.C.Denot × g.row.S.Denot = (c.lower-before.new.self, c.args.sink.now) in
    let goes = c.in-Ok.ensures.goes in
    let takes = subst (λ (z : NextStep g.row.T.Denot g.row.W.Denot). Takes z goes.0 (Some c.in-Ok.reply)) c.lowered_next.ensures goes.1 in
    record { deeds = (c.in-Ok.reply, lowers did c.args.side c.lower-before.result c.args.stream_key s t (c.lower-before.ensures.deed, refl) c.in-Ok.reply goes.0 takes) }

pub returns-in-Err : goal.returns-in-Err
returns-in-Err g c =
    let did = Done g.C.ChannelCells.did g.S.Wakes.wakes in
    let s : g.row.C.Denot × g.row.S.Denot = (c.args.cells.now, c.args.sink.now) in
    let t : g.row.C.Denot × g.row.S.Denot = (c.lower-before.new.self, c.args.sink.now) in
    let takes = subst (λ (z : NextStep g.row.T.Denot g.row.W.Denot). Takes z c.in-Err.call.stage None) c.lowered_next.ensures c.in-Err.ensures.goes.0 in
    record {
      deeds = (
        c.complete.result.reply,
        lowers_on did c.args.side c.lower-before.result c.args.stream_key s t (c.lower-before.ensures.deed, refl) c.in-Err.call.stage takes c.complete.result.reply c.complete.result.kept (c.complete.new.cells, c.complete.new.sink) c.complete.ensures.deeds,
      );
    }

pub lower-before-requires : goal.lower-before-requires
lower-before-requires g c = record { may = standing.lower_ready g.C.ChannelCells.stands g.C.ChannelCells.may g.met.C.ChannelCells.ready c.args.cells.now c.args.side c.args.stream_key (c.requires.stands (Working (Lower c.args.side c.args.stream_key)) (refl, refl)) }

pub complete-requires : goal.complete-requires
complete-requires g c = record {
  stands = standing.lowers_on g.C.ChannelCells.stands g.C.ChannelCells.did g.met.C.ChannelCells.leads g.met.C.ChannelCells.rests c.args.cells.now c.lower-before.new.self c.args.side c.args.stream_key c.lower-before.result
      (c.requires.stands (Working (Lower c.args.side c.args.stream_key)) (refl, refl)) c.lower-before.ensures.deed _ c.lowered_next.ensures c.in-Err.call.stage c.in-Err.ensures.goes.0;
}
