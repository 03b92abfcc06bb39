use Rattle.std.proofs.Common.{inl, refl, sym, subst}
use Rattle.channel_calls.specs.Blocks.{Asked, Slept, Blocks}
use Rattle.channel_calls.specs.Deeds.{Done}
use Rattle.channel_calls.specs.Turns.{nothing_kept}
use Rattle.channel_calls.specs.declared.blocked.Blocked.{Blocked}
use Rattle.channel_calls.specs.declared.blocked.Blocked.TheVariants.{Receive}
use Rattle.channel_calls.specs.declared.reply.Reply.{Reply}
use Rattle.channel_calls.specs.declared.stage.Returned.{Returned}
use Rattle.channel_calls.proofs.BlockedPolls as polls
use Rattle.channel_calls.proofs.blocking.recv_blocking.Goals as goal

pub returns-in-Ok-clause-deeds : goal.returns-in-Ok-clause-deeds
returns-in-Ok-clause-deeds g c =
    let did = Done g.C.ChannelCells.did g.S.Wakes.wakes in
    let asked = Asked {S = g.row.S.Denot} g.C.Sleeps.parked in
    let slept = Slept {S = g.row.S.Denot} g.C.Sleeps.slept in
    let start : g.row.C.Denot × g.row.S.Denot = (c.args.cells.now, c.args.sink.now) in
    let end : g.row.C.Denot × g.row.S.Denot = (c.tries_to_receive.new.cells, c.tries_to_receive.new.sink) in
    let given = c.in-Ok.given in
    subst (λ (r : Reply g.row.T.Denot). Blocks did asked slept Receive start r nothing_kept end) (sym c.taken.ensures.reply)
    (subst (λ (k : Returned g.row.T.Denot). Blocks did asked slept Receive start given.reply k end) c.taken.ensures.left
    (0, start, refl, inl (polls.begun_over did Receive start given end c.in-Ok.ensures.over c.in-Ok.ensures.comes)))

pub returns-in-Err-clause-deeds : goal.returns-in-Err-clause-deeds
returns-in-Err-clause-deeds g c =
    let did = Done g.C.ChannelCells.did g.S.Wakes.wakes in
    let asked = Asked {S = g.row.S.Denot} g.C.Sleeps.parked in
    let slept = Slept {S = g.row.S.Denot} g.C.Sleeps.slept in
    let start : g.row.C.Denot × g.row.S.Denot = (c.args.cells.now, c.args.sink.now) in
    let tried : g.row.C.Denot × g.row.S.Denot = (c.tries_to_receive.new.cells, c.tries_to_receive.new.sink) in
    let end : g.row.C.Denot × g.row.S.Denot = (c.blocks-in-Err.new.cells, c.blocks-in-Err.new.sink) in
    let given = c.blocks-in-Err.result in
    let on = subst (λ (b : Blocked g.row.T.Denot). Blocks did asked slept b tried given.reply given.kept end) c.in-Err.ensures.same c.blocks-in-Err.ensures.deeds in
    subst (λ (r : Reply g.row.T.Denot). Blocks did asked slept Receive start r nothing_kept end) (sym c.taken-in-Err.ensures.reply)
    (subst (λ (k : Returned g.row.T.Denot). Blocks did asked slept Receive start given.reply k end) c.taken-in-Err.ensures.left
    (polls.blocks_on did Receive start tried c.in-Err.ensures.looked asked slept given.reply given.kept end on))
