use Rattle.std.proofs.Common.{refl}
use Rattle.channel_calls.specs.Deeds.{Done}
use Rattle.channel_calls.specs.declared.blocked.Blocked.TheVariants.{Send, Receive}
use Rattle.channel_calls.proofs.BlockedPolls as polls
use Rattle.channel_calls.proofs.blocking.tries.Goals as goal

pub returns-in-Send-clause-comes : goal.returns-in-Send-clause-comes
returns-in-Send-clause-comes g c key task =
    let did = Done g.C.ChannelCells.did g.S.Wakes.wakes in
    let start : g.row.C.Denot × g.row.S.Denot = (c.args.cells.now, c.args.sink.now) in
    let end : g.row.C.Denot × g.row.S.Denot = (c.tries_to_send.new.cells, c.tries_to_send.new.sink) in
    let tried = c.tries_to_send.result in
    polls.tried_as did c.args.call (Send c.in-Send.message) c.in-Send.is tried tried refl start end key task (c.tries_to_send.ensures.comes key task)

pub returns-in-Send-clause-looked : goal.returns-in-Send-clause-looked
returns-in-Send-clause-looked g c =
    let did = Done g.C.ChannelCells.did g.S.Wakes.wakes in
    let start : g.row.C.Denot × g.row.S.Denot = (c.args.cells.now, c.args.sink.now) in
    let end : g.row.C.Denot × g.row.S.Denot = (c.tries_to_send.new.cells, c.tries_to_send.new.sink) in
    let tried = c.tries_to_send.result in
    polls.looked_as did c.args.call (Send c.in-Send.message) c.in-Send.is tried tried refl start end c.tries_to_send.ensures.looked

pub returns-in-Receive-clause-comes : goal.returns-in-Receive-clause-comes
returns-in-Receive-clause-comes g c key task =
    let did = Done g.C.ChannelCells.did g.S.Wakes.wakes in
    let start : g.row.C.Denot × g.row.S.Denot = (c.args.cells.now, c.args.sink.now) in
    let end : g.row.C.Denot × g.row.S.Denot = (c.tries_to_receive.new.cells, c.tries_to_receive.new.sink) in
    let tried = c.tries_to_receive.result in
    polls.tried_as did c.args.call Receive c.in-Receive.is tried tried refl start end key task (c.tries_to_receive.ensures.comes key task)

pub returns-in-Receive-clause-looked : goal.returns-in-Receive-clause-looked
returns-in-Receive-clause-looked g c =
    let did = Done g.C.ChannelCells.did g.S.Wakes.wakes in
    let start : g.row.C.Denot × g.row.S.Denot = (c.args.cells.now, c.args.sink.now) in
    let end : g.row.C.Denot × g.row.S.Denot = (c.tries_to_receive.new.cells, c.tries_to_receive.new.sink) in
    let tried = c.tries_to_receive.result in
    polls.looked_as did c.args.call Receive c.in-Receive.is tried tried refl start end c.tries_to_receive.ensures.looked
