use Rattle.std.proofs.Common.{refl}
use Rattle.channel_calls.specs.Deeds.{Done}
use Rattle.channel_calls.specs.Tried.{received_by}
use Rattle.channel_calls.specs.declared.blocked.Blocked.TheVariants.{Receive}
use Rattle.channel_calls.proofs.BlockedPolls as polls
use Rattle.channel_calls.proofs.blocking.tries_to_receive.Goals as goal

pub returns-clause-comes : goal.returns-clause-comes
returns-clause-comes g c key task =
    let did = Done g.C.ChannelCells.did g.S.Wakes.wakes in
    let start : g.row.C.Denot × g.row.S.Denot = (c.args.cells.now, c.args.sink.now) in
    let end : g.row.C.Denot × g.row.S.Denot = (c.try_recv.new.cells, c.try_recv.new.sink) in
    polls.tried_as did Receive Receive refl c.received_by.result (received_by c.try_recv.result) c.received_by.ensures start end key task
    (polls.receives did key task start end c.try_recv.result c.try_recv.ensures.deeds)

pub returns-clause-looked : goal.returns-clause-looked
returns-clause-looked g c =
    let did = Done g.C.ChannelCells.did g.S.Wakes.wakes in
    let start : g.row.C.Denot × g.row.S.Denot = (c.args.cells.now, c.args.sink.now) in
    let end : g.row.C.Denot × g.row.S.Denot = (c.try_recv.new.cells, c.try_recv.new.sink) in
    polls.looked_as did Receive Receive refl c.received_by.result (received_by c.try_recv.result) c.received_by.ensures start end
    (polls.got_looked did start end c.try_recv.result c.try_recv.ensures.deeds)

pub try_recv-requires-clause-stands : goal.try_recv-requires-clause-stands
try_recv-requires-clause-stands g c = λ at begins. g.met.C.Sleeps.free.0 at _
