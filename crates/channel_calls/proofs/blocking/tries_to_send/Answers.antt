use Rattle.std.proofs.Common.{refl}
use Rattle.concurrent_queue.specs.Replies.{is_bounded}
use Rattle.channel_calls.specs.Deeds.{Done}
use Rattle.channel_calls.specs.Tried.{sent_by}
use Rattle.channel_calls.specs.declared.blocked.Blocked.TheVariants.{Send}
use Rattle.channel_calls.proofs.BlockedPolls as polls
use Rattle.channel_calls.proofs.blocking.tries_to_send.Goals as goal

pub returns-clause-comes : goal.returns-clause-comes
returns-clause-comes g c key task =
    let did = Done g.C.ChannelCells.did g.S.Wakes.wakes in
    let call = Send c.args.message in
    let start : g.row.C.Denot × g.row.S.Denot = (c.args.cells.now, c.args.sink.now) in
    let end : g.row.C.Denot × g.row.S.Denot = (c.try_send.new.cells, c.try_send.new.sink) in
    polls.tried_as did call call refl c.sent_by.result (sent_by c.try_send.result) c.sent_by.ensures start end key task
    (polls.sends did key task c.args.message start end c.try_send.result c.try_send.ensures.deeds)

pub returns-clause-looked : goal.returns-clause-looked
returns-clause-looked g c =
    let did = Done g.C.ChannelCells.did g.S.Wakes.wakes in
    let call = Send c.args.message in
    let start : g.row.C.Denot × g.row.S.Denot = (c.args.cells.now, c.args.sink.now) in
    let end : g.row.C.Denot × g.row.S.Denot = (c.try_send.new.cells, c.try_send.new.sink) in
    polls.looked_as did call call refl c.sent_by.result (sent_by c.try_send.result) c.sent_by.ensures start end
    (polls.sent_looked did c.args.message (is_bounded c.requires.form.0) start end c.try_send.result (c.try_send.ensures.refused c.requires.form.0 c.requires.form.1) c.try_send.ensures.deeds)

pub try_send-requires-clause-stands : goal.try_send-requires-clause-stands
try_send-requires-clause-stands g c = λ at begins. g.met.C.Sleeps.free.0 at _
