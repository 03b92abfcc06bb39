use Rattle.std.proofs.Common.{Some, suc, inl, inr, refl, ◌∙◌, subst}
use Rattle.channel_calls.specs.Asks.{first}
use Rattle.channel_calls.specs.Blocks.{waiting_of, poll_woken, still_waits}
use Rattle.channel_calls.specs.Deeds.{Done}
use Rattle.channel_calls.specs.Turns.{line_of, message_of}
use Rattle.channel_calls.specs.Walks.{WalkedFrom}
use Rattle.channel_calls.specs.declared.ask.ChannelAsk.{ChannelAsk}
use Rattle.channel_calls.specs.declared.ask.ChannelAsk.TheVariants.{RefusePoll}
use Rattle.channel_calls.specs.declared.blocked.Blocked.{Blocked}
use Rattle.channel_calls.proofs.blocking.sleeps.Goals as goal

pub returns-in_default-clause-sleeps : goal.returns-in_default-clause-sleeps
returns-in_default-clause-sleeps g c =
    let did = Done g.C.ChannelCells.did g.S.Wakes.wakes in
    let here : g.row.C.Denot × g.row.S.Denot = (c.loop.cells, c.loop.sink) in
    let asked : g.row.C.Denot × g.row.S.Denot = (c.park.new.self, c.loop.sink) in
    let end : g.row.C.Denot × g.row.S.Denot = (c.refused.new.cells, c.refused.new.sink) in
    let given = c.refused.result in
    let left =
    subst (λ (b : Blocked g.row.T.Denot). let a : ChannelAsk g.row.T.Denot g.row.W.Denot = RefusePoll (line_of (waiting_of b)) (message_of (waiting_of b)) (Some c.loop.key) in WalkedFrom did (first a) asked given.reply given.kept end)
    c.loop.invariant.2 c.refused.ensures.leaves
    in
    (c.loop.invariant.0.0, c.loop.key, here, c.loop.invariant.0.1, inl (asked, (c.in_default.ensures.asked, refl), left))

pub returns-in-Ok-clause-sleeps : goal.returns-in-Ok-clause-sleeps
returns-in-Ok-clause-sleeps g c =
    let did = Done g.C.ChannelCells.did g.S.Wakes.wakes in
    let here : g.row.C.Denot × g.row.S.Denot = (c.loop.cells, c.loop.sink) in
    let asked : g.row.C.Denot × g.row.S.Denot = (c.park.new.self, c.loop.sink) in
    let end : g.row.C.Denot × g.row.S.Denot = (c.registers.new.cells, c.registers.new.sink) in
    let given = c.in-Ok.given in
    let task = c.in-Some-park.task in
    let walked =
    subst (λ (b : Blocked g.row.T.Denot). WalkedFrom did (first (poll_woken b c.loop.key task)) asked given.reply given.kept end) c.loop.invariant.2 c.in-Ok.ensures.registers
    in
    (c.loop.invariant.0.0, c.loop.key, here, c.loop.invariant.0.1, inr (task, asked, (c.in-Some-park.ensures.asked, refl), walked, c.in-Ok.ensures.over.1))

pub loop-preserved : goal.loop-preserved
loop-preserved g c =
    let did = Done g.C.ChannelCells.did g.S.Wakes.wakes in
    let here : g.row.C.Denot × g.row.S.Denot = (c.loop.cells, c.loop.sink) in
    let asked : g.row.C.Denot × g.row.S.Denot = (c.park.new.self, c.loop.sink) in
    let registered : g.row.C.Denot × g.row.S.Denot = (c.registers.new.cells, c.registers.new.sink) in
    let task = c.in-Some-park.task in
    let next = c.in-Err.next in
    let walked =
    subst (λ (b : Blocked g.row.T.Denot). WalkedFrom did (first (poll_woken b c.loop.key task)) asked (still_waits b next).reply (still_waits b next).kept registered) c.loop.invariant.2 c.in-Err.ensures.registers
    in (
      (suc c.loop.invariant.0.0, (c.loop.key, here, c.loop.invariant.0.1, (task, asked, registered, (c.in-Some-park.ensures.asked, refl), walked, (c.sleep.ensures.slept, refl)))),
      λ f has. c.sleep.ensures.form f (c.registers.ensures.form f (c.park.ensures.form f (c.loop.invariant.1 f has))),
      c.in-Err.ensures.same ∙ c.loop.invariant.2,
    )
