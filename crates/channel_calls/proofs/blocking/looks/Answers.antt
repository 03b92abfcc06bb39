use Rattle.std.proofs.Common.{suc, refl, ◌∙◌, subst}
use Rattle.channel_calls.specs.Asks.{first}
use Rattle.channel_calls.specs.Blocks.{at_once, not_yet, AnswersAtFirst}
use Rattle.channel_calls.specs.Deeds.{Done}
use Rattle.channel_calls.specs.Walks.{WalkedTo}
use Rattle.channel_calls.specs.declared.ask.ChannelAsk.{ChannelAsk}
use Rattle.channel_calls.specs.declared.blocked.Blocked.{Blocked}
use Rattle.channel_calls.proofs.BlockedPolls as polls
use Rattle.channel_calls.proofs.blocking.looks.Goals as goal

pub returns-in-Ok-clause-looks : goal.returns-in-Ok-clause-looks
returns-in-Ok-clause-looks g c =
    let did = Done g.C.ChannelCells.did g.S.Wakes.wakes in
    let here : g.row.C.Denot × g.row.S.Denot = (c.loop.cells, c.loop.sink) in
    let there : g.row.C.Denot × g.row.S.Denot = (c.tries.new.cells, c.tries.new.sink) in
    let given = c.in-Ok.given in
    let begun = polls.begun_over did c.loop.call here given there c.in-Ok.ensures.over c.in-Ok.ensures.comes in
    (c.loop.invariant.0.0, here, c.loop.invariant.0.1, subst (λ (b : Blocked g.row.T.Denot). AnswersAtFirst did b here given.reply given.kept there) c.loop.invariant.2 begun)

pub returns-then-is_completed-clause-looks : goal.returns-then-is_completed-clause-looks
returns-then-is_completed-clause-looks g c =
    let here : g.row.C.Denot × g.row.S.Denot = (c.loop.cells, c.loop.sink) in
    (c.loop.invariant.0.0, here, c.loop.invariant.0.1, refl)

pub loop-preserved : goal.loop-preserved
loop-preserved g c =
    let did = Done g.C.ChannelCells.did g.S.Wakes.wakes in
    let here : g.row.C.Denot × g.row.S.Denot = (c.loop.cells, c.loop.sink) in
    let there : g.row.C.Denot × g.row.S.Denot = (c.tries.new.cells, c.tries.new.sink) in
    let looked = subst (λ (b : Blocked g.row.T.Denot). let a : ChannelAsk g.row.T.Denot g.row.W.Denot = at_once b in WalkedTo did (first a) here (not_yet b) there) c.loop.invariant.2 c.in-Err.ensures.looked in (
      (suc c.loop.invariant.0.0, (here, c.loop.invariant.0.1, looked)),
      λ f has. c.tries.ensures.form f (c.loop.invariant.1 f has),
      c.in-Err.ensures.same ∙ c.loop.invariant.2,
    )
