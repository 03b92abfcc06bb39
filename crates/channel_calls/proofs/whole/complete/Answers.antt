use Rattle.std.proofs.Common.{suc, Option, None, Some, sym, subst}
use Rattle.channel_calls.specs.Asks.{kept_by}
use Rattle.channel_calls.specs.Replies.{MayEnd, FollowsStage}
use Rattle.channel_calls.specs.declared.stage.Returned.{Returned}
use Rattle.channel_calls.specs.Deeds.{Done}
use Rattle.channel_calls.specs.Walks.{ChannelMakes}
use Rattle.channel_calls.specs.declared.reply.Reply.{Reply}
use Rattle.channel_calls.proofs.Walking.{leads_on}
use Rattle.channel_calls.proofs.Standing as standing
use Rattle.channel_calls.proofs.whole.complete.Goals as goal

pub returns-in-Some-reply-clause-deeds : goal.returns-in-Some-reply-clause-deeds
returns-in-Some-reply-clause-deeds g c =
    let did = Done g.C.ChannelCells.did g.S.Wakes.wakes in
    let here : g.row.C.Denot × g.row.S.Denot = (c.loop.cells, c.loop.sink) in
    let there : g.row.C.Denot × g.row.S.Denot = (c.stage_step-stepped.new.cells, c.stage_step-stepped.new.sink) in
    let last : ChannelMakes did c.loop.stage here there c.stage_step-stepped.result.mark c.stage_step-stepped.result.stage (Some c.in-Some-reply.reply) =
    subst (λ (o : Option (Reply g.row.T.Denot)). ChannelMakes did c.loop.stage here there c.stage_step-stepped.result.mark c.stage_step-stepped.result.stage o) c.in-Some-reply.is c.stage_step-stepped.ensures.deed
    in
    (c.loop.invariant.0.0, here, c.loop.stage, c.stage_step-stepped.result.mark, c.stage_step-stepped.result.stage, c.loop.invariant.0.1, last, c.kept_by-kept.ensures)

pub returns-in-Some-reply-clause-answers : goal.returns-in-Some-reply-clause-answers
returns-in-Some-reply-clause-answers g c f has =
    let kept = c.kept_by-kept.result in
    let r = c.in-Some-reply.reply in
    let follows : MayEnd f c.loop.stage r (kept_by c.stage_step-stepped.result.stage).message =
    subst (λ (o : Option (Reply g.row.T.Denot)). FollowsStage f c.loop.stage c.stage_step-stepped.result.stage o) c.in-Some-reply.is (c.stage_step-stepped.ensures.answers f (c.loop.invariant.1 f has))
    in
    c.loop.invariant.2 f has r kept.message (subst (λ (k : Returned g.row.T.Denot). MayEnd f c.loop.stage r k.message) (sym c.kept_by-kept.ensures) follows)

pub returns-in-Some-reply-clause-form : goal.returns-in-Some-reply-clause-form
returns-in-Some-reply-clause-form g c f has = c.stage_step-stepped.ensures.form f (c.loop.invariant.1 f has)

pub loop-preserved : goal.loop-preserved
loop-preserved g c =
    let did = Done g.C.ChannelCells.did g.S.Wakes.wakes in
    let start : g.row.C.Denot × g.row.S.Denot = (c.args.cells.now, c.args.sink.now) in
    let here : g.row.C.Denot × g.row.S.Denot = (c.loop.cells, c.loop.sink) in
    let there : g.row.C.Denot × g.row.S.Denot = (c.stage_step-stepped.new.cells, c.stage_step-stepped.new.sink) in
    let now = c.stage_step-stepped.result in
    let deed : ChannelMakes did c.loop.stage here there now.mark now.stage None =
    subst (λ (o : Option (Reply g.row.T.Denot)). ChannelMakes did c.loop.stage here there now.mark now.stage o) c.in-None-reply.is c.stage_step-stepped.ensures.deed
    in (
      (suc c.loop.invariant.0.0, leads_on did c.loop.invariant.0.0 start c.args.call.stage here c.loop.stage now.mark there now.stage c.loop.invariant.0.1 deed),
      λ f has. c.stage_step-stepped.ensures.form f (c.loop.invariant.1 f has),
      λ f has r m may. c.loop.invariant.2 f has r m
          (subst (λ (o : Option (Reply g.row.T.Denot)). FollowsStage f c.loop.stage now.stage o) c.in-None-reply.is (c.stage_step-stepped.ensures.answers f (c.loop.invariant.1 f has)) r m may),
      standing.made_on g.C.ChannelCells.stands g.C.ChannelCells.did g.met.C.ChannelCells.leads g.met.C.ChannelCells.rests g.S.Wakes.wakes here there now.mark now.stage None c.loop.stage c.loop.invariant.3 deed,
    )
