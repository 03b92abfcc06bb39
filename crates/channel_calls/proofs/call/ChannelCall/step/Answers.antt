use Rattle.std.proofs.Common.{◌≡◌, rules, sym}
use Rattle.channel_calls.proofs.Replying as replying
use Rattle.channel_calls.proofs.Walking as walking
use Rattle.channel_calls.specs.Deeds.{Done}
use Rattle.channel_calls.proofs.call.ChannelCall.step.Goals as goal

pub returns-clause-deed : goal.returns-clause-deed
returns-clause-deed g c =
    let e : c.replace-stage.result ≡ c.args.self.now.stage = search rules in
    rw c.replace.ensures.after (walking.at_stage (Done g.C.ChannelCells.did g.S.Wakes.wakes) _ _ (sym e) _ _ _ _ _ c.stage_step-stepped.ensures.deed)

pub returns-clause-answers : goal.returns-clause-answers
returns-clause-answers g c f has =
    let e : c.replace-stage.result ≡ c.args.self.now.stage = search rules in
    rw c.replace.ensures.after (replying.at_stage _ f _ _ (sym e) _ _ (c.stage_step-stepped.ensures.answers f has))
