use Rattle.std.proofs.Common.{subst}
use Rattle.channel_calls.proofs.Walking.{taken_of}
use Rattle.channel_calls.specs.Walks.{Takes}
use Rattle.channel_calls.specs.declared.stage.NextStep.{NextStep}
use Rattle.channel_calls.proofs.Replying as replying
use Rattle.channel_calls.proofs.call.ChannelCall.new.Goals as goal

pub returns-clause-begins : goal.returns-clause-begins
returns-clause-begins g c =
    let s = c.takes-begun.result.stage in
    (_, taken_of _ s _ (subst (λ (t : NextStep g.row.T.Denot g.row.W.Denot). Takes t s c.takes-begun.result.reply) c.first.ensures c.takes-begun.ensures.goes))

pub returns-clause-answers : goal.returns-clause-answers
returns-clause-answers g c b r m w = replying.given _ b c.args.ask r m (replying.begun _ b _ _ c.first.ensures _ _ c.takes-begun.ensures.goes (c.takes-begun.ensures.follows b) r m w)
