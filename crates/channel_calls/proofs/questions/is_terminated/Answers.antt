use Rattle.std.proofs.Common.{◌≡◌, true, false, rules, subst}
use Rattle.concurrent_queue.specs.declared.call.QueueAsk.TheVariants.{IsClosed, IsEmpty}
use Rattle.concurrent_queue.specs.declared.call.QueueReply.TheVariants.{Flag}
use Rattle.channel_calls.specs.declared.stage.Purpose.TheVariants.{Ask, IsTerminated}
use Rattle.channel_calls.proofs.Answering.{flagged, open_still, then_empty}
use Rattle.concurrent_queue.specs.declared.call.QueueReply.{QueueReply}
use Rattle.channel_calls.specs.Answered.{answered_next}
use Rattle.channel_calls.specs.Tried.{Comes}
use Rattle.channel_calls.specs.declared.stage.NextStep.TheVariants.{Tries}
use Rattle.channel_calls.proofs.Standing as standing
use Rattle.channel_calls.proofs.questions.is_terminated.Goals as goal

pub returns-in-Flag-clause-deeds : goal.returns-in-Flag-clause-deeds
returns-in-Flag-clause-deeds g c =
    let did = g.C.ChannelWords.did in
    let is : c.asks-first.result ≡ Flag true = search rules in
    let between = c.asks-first.new.words in
    then_empty did c.args.words.now between c.asks-first.result c.in-Flag.empty c.asks-second.new.words is (c.asks-first.ensures.comes IsTerminated)
    (flagged did IsEmpty between c.asks-second.result c.in-Flag.empty c.asks-second.new.words c.in-Flag.is (c.asks-second.ensures.comes Ask))

pub returns-in-Flag-false-clause-deeds : goal.returns-in-Flag-false-clause-deeds
returns-in-Flag-false-clause-deeds g c =
    let is : c.asks-first.result ≡ Flag false = search rules in
    open_still g.C.ChannelWords.did c.args.words.now c.asks-first.result c.asks-first.new.words is (c.asks-first.ensures.comes IsTerminated)

pub asks-first-requires-clause-stands : goal.asks-first-requires-clause-stands
asks-first-requires-clause-stands g c = (IsTerminated, c.requires.stands)

pub asks-second-requires-clause-stands : goal.asks-second-requires-clause-stands
asks-second-requires-clause-stands g c =
    let did = g.C.ChannelWords.did in
    let is : c.asks-first.result ≡ Flag true = search rules in
    let between = c.asks-first.new.words in
    let there : Comes did (Tries IsClosed IsTerminated) c.args.words.now (Tries IsEmpty Ask) between =
    subst (λ (z : QueueReply g.row.T.Denot). Comes did (Tries IsClosed IsTerminated) c.args.words.now (answered_next IsTerminated z) between) is (c.asks-first.ensures.comes IsTerminated)
    in
    (Ask, standing.comes_to g.C.ChannelWords.stands g.C.ChannelWords.did g.met.C.ChannelWords.leads g.met.C.ChannelWords.rests (Tries IsClosed IsTerminated) c.args.words.now (Tries IsEmpty Ask) between c.requires.stands there)
