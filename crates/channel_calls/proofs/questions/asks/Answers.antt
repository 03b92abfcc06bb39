use Rattle.channel_calls.proofs.Answering as answering
use Rattle.channel_calls.proofs.Standing as standing
use Rattle.channel_calls.proofs.questions.asks.Goals as goal

pub returns-in-Some-clause-comes : goal.returns-in-Some-clause-comes
returns-in-Some-clause-comes g c a =
    answering.once g.C.ChannelWords.did c.args.question a c.args.words.now c.new-call.result c.new-call.ensures.starts c.new-call.ensures.asked
    c.step_words.new.call c.in-Some.reply c.step_words.new.self c.in-Some.ensures.deed

pub returns-clause-comes : goal.returns-clause-comes
returns-clause-comes g c a =
    answering.twice g.C.ChannelWords.did c.args.question a c.args.words.now c.new-call.result c.new-call.ensures.starts c.new-call.ensures.asked
    c.step_words.new.call c.step_words-2.new.call c.in-Some-step_words.reply c.step_words.new.self c.step_words-2.new.self c.in_default.ensures.deed c.in-Some-step_words.ensures.deed

pub step_words-requires-clause-may : goal.step_words-requires-clause-may
step_words-requires-clause-may g c =
    standing.begun_ready g.C.ChannelWords.stands g.C.ChannelWords.may g.met.C.ChannelWords.ready c.args.words.now c.args.question c.requires.stands.0 c.requires.stands.1 c.new-call.result c.new-call.ensures.starts c.new-call.ensures.asked

pub step_words-requires-2-clause-may : goal.step_words-requires-2-clause-may
step_words-requires-2-clause-may g c =
    standing.step_ready g.C.ChannelWords.stands g.C.ChannelWords.may g.met.C.ChannelWords.ready c.step_words.new.self c.step_words.new.call c.requires.stands.0
    (standing.asks_on g.C.ChannelWords.stands g.C.ChannelWords.did g.met.C.ChannelWords.leads g.met.C.ChannelWords.rests c.args.words.now c.step_words.new.self c.args.question c.requires.stands.0 c.requires.stands.1
    c.new-call.result c.step_words.new.call c.new-call.ensures.starts c.new-call.ensures.asked c.in_default.ensures.deed)
