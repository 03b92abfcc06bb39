use Rattle.channel_calls.proofs.Answering.{handles_counted}
use Rattle.std.proofs.Common.{refl}
use Rattle.channel_calls.specs.declared.stage.ListStep.TheVariants.{Count}
use Rattle.channel_calls.specs.declared.stage.Stage.TheVariants.{Working}
use Rattle.channel_calls.proofs.Standing as standing
use Rattle.channel_calls.proofs.questions.handle_count.Goals as goal

pub returns-clause-deeds : goal.returns-clause-deeds
returns-clause-deeds g c = handles_counted g.C.ChannelWords.did c.args.side c.args.words.now c.count.result c.count.new.self c.count.ensures.deed

pub count-requires : goal.count-requires
count-requires g c = record { may = standing.count_ready g.C.ChannelWords.stands g.C.ChannelWords.may g.met.C.ChannelWords.ready c.args.words.now c.args.side (c.requires.stands (Working (Count c.args.side)) (refl, refl)) }
