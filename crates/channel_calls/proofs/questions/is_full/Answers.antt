use Rattle.concurrent_queue.specs.declared.call.QueueAsk.TheVariants.{IsFull}
use Rattle.channel_calls.specs.declared.stage.Purpose.TheVariants.{Ask}
use Rattle.channel_calls.proofs.Answering.{flagged}
use Rattle.channel_calls.proofs.questions.is_full.Goals as goal

pub returns-clause-deeds : goal.returns-clause-deeds
returns-clause-deeds g c = flagged g.C.ChannelWords.did IsFull c.args.words.now c.asks.result c.in-Flag.full c.asks.new.words c.in-Flag.is (c.asks.ensures.comes Ask)

pub asks-requires-clause-stands : goal.asks-requires-clause-stands
asks-requires-clause-stands g c = (Ask, c.requires.stands)
