use Rattle.concurrent_queue.specs.declared.call.QueueAsk.TheVariants.{Capacity}
use Rattle.channel_calls.specs.declared.stage.Purpose.TheVariants.{Ask}
use Rattle.channel_calls.proofs.Answering.{capped}
use Rattle.channel_calls.proofs.questions.capacity.Goals as goal

pub returns-clause-deeds : goal.returns-clause-deeds
returns-clause-deeds g c = capped g.C.ChannelWords.did Capacity c.args.words.now c.asks.result c.in-Cap.capacity c.asks.new.words c.in-Cap.is (c.asks.ensures.comes Ask)

pub asks-requires-clause-stands : goal.asks-requires-clause-stands
asks-requires-clause-stands g c = (Ask, c.requires.stands)
