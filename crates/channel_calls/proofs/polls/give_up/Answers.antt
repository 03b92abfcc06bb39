use Rattle.channel_calls.specs.Asks.{first}
use Rattle.channel_calls.specs.Deeds.{Done}
use Rattle.channel_calls.specs.declared.ask.ChannelAsk.TheVariants as ask
use Rattle.channel_calls.proofs.Walking.{answered_as}
use Rattle.channel_calls.proofs.polls.give_up.Goals as goal

pub returns-clause-deeds : goal.returns-clause-deeds
returns-clause-deeds g c =
    (c.make-reply.result.kept, answered_as (Done g.C.ChannelCells.did g.S.Wakes.wakes) (first (ask.GiveUp c.args.line c.args.message c.args.key)) _ _ _ _ _ c.in-GivenUp.is c.make-reply.ensures.deeds)
