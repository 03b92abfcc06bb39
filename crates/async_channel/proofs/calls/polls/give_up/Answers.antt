use Rattle.channel_calls.specs.Asks.{first}
use Rattle.channel_calls.specs.declared.ask.ChannelAsk.TheVariants as ask
use Rattle.channel_calls.specs.declared.reply.Reply.TheVariants as reply
use Rattle.async_channel.proofs.Traces.{walked_to}
use Rattle.async_channel.proofs.calls.polls.give_up.Goals as goal

pub returns-clause-walked : goal.returns-clause-walked
returns-clause-walked g c =
    walked_to g.C.Places.form_of g.C.Places.did g.S.Trace-2.did g.S.Trace-1.shown (c.args.seen, _) (c.give_up-back.new.cells, _) c.into_trace.result c.into_trace.ensures (first (ask.GiveUp c.args.line c.args.message c.args.key)) (reply.GivenUp c.give_up-back.result) c.give_up-back.ensures.deeds
