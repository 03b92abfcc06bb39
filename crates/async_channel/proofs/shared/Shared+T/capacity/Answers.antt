use Rattle.std.proofs.Common.{refl}
use Rattle.channel_calls.specs.Asks.{first}
use Rattle.channel_calls.specs.declared.ask.ChannelAsk.TheVariants as ask
use Rattle.channel_calls.specs.declared.reply.Reply.TheVariants as reply
use Rattle.async_channel.specs.Handles.{form_of}
use Rattle.async_channel.specs.Saw.{SeenOn}
use Rattle.async_channel.proofs.Traces.{asked}
use Rattle.async_channel.proofs.shared.Shared+T.capacity.Goals as goal

pub returns-clause-walked : goal.returns-clause-walked
unfolding SeenOn
returns-clause-walked g c =
    (c.words-seen.result.trace, c.words-seen.ensures.trace, asked g.S.Trace-2.did g.S.Trace-1.shown (form_of c.args.self.now) (first ask.Capacity) c.words-seen.result c.capacity-capacity.new.words (reply.Cap c.capacity-capacity.result) c.words-seen.result.trace c.into_trace.result c.words-seen.ensures.form refl c.into_trace.ensures c.capacity-capacity.ensures.deeds)
