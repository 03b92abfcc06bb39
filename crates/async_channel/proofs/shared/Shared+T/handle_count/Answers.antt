use Rattle.std.proofs.Common.{refl}
use Rattle.channel_calls.specs.Asks.{first}
use Rattle.channel_calls.specs.declared.ask.ChannelAsk.TheVariants as ask
use Rattle.channel_calls.specs.declared.reply.Reply.TheVariants as reply
use Rattle.async_channel.specs.Handles.{form_of}
use Rattle.async_channel.specs.Saw.{SeenOn}
use Rattle.async_channel.proofs.Traces.{asked}
use Rattle.async_channel.proofs.shared.Shared+T.handle_count.Goals as goal

pub returns : goal.returns
unfolding SeenOn
returns g c =
    record {
      walked = (c.words-seen.result.trace, c.words-seen.ensures.trace, asked g.S.Trace-2.did g.S.Trace-1.shown (form_of c.args.self.now) (first (ask.HandleCount c.args.side)) c.words-seen.result c.handle_count-count.new.words (reply.Count c.handle_count-count.result) c.words-seen.result.trace c.into_trace.result c.words-seen.ensures.form refl c.into_trace.ensures c.handle_count-count.ensures.deeds);
    }
