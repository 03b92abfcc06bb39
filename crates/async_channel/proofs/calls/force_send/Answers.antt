use Rattle.std.proofs.Common.{refl}
use Rattle.channel_calls.specs.Asks.{first}
use Rattle.channel_calls.specs.declared.ask.ChannelAsk.TheVariants as ask
use Rattle.channel_calls.specs.declared.reply.Reply.TheVariants as reply
use Rattle.async_channel.proofs.Traces.{walked_to}
use Rattle.async_channel.proofs.calls.force_send.Goals as goal

pub returns-clause-walked : goal.returns-clause-walked
returns-clause-walked g c =
    walked_to g.C.Places.form_of g.C.Places.did g.S.Trace-2.did g.S.Trace-1.shown (c.args.seen, _) (c.force_send-sent.new.cells, _) c.into_trace.result c.into_trace.ensures (first (ask.ForceSend c.args.message)) (reply.ForceSend c.force_send-sent.result) c.force_send-sent.ensures.deeds

pub returns-clause-refused : goal.returns-clause-refused
returns-clause-refused g c = c.force_send-sent.ensures.refused (g.C.Places.form_of c.args.seen.cells) refl
