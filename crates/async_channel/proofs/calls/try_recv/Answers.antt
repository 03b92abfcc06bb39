use Rattle.channel_calls.specs.Asks.{first}
use Rattle.channel_calls.specs.declared.ask.ChannelAsk.TheVariants as ask
use Rattle.channel_calls.specs.declared.reply.Reply.TheVariants as reply
use Rattle.async_channel.proofs.Traces.{walked_to}
use Rattle.async_channel.proofs.calls.try_recv.Goals as goal

pub returns : goal.returns
returns g c =
    record { walked = walked_to g.C.Places.form_of g.C.Places.did g.S.Trace-2.did g.S.Trace-1.shown (c.args.seen, _) (c.try_recv-received.new.cells, _) c.into_trace.result c.into_trace.ensures (first ask.TryRecv) (reply.TryRecv c.try_recv-received.result) c.try_recv-received.ensures.deeds }
