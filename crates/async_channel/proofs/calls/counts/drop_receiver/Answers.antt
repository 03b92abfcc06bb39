use Rattle.channel_calls.specs.Asks.{first}
use Rattle.channel_calls.specs.declared.ask.ChannelAsk.TheVariants as ask
use Rattle.async_channel.proofs.Traces.{walked_to}
use Rattle.async_channel.proofs.calls.counts.drop_receiver.Goals as goal

pub returns : goal.returns
returns g c =
    let deeds = c.drop_receiver.ensures.deeds in
    record { walked = (deeds.0, walked_to g.C.Places.form_of g.C.Places.did g.S.Trace-2.did g.S.Trace-1.shown (c.args.seen, _) (c.drop_receiver.new.cells, _) c.into_trace.result c.into_trace.ensures (first (ask.DropReceiver c.args.key)) deeds.0 deeds.1) }
