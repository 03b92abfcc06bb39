use Rattle.channel_calls.specs.Asks.{first}
use Rattle.channel_calls.specs.declared.ask.ChannelAsk.TheVariants as ask
use Rattle.async_channel.specs.Saw.{Saw}
use Rattle.async_channel.proofs.Counts.{upgrades}
use Rattle.async_channel.proofs.Traces.{walked_to}
use Rattle.async_channel.proofs.calls.counts.upgrade.Goals as goal

pub returns-clause-walked : goal.returns-clause-walked
returns-clause-walked g c =
    let deeds = c.upgrade-counted.ensures.deeds in
    upgrades (Saw g.S.Trace-2.did g.S.Trace-1.shown (g.C.Places.form_of c.args.seen.cells)) g.K.Kind.side c.args.seen.trace c.into_trace.result deeds.0 c.upgrade-counted.result c.upgrade-counted.ensures.reason
    (walked_to g.C.Places.form_of g.C.Places.did g.S.Trace-2.did g.S.Trace-1.shown (c.args.seen, _) (c.upgrade-counted.new.cells, _) c.into_trace.result c.into_trace.ensures (first (ask.Upgrade g.K.Kind.side)) deeds.0 deeds.1) deeds.2
