use Rattle.std.proofs.Common.{subst}
use Rattle.std.specs.Prelude.{Option}
use Rattle.event_listener.specs.declared.key.Key.{Key}
use Rattle.channel_calls.specs.declared.ask.ChannelAsk.TheVariants as ask
use Rattle.async_channel.specs.Counts.{Drops}
use Rattle.async_channel.specs.Handles.{channel_of, form_of}
use Rattle.async_channel.specs.Saw.{Saw}
use Rattle.async_channel.proofs.Traces.{on_channel}
use Rattle.async_channel.proofs.polls.Shared+T.drop_receiver.Goals as goal

pub returns : goal.returns
returns g c =
    let form = form_of c.cells-seen.result.cells.shared.now in
    record {
      walked = on_channel g.S.Trace-2.did g.S.Trace-1.shown g.S.Trace-1.entered (λ saw. Drops saw (ask.DropReceiver c.args.waits.key)) (channel_of c.args.self.now) form c.args.trace c.cells-seen.result.trace tt c.drop_receiver.result c.cells-seen.ensures.form c.cells-seen.ensures.trace
          (subst (λ (k : Option Key). Drops (Saw g.S.Trace-2.did g.S.Trace-1.shown form) (ask.DropReceiver k) c.cells-seen.result.trace tt c.drop_receiver.result) c.end.ensures c.drop_receiver.ensures.walked);
    }
