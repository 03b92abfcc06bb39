use Rattle.std.proofs.Common.{rules, ◌≡◌, None}
use Rattle.async_channel.specs.Handles.{channel_of}
use Rattle.async_channel.proofs.Forms.{without}
use Rattle.async_channel.proofs.Traces.{sends_of}
use Rattle.async_channel.proofs.handles.send.Send.poll.Goals as goal

pub returns-in-Unbounded-clause-made : goal.returns-in-Unbounded-clause-made
returns-in-Unbounded-clause-made g c =
    let same : channel_of c.deref-in-Unbounded.result.now ≡ c.args.self.now.channel = search rules in
    let none : c.args.self.now.channel.table ≡ None = search rules in
    let message : c.take-message.result ≡ c.args.self.now.message = search rules in
    let key : c.self.inside.waits.key ≡ c.args.self.now.key = search rules in
    without _ _ c.args.self.now.channel.table none
    (_, _, sends_of g.S.Trace-2.did g.S.Trace-1.shown g.S.Trace-1.entered _ _ _ _ _ same c.take-message.result c.args.self.now.message c.self.inside.waits.key c.args.self.now.key c.poll_send-polled-in-Unbounded.new.waits.key _ _ message key (search rules) c.poll_send-polled-in-Unbounded.ensures.walked)
