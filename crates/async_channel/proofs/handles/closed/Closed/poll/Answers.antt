use Rattle.std.proofs.Common.{rules, ◌≡◌, None}
use Rattle.channel_calls.specs.Calls.{closed_ask}
use Rattle.async_channel.specs.Handles.{channel_of}
use Rattle.async_channel.proofs.Forms.{without}
use Rattle.async_channel.proofs.Traces.{polls_of}
use Rattle.async_channel.proofs.handles.closed.Closed.poll.Goals as goal

pub returns-in-Unbounded-clause-made : goal.returns-in-Unbounded-clause-made
returns-in-Unbounded-clause-made g c =
    let same : channel_of c.deref-in-Unbounded.result.now ≡ c.args.self.now.channel = search rules in
    let none : c.args.self.now.channel.table ≡ None = search rules in
    let key : c.self.inside.waits.key ≡ c.args.self.now.key = search rules in
    without _ _ c.args.self.now.channel.table none
    (_, _, polls_of g.S.Trace-2.did g.S.Trace-1.shown g.S.Trace-1.entered _ _ _ _ _ same closed_ask c.self.inside.waits.key c.args.self.now.key c.poll_closed-in-Unbounded.new.waits.key key c.poll_closed-in-Unbounded.ensures.walked)
