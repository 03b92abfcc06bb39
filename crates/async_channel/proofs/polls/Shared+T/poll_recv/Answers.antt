use Rattle.std.proofs.Common.{rules, ◌≡◌}
use Rattle.channel_calls.specs.Calls.{recv_ask}
use Rattle.channel_calls.specs.declared.reply.Reply.TheVariants as reply
use Rattle.async_channel.specs.Handles.{channel_of, form_of}
use Rattle.async_channel.specs.Polls.{Polls}
use Rattle.async_channel.specs.Saw.{Saw}
use Rattle.async_channel.proofs.Traces.{on_channel, poll_kept}
use Rattle.async_channel.proofs.polls.Shared+T.poll_recv.Goals as goal

pub returns-clause-walked : goal.returns-clause-walked
returns-clause-walked g c =
    let left : c.keep.new.self.key ≡ c.poll_recv-polled.result.1.key = search rules in
    on_channel g.S.Trace-2.did g.S.Trace-1.shown g.S.Trace-1.entered (λ saw begin r end. Polls saw (recv_ask c.args.waits.now.key) begin r c.keep.new.self.key end) (channel_of c.args.self.now) (form_of c.cells-seen.result.cells.shared.now) c.args.trace c.cells-seen.result.trace (reply.RecvPoll c.poll_recv-polled.result.0) c.poll_recv-polled.result.2 c.cells-seen.ensures.form c.cells-seen.ensures.trace
    ((c.poll_recv-polled.result.1.message, poll_kept (Saw g.S.Trace-2.did g.S.Trace-1.shown (form_of c.cells-seen.result.cells.shared.now)) recv_ask _ _ c.arm-task.result _ _ c.poll_recv-polled.result.1 _ _ c.key-key.ensures left c.poll_recv-polled.ensures.walked))
