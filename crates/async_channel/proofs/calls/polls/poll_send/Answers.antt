use Rattle.channel_calls.specs.Asks.{first}
use Rattle.channel_calls.specs.Calls.{send_ask}
use Rattle.channel_calls.specs.declared.reply.Reply.TheVariants as reply
use Rattle.async_channel.proofs.Traces.{walked_from}
use Rattle.async_channel.proofs.calls.polls.poll_send.Goals as goal

pub returns-clause-walked : goal.returns-clause-walked
returns-clause-walked g c =
    walked_from g.C.Places.form_of g.C.Places.did g.S.Trace-2.did g.S.Trace-1.shown (c.args.seen, _) (c.poll_send-polled.new.cells, _) c.into_trace.result c.into_trace.ensures (first (send_ask c.args.message c.args.key c.args.task)) (reply.SendPoll c.poll_send-polled.result.0) c.poll_send-polled.result.1 c.poll_send-polled.ensures.deeds
