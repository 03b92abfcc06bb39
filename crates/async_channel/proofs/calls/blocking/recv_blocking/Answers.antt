use Rattle.std.proofs.Common.{refl, sym}
use Rattle.channel_calls.specs.Turns.{nothing_kept}
use Rattle.channel_calls.specs.declared.blocked.Blocked.TheVariants as blocking
use Rattle.channel_calls.specs.declared.reply.Reply.TheVariants as reply
use Rattle.futures.specs.declared.task.Poll.TheVariants as poll
use Rattle.async_channel.proofs.Traces.{blocked}
use Rattle.async_channel.proofs.calls.blocking.recv_blocking.Goals as goal

pub returns : goal.returns
returns g c =
    record { walked = blocked g.C.Places.form_of g.C.Places.did g.S.Trace-2.did g.S.Trace-1.shown (c.args.seen, _) (c.recv_blocking-received.new.cells, _) c.into_trace.result c.into_trace.ensures g.C.Beds.parked g.C.Beds.slept g.S.Trace-1.parked g.S.Trace-1.slept (sym (c.recv_blocking-received.ensures.form (g.C.Places.form_of c.args.seen.cells) refl)) blocking.Receive (reply.RecvPoll (poll.Ready c.recv_blocking-received.result)) nothing_kept c.recv_blocking-received.ensures.deeds }
