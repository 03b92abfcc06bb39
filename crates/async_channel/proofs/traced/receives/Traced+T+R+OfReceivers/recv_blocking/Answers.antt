use Rattle.channel_calls.specs.Blocks.{Blocks}
use Rattle.channel_calls.specs.Turns.{nothing_kept}
use Rattle.channel_calls.specs.declared.blocked.Blocked.TheVariants as blocking
use Rattle.channel_calls.specs.declared.reply.Reply.TheVariants as reply
use Rattle.futures.specs.declared.task.Poll.TheVariants as poll
use Rattle.async_channel.specs.Handles.{form_of}
use Rattle.async_channel.proofs.Traces.{on_channel}
use Rattle.async_channel.proofs.traced.receives.Traced+T+R+OfReceivers.recv_blocking.Goals as goal

pub returns : goal.returns
returns g c =
    record { walked = on_channel g.S.Trace-2.did g.S.Trace-1.shown g.S.Trace-1.entered (λ saw begin r end. Blocks saw g.S.Trace-1.parked g.S.Trace-1.slept blocking.Receive begin r nothing_kept end) c.args.self.now (form_of c.cells_and_bed.result.cells.shared.now) c.args.trace c.cells_and_bed.result.trace (reply.RecvPoll (poll.Ready c.recv_blocking.result.0)) c.recv_blocking.result.1 c.cells_and_bed.ensures.form c.cells_and_bed.ensures.trace c.recv_blocking.ensures.walked }
