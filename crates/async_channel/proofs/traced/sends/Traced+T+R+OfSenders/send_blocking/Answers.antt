use Rattle.channel_calls.specs.Blocks.{Blocks}
use Rattle.channel_calls.specs.Tried.{sent_reply, sent_left}
use Rattle.channel_calls.specs.declared.blocked.Blocked.TheVariants as blocking
use Rattle.async_channel.specs.Handles.{form_of}
use Rattle.async_channel.proofs.Traces.{on_channel}
use Rattle.async_channel.proofs.traced.sends.Traced+T+R+OfSenders.send_blocking.Goals as goal

pub returns-clause-walked : goal.returns-clause-walked
returns-clause-walked g c =
    on_channel g.S.Trace-2.did g.S.Trace-1.shown g.S.Trace-1.entered (λ saw begin r end. Blocks saw g.S.Trace-1.parked g.S.Trace-1.slept (blocking.Send c.args.message) begin r (sent_left c.send_blocking.result.0) end) c.args.self.now (form_of c.cells_and_bed.result.cells.shared.now) c.args.trace c.cells_and_bed.result.trace (sent_reply c.send_blocking.result.0) c.send_blocking.result.1 c.cells_and_bed.ensures.form c.cells_and_bed.ensures.trace c.send_blocking.ensures.walked
