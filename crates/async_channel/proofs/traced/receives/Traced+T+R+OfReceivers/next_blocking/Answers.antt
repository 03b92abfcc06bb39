use Rattle.channel_calls.specs.Taking.{WaitsForNext}
use Rattle.async_channel.specs.Handles.{form_of}
use Rattle.async_channel.proofs.Traces.{on_channel}
use Rattle.async_channel.proofs.traced.receives.Traced+T+R+OfReceivers.next_blocking.Goals as goal

pub returns-clause-walked : goal.returns-clause-walked
returns-clause-walked g c =
    on_channel g.S.Trace-2.did g.S.Trace-1.shown g.S.Trace-1.entered (λ saw. WaitsForNext saw g.S.Trace-1.parked g.S.Trace-1.slept c.args.ended.now) c.args.self.now (form_of c.cells_and_bed.result.cells.shared.now) c.args.trace c.cells_and_bed.result.trace c.next_blocking.result.0 c.next_blocking.result.1 c.cells_and_bed.ensures.form c.cells_and_bed.ensures.trace c.next_blocking.ensures.walked
