use Rattle.std.proofs.Common.{refl, sym}
use Rattle.channel_calls.specs.Tried.{sent_reply, sent_left}
use Rattle.channel_calls.specs.declared.blocked.Blocked.TheVariants as blocking
use Rattle.async_channel.proofs.Traces.{blocked}
use Rattle.async_channel.proofs.calls.blocking.send_blocking.Goals as goal

pub returns-clause-walked : goal.returns-clause-walked
returns-clause-walked g c =
    blocked g.C.Places.form_of g.C.Places.did g.S.Trace-2.did g.S.Trace-1.shown (c.args.seen, _) (c.send_blocking-sent.new.cells, _) c.into_trace.result c.into_trace.ensures g.C.Beds.parked g.C.Beds.slept g.S.Trace-1.parked g.S.Trace-1.slept (sym (c.send_blocking-sent.ensures.form (g.C.Places.form_of c.args.seen.cells) refl)) (blocking.Send c.args.message) (sent_reply c.send_blocking-sent.result) (sent_left c.send_blocking-sent.result) c.send_blocking-sent.ensures.deeds
