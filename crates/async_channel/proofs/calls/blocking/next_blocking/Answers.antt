use Rattle.std.proofs.Common.{refl, sym}
use Rattle.async_channel.proofs.Traces.{waited}
use Rattle.async_channel.proofs.calls.blocking.next_blocking.Goals as goal

pub returns-clause-walked : goal.returns-clause-walked
returns-clause-walked g c =
    waited g.C.Places.form_of g.C.Places.did g.S.Trace-2.did g.S.Trace-1.shown (c.args.seen, _) (c.next_blocking-next.new.cells, _) c.into_trace.result c.into_trace.ensures g.C.Beds.parked g.C.Beds.slept g.S.Trace-1.parked g.S.Trace-1.slept (sym (c.next_blocking-next.ensures.form (g.C.Places.form_of c.args.seen.cells) refl)) c.args.ended.now c.next_blocking-next.result c.next_blocking-next.ensures.deeds
