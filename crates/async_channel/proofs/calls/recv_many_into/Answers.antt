use Rattle.async_channel.proofs.Traces.{filled}
use Rattle.async_channel.proofs.calls.recv_many_into.Goals as goal

pub returns-clause-walked : goal.returns-clause-walked
returns-clause-walked g c =
    filled g.C.Places.form_of g.C.Places.did g.S.Trace-2.did g.S.Trace-1.shown (c.args.seen, _) (c.recv_many_into-received.new.cells, _) c.into_trace.result c.into_trace.ensures _ _ _ c.recv_many_into-received.result c.recv_many_into-received.ensures.deeds
