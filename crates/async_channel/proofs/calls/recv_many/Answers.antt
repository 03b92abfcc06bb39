use Rattle.async_channel.proofs.Traces.{several}
use Rattle.async_channel.proofs.calls.recv_many.Goals as goal

pub returns-clause-walked : goal.returns-clause-walked
returns-clause-walked g c =
    several g.C.Places.form_of g.C.Places.did g.S.Trace-2.did g.S.Trace-1.shown (c.args.seen, _) (c.recv_many-received.new.cells, _) c.into_trace.result c.into_trace.ensures c.args.limit c.recv_many-received.result c.recv_many-received.ensures.deeds
