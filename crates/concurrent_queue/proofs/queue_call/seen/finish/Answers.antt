use Rattle.concurrent_queue.proofs.Traces.{traced}
use Rattle.concurrent_queue.proofs.queue_call.seen.finish.Goals as goal

pub returns-clause-walked : goal.returns-clause-walked
returns-clause-walked g c =
    traced g.C.Cells.did g.S.Trace.did (g.C.Cells.form_of c.args.seen.cells) c.args.seen c.finish-reply.new.cells c.into_trace.result c.into_trace.ensures c.args.call.state c.finish-reply.result c.finish-reply.ensures.walked
