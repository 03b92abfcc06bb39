use Rattle.concurrent_queue.specs.declared.queue_call.CallState.TheVariants.{Asked}
use Rattle.concurrent_queue.proofs.Traces.{traced}
use Rattle.concurrent_queue.proofs.queue_call.seen.tell.Goals as goal

pub returns-clause-walked : goal.returns-clause-walked
returns-clause-walked g c =
    traced g.C.Cells.did g.S.Trace.did (g.C.Cells.form_of c.args.seen.cells) c.args.seen c.tell-reply.new.cells c.into_trace.result c.into_trace.ensures (Asked c.args.ask) c.tell-reply.result c.tell-reply.ensures.walked
