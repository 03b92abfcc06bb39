use Rattle.concurrent_queue.proofs.Traces.{stepped}
use Rattle.concurrent_queue.proofs.queue_call.seen.step.Goals as goal

pub returns-clause-deed : goal.returns-clause-deed
returns-clause-deed g c =
    stepped g.C.Cells.did g.S.Trace.did (g.C.Cells.form_of c.args.seen.cells) c.args.seen c.step-reply.new.cells c.into_trace.result c.into_trace.ensures c.args.call.now c.step-reply.new.call c.step-reply.result c.step-reply.ensures.deed
