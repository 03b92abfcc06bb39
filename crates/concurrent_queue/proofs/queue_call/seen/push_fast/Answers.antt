use Rattle.concurrent_queue.specs.Walked.{first_of}
use Rattle.concurrent_queue.specs.declared.call.QueueAsk.TheVariants as ask
use Rattle.concurrent_queue.specs.declared.call.QueueReply.TheVariants as reply
use Rattle.concurrent_queue.proofs.Traces.{traced_fast}
use Rattle.concurrent_queue.proofs.queue_call.seen.push_fast.Goals as goal

pub returns-clause-deeds : goal.returns-clause-deeds
returns-clause-deeds g c =
    traced_fast g.C.Cells.did g.S.Trace.did (g.C.Cells.form_of c.args.seen.cells) c.args.seen c.push_fast-made.new.cells c.into_trace.result c.into_trace.ensures (λ r. reply.Push r) (first_of (g.C.Cells.form_of c.args.seen.cells) (ask.Push c.args.value)) c.push_fast-made.result c.push_fast-made.ensures.deeds
