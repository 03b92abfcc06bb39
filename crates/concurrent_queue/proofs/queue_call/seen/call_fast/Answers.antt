use Rattle.concurrent_queue.specs.Walked.{standing}
use Rattle.concurrent_queue.specs.declared.call.QueueReply.{QueueReply}
use Rattle.concurrent_queue.proofs.Traces.{traced_fast}
use Rattle.concurrent_queue.proofs.queue_call.seen.call_fast.Goals as goal

pub returns-clause-deeds : goal.returns-clause-deeds
returns-clause-deeds g c =
    traced_fast g.C.Cells.did g.S.Trace.did (g.C.Cells.form_of c.args.seen.cells) c.args.seen c.call_fast-made.new.cells c.into_trace.result c.into_trace.ensures (λ (r : QueueReply g.row.T.Denot). r) (standing (g.C.Cells.form_of c.args.seen.cells) c.args.call.state) c.call_fast-made.result c.call_fast-made.ensures.deeds
