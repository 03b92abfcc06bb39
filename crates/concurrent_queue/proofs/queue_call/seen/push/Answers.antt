use Rattle.concurrent_queue.specs.declared.call.QueueAsk.TheVariants as ask
use Rattle.concurrent_queue.specs.declared.call.QueueReply.TheVariants as reply
use Rattle.concurrent_queue.specs.declared.queue_call.CallState.TheVariants.{Asked}
use Rattle.concurrent_queue.proofs.Traces.{on_cells_walked, traced}
use Rattle.concurrent_queue.proofs.queue_call.seen.push.Goals as goal

pub returns-clause-cells : goal.returns-clause-cells
returns-clause-cells g c =
    on_cells_walked g.C.Cells.did g.S.Trace.did (g.C.Cells.form_of c.args.seen.cells) c.args.seen c.push-answer.result.1 c.into_parts-cells.result.0 c.into_parts-cells.ensures.cells (Asked (ask.Push c.args.value)) (reply.Push c.push-answer.result.0) c.push-answer.ensures.walked

pub returns-clause-walked : goal.returns-clause-walked
returns-clause-walked g c =
    traced g.C.Cells.did g.S.Trace.did (g.C.Cells.form_of c.args.seen.cells) c.args.seen c.push-answer.result.1 c.into_parts-cells.result.1 c.into_parts-cells.ensures.trace (Asked (ask.Push c.args.value)) (reply.Push c.push-answer.result.0) c.push-answer.ensures.walked
