use Rattle.concurrent_queue.proofs.Traces.{on_cells_walked, traced}
use Rattle.concurrent_queue.proofs.queue_call.seen.complete.Goals as goal

pub returns-clause-cells : goal.returns-clause-cells
returns-clause-cells g c =
    on_cells_walked g.C.Cells.did g.S.Trace.did (g.C.Cells.form_of c.args.seen.cells) c.args.seen c.complete-reply.new.cells c.into_parts-cells.result.0 c.into_parts-cells.ensures.cells c.args.call.state c.complete-reply.result c.complete-reply.ensures.walked

pub returns-clause-walked : goal.returns-clause-walked
returns-clause-walked g c =
    traced g.C.Cells.did g.S.Trace.did (g.C.Cells.form_of c.args.seen.cells) c.args.seen c.complete-reply.new.cells c.into_parts-cells.result.1 c.into_parts-cells.ensures.trace c.args.call.state c.complete-reply.result c.complete-reply.ensures.walked
