use Rattle.concurrent_queue.proofs.ReplyFacts.{blocks_still}
use Rattle.concurrent_queue.proofs.queue_call.step_state.Goals as goal

pub returns-in-Blocks-clause-answers : goal.returns-in-Blocks-clause-answers
returns-in-Blocks-clause-answers g c =
    blocks_still (g.C.Cells.form_of c.args.cells.now) c.args.state c.in-Blocks.call c.step-in-Blocks.result _ c.in-Blocks.is c.wrap_blocks.ensures c.step-in-Blocks.ensures.answers
