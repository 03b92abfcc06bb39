use Rattle.std.proofs.Common.{subst}
use Rattle.concurrent_queue.specs.declared.cells.QueueForm.TheVariants.{Unbounded}
use Rattle.concurrent_queue.specs.Walked.{WalkedFrom}
use Rattle.concurrent_queue.specs.declared.queue_call.CallState.{CallState}
use Rattle.concurrent_queue.proofs.shared.endless.Endless.make.Goals as goal

pub returns-clause-walked : goal.returns-clause-walked
returns-clause-walked g c =
    let made = c.finish.result in
    subst (λ (at : CallState g.row.T.Denot). WalkedFrom g.S.Trace.did Unbounded at c.args.trace made.0 made.1) c.new.ensures.asked
    c.finish.ensures.walked
