use Rattle.std.proofs.Common.{sym, subst}
use Rattle.concurrent_queue.specs.Replies.{Follows}
use Rattle.async_channel.proofs.seen.SeenChannelCellsTask.step_queue.Goals as goal

pub returns-clause-answers : goal.returns-clause-answers
returns-clause-answers g c f is =
    subst (λ form. Follows form c.args.call.now c.step_told.new.call c.step_told.result) (sym is) c.step_told.ensures.answers
