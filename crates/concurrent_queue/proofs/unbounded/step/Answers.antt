use Rattle.std.proofs.Common.{Option, subst, sym}
use Rattle.concurrent_queue.specs.Replies.{MayBlocks, FollowsBy, IsLastBlocks, IsSoonBlocks}
use Rattle.concurrent_queue.specs.declared.call.QueueReply.{QueueReply}
use Rattle.concurrent_queue.proofs.ReplyFacts.{blocks_follow, call}
use Rattle.concurrent_queue.proofs.unbounded.step.Goals as goal

pub returns-clause-answers : goal.returns-clause-answers
returns-clause-answers g c =
    let d = c.args.call.displacing in
    let p = c.step_unbounded-progress.result in
    subst (λ (o : Option (QueueReply g.row.T.Denot)). FollowsBy MayBlocks (λ x. IsLastBlocks x.action) (λ x. IsSoonBlocks x.action) c.args.call (call d p.action) o) (sym c.answer.ensures)
    (blocks_follow d c.args.call.action p.action p.ending c.step_unbounded-progress.ensures.ends)
