use Rattle.std.proofs.Common.{subst, sym}
use Rattle.concurrent_queue.specs.Replies.{RingFollows}
use Rattle.concurrent_queue.specs.declared.bounded.RingAction.{RingAction}
use Rattle.concurrent_queue.proofs.bounded.step_ring.Goals as goal

pub returns-in-PushHead-clause-answers : goal.returns-in-PushHead-clause-answers
returns-in-PushHead-clause-answers g c =
    subst (λ (x : RingAction g.row.T.Denot). RingFollows c.args.shape.cap x c.push_head.result) (sym c.in-PushHead.is) (c.push_head.ensures.answers c.args.shape.cap)
