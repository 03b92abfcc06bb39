use Rattle.std.proofs.Common.{◌≡◌, ℕ, subst, rules}
use Rattle.concurrent_queue.specs.machine.Dispatch.{ring_cap}
use Rattle.concurrent_queue.specs.Replies.{RingFollows}
use Rattle.concurrent_queue.proofs.bounded.step.Goals as goal

pub returns-clause-answers : goal.returns-clause-answers
returns-clause-answers g c =
    let slots : c.of.result.cap ≡ ring_cap (g.C.Cells.form_of c.args.cells.now) = search rules in
    subst (λ (cap : ℕ). RingFollows cap c.args.action c.step_ring.result) slots c.step_ring.ensures.answers
