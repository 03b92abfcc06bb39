use Rattle.std.proofs.Common.{◌≡◌, sym, subst, refl, ap, rules, ◌∙◌}
use Rattle.concurrent_queue.specs.machine.Dispatch.{ring_cap}
use Rattle.concurrent_queue.specs.Replies.{RingFollows}
use Rattle.concurrent_queue.specs.declared.bounded.RingAction.TheVariants as ring
use Rattle.concurrent_queue.specs.declared.call.QueueAsk.TheVariants as ask
use Rattle.concurrent_queue.specs.declared.cells.QueueForm.TheVariants.{Bounded}
use Rattle.concurrent_queue.proofs.ReplyFacts.{single_wrapped, ring_wrapped, blocks_wrapped}
use Rattle.concurrent_queue.proofs.queue_call.capacity_step.Goals as goal

pub returns-in-Bounded-eq1-clause-answers : goal.returns-in-Bounded-eq1-clause-answers
returns-in-Bounded-eq1-clause-answers g c =
    let one : c.in-Bounded-eq1.field-0 ≡ 1 = search rules in
    single_wrapped c.args.form ask.Capacity _ c.capacity.result _ (c.in-Bounded-eq1.is ∙ ap Bounded one) refl c.wrap_single.ensures c.capacity.ensures.answers

pub returns-in-Bounded-clause-answers : goal.returns-in-Bounded-clause-answers
returns-in-Bounded-clause-answers g c =
    ring_wrapped c.args.form c.in-Bounded.most ask.Capacity _ c.capacity-in-Bounded.result _ c.in-Bounded.is refl c.wrap_ring.ensures
    (subst (λ f. RingFollows (ring_cap f) ring.Capacity c.capacity-in-Bounded.result) (sym c.in-Bounded.is) c.capacity-in-Bounded.ensures.answers)

pub returns-in-Unbounded-clause-answers : goal.returns-in-Unbounded-clause-answers
returns-in-Unbounded-clause-answers g c =
    blocks_wrapped c.args.form ask.Capacity _ c.capacity-in-Unbounded.result _ c.in-Unbounded.is refl c.wrap_blocks.ensures c.capacity-in-Unbounded.ensures.answers
