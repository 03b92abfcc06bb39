use Rattle.std.proofs.Common.{◌≡◌, sym, ap, rules, ◌∙◌}
use Rattle.concurrent_queue.specs.declared.cells.QueueForm.TheVariants.{Bounded}
use Rattle.concurrent_queue.proofs.ReplyFacts.{single_wrapped, ring_wrapped, blocks_wrapped}
use Rattle.concurrent_queue.proofs.queue_call.first_step.Goals as goal

pub returns-in-Bounded-eq1-clause-answers : goal.returns-in-Bounded-eq1-clause-answers
returns-in-Bounded-eq1-clause-answers g c =
    let one : c.in-Bounded-eq1.field-0 ≡ 1 = search rules in
    single_wrapped (g.C.Cells.form_of c.args.cells.now) c.args.ask _ c.step.result _ (sym c.form.ensures.form ∙ c.in-Bounded-eq1.is ∙ ap Bounded one) c.first.ensures c.wrap_single.ensures c.step.ensures.answers

pub returns-in-Bounded-clause-answers : goal.returns-in-Bounded-clause-answers
returns-in-Bounded-clause-answers g c =
    ring_wrapped (g.C.Cells.form_of c.args.cells.now) c.in-Bounded.field-0 c.args.ask _ c.step-in-Bounded.result _ (sym c.form.ensures.form ∙ c.in-Bounded.is) c.first-in-Bounded.ensures c.wrap_ring.ensures c.step-in-Bounded.ensures.answers

pub returns-in-Unbounded-clause-answers : goal.returns-in-Unbounded-clause-answers
returns-in-Unbounded-clause-answers g c =
    blocks_wrapped (g.C.Cells.form_of c.args.cells.now) c.args.ask _ c.step-in-Unbounded.result _ (sym c.form.ensures.form ∙ c.in-Unbounded.is) c.first-in-Unbounded.ensures c.wrap_blocks.ensures c.step-in-Unbounded.ensures.answers
