use Rattle.std.proofs.Common.{◌≡◌, subst, None, sym, ap, refl, rules, ◌∙◌}
use Rattle.concurrent_queue.proofs.Standing.{first_single, first_ring, first_blocks}
use Rattle.concurrent_queue.specs.Stands.{IsMeasured}
use Rattle.concurrent_queue.proofs.Walks.{single_walked, single_left, ring_walked, ring_left, blocks_walked, blocks_left}
use Rattle.concurrent_queue.specs.declared.call.QueueAsk.TheVariants as ask
use Rattle.concurrent_queue.specs.declared.call.QueueReply.TheVariants as reply
use Rattle.concurrent_queue.specs.declared.cells.QueueForm.TheVariants.{Bounded}
use Rattle.concurrent_queue.specs.declared.unbounded.action.UnboundedAction.TheVariants as blocks
use Rattle.concurrent_queue.proofs.Evidence.{ne_of}
use Rattle.concurrent_queue.proofs.queue_call.fast_path.push_fast.Goals as goal

pub returns-in-Ok-clause-deeds : goal.returns-in-Ok-clause-deeds
returns-in-Ok-clause-deeds g c =
    let one : c.in-Bounded-eq1.field-0 ≡ 1 = search rules in
    single_walked g.C.Cells.did (g.C.Cells.form_of c.args.cells.now) c.args.cells.now c.push_fast.new.cells (ask.Push c.args.value) (sym c.form.ensures.form ∙ c.in-Bounded-eq1.is ∙ ap Bounded one) (reply.Push c.in-Ok.answer) c.in-Ok.ensures.deeds

pub returns-in-Err-clause-deeds : goal.returns-in-Err-clause-deeds
returns-in-Err-clause-deeds g c =
    let one : c.in-Bounded-eq1.field-0 ≡ 1 = search rules in
    single_left g.C.Cells.did (g.C.Cells.form_of c.args.cells.now) c.args.cells.now c.push_fast.new.cells (ask.Push c.args.value) (sym c.form.ensures.form ∙ c.in-Bounded-eq1.is ∙ ap Bounded one) c.in-Err.action c.going_on.result.state c.going_on.ensures c.in-Err.ensures.deeds

pub returns-in-Ok-push_fast-clause-deeds : goal.returns-in-Ok-push_fast-clause-deeds
returns-in-Ok-push_fast-clause-deeds g c =
    ring_walked g.C.Cells.did (g.C.Cells.form_of c.args.cells.now) c.args.cells.now c.push_fast-in-Bounded.new.cells (ask.Push c.args.value) c.in-Bounded.capacity c.of.result.cap c.of.result.mark (sym c.form.ensures.form ∙ c.in-Bounded.is) (ne_of _ _ c.in-Bounded.capacity-test.1) c.of.ensures.cap c.of.ensures.mark (reply.Push c.in-Ok-push_fast.answer) c.in-Ok-push_fast.ensures.deeds

pub returns-in-Err-push_fast-clause-deeds : goal.returns-in-Err-push_fast-clause-deeds
returns-in-Err-push_fast-clause-deeds g c =
    ring_left g.C.Cells.did (g.C.Cells.form_of c.args.cells.now) c.args.cells.now c.push_fast-in-Bounded.new.cells (ask.Push c.args.value) c.in-Bounded.capacity c.of.result.cap c.of.result.mark (sym c.form.ensures.form ∙ c.in-Bounded.is) (ne_of _ _ c.in-Bounded.capacity-test.1) c.of.ensures.cap c.of.ensures.mark c.in-Err-push_fast.action c.going_on-in-Err-push_fast.result.state c.going_on-in-Err-push_fast.ensures c.in-Err-push_fast.ensures.deeds

pub returns-in-Ok-push_fast-2-clause-deeds : goal.returns-in-Ok-push_fast-2-clause-deeds
returns-in-Ok-push_fast-2-clause-deeds g c =
    blocks_walked g.C.Cells.did (g.C.Cells.form_of c.args.cells.now) c.args.cells.now c.push_fast-in-Unbounded.new.cells (ask.Push c.args.value) (sym c.form.ensures.form ∙ c.in-Unbounded.is) (blocks.Push c.args.value None) refl (reply.Push c.in-Ok-push_fast-2.answer) c.in-Ok-push_fast-2.ensures.deeds

pub returns-in-Err-push_fast-2-clause-deeds : goal.returns-in-Err-push_fast-2-clause-deeds
returns-in-Err-push_fast-2-clause-deeds g c =
    blocks_left g.C.Cells.did (g.C.Cells.form_of c.args.cells.now) c.args.cells.now c.push_fast-in-Unbounded.new.cells (ask.Push c.args.value) (sym c.form.ensures.form ∙ c.in-Unbounded.is) (blocks.Push c.args.value None) refl c.in-Err-push_fast-2.action c.going_on-in-Err-push_fast-2.result.state c.going_on-in-Err-push_fast-2.ensures c.in-Err-push_fast-2.ensures.deeds

-- ---- the call stands there

pub push_fast-requires : goal.push_fast-requires
push_fast-requires g c =
    let k = g.C.Cells in
    let s = c.args.cells.now in
    let one : c.in-Bounded-eq1.field-0 ≡ 1 = search rules in
    record { stands = first_single (λ at. k.stands at s) (k.form_of s) (ask.Push c.args.value) (sym c.form.ensures.form ∙ c.in-Bounded-eq1.is ∙ ap Bounded one) c.requires.stands }

pub push_fast-requires-in-Bounded-clause-stands : goal.push_fast-requires-in-Bounded-clause-stands
push_fast-requires-in-Bounded-clause-stands g c =
    let k = g.C.Cells in
    let s = c.args.cells.now in
    first_ring (λ at. k.stands at s) (k.form_of s) (ask.Push c.args.value) c.in-Bounded.capacity (sym c.form.ensures.form ∙ c.in-Bounded.is) (ne_of _ _ c.in-Bounded.capacity-test.1) c.requires.stands

pub push_fast-requires-in-Bounded-clause-measures : goal.push_fast-requires-in-Bounded-clause-measures
push_fast-requires-in-Bounded-clause-measures g c =
    subst (λ f. IsMeasured c.of.result.cap c.of.result.mark f) (sym (sym c.form.ensures.form ∙ c.in-Bounded.is)) (c.of.ensures.cap, c.of.ensures.mark)

pub push_fast-requires-in-Unbounded : goal.push_fast-requires-in-Unbounded
push_fast-requires-in-Unbounded g c =
    let k = g.C.Cells in
    let s = c.args.cells.now in
    record { stands = first_blocks (λ at. k.stands at s) (k.form_of s) (ask.Push c.args.value) (sym c.form.ensures.form ∙ c.in-Unbounded.is) c.requires.stands }
