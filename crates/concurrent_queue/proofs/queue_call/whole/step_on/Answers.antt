use Rattle.std.proofs.Common.{suc, None, Some, refl, subst, ◌∙◌}
use Rattle.concurrent_queue.specs.Walked.{StateMakes, CallMakes}
use Rattle.concurrent_queue.specs.declared.cells.QueueForm.{QueueForm}
use Rattle.concurrent_queue.proofs.Standing.{step_on}
use Rattle.concurrent_queue.proofs.Walks.{leads_on, step_keeps}
use Rattle.concurrent_queue.proofs.queue_call.whole.step_on.Goals as goal

pub loop-init : goal.loop-init
loop-init g c = ((λ r may. may), refl, (0, (refl, refl)), c.requires.stands)

pub returns-in-Some-step-clause-walked : goal.returns-in-Some-step-clause-walked
returns-in-Some-step-clause-walked g c =
    let l = c.loop in
    let last = c.step.new.call in
    let t = c.step.new.cells in
    let ends = subst (λ (f : QueueForm). CallMakes g.C.Cells.did f l.cells l.call t last (Some c.in-Some-step.reply)) l.invariant.1 c.in-Some-step.ensures.deed in
    (l.invariant.2.0, (l.cells, l.call.state, last.state, last.mark, l.invariant.2.1, ends))

pub returns-in-Some-step-clause-answers : goal.returns-in-Some-step-clause-answers
returns-in-Some-step-clause-answers g c = c.loop.invariant.0 c.in-Some-step.reply c.in-Some-step.ensures.answers

pub loop-preserved : goal.loop-preserved
loop-preserved g c =
    let did = g.C.Cells.did in
    let form = g.C.Cells.form_of c.args.cells.now in
    let l = c.loop in
    let next = c.step.new.call in
    let t = c.step.new.cells in
    let made = subst (λ (f : QueueForm). CallMakes did f l.cells l.call t next None) l.invariant.1 c.in_default.ensures.deed in
    let same = step_keeps did g.C.Cells.form_of g.met.C.Cells.keeps_form form l.cells l.call.state t (record { action = next.state; mark = next.mark; reply = None }) made in (
      (λ r may. l.invariant.0 r (c.in_default.ensures.answers.0 (g.C.Cells.form_of t) r may)),
      same ∙ l.invariant.1,
      (suc (l.invariant.2.0), leads_on (StateMakes did form) (l.invariant.2.0) c.args.cells.now c.args.call.state l.cells l.call.state t next.state (l.invariant.2.1) (next.mark, made)),
      step_on did g.C.Cells.stands g.C.Cells.form_of g.met.C.Cells.keeps_form g.met.C.Cells.leads l.call l.cells t next l.invariant.3 c.in_default.ensures.deed,
    )

pub step-requires : goal.step-requires
step-requires g c = record { stands = c.loop.invariant.3 }
