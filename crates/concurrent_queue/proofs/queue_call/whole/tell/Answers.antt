use Rattle.std.proofs.Common.{None, subst, sym}
use Rattle.concurrent_queue.specs.Walked.{WalkedFrom, standing}
use Rattle.concurrent_queue.specs.declared.queue_call.CallState.{CallState}
use Rattle.concurrent_queue.proofs.Standing.{step_on}
use Rattle.concurrent_queue.proofs.Walks.{step_keeps, walked_one, walked_two}
use Rattle.concurrent_queue.proofs.queue_call.whole.tell.Goals as goal

pub returns-in-Some-clause-walked : goal.returns-in-Some-clause-walked
returns-in-Some-clause-walked g c =
    let did = g.C.Cells.did in
    let form = g.C.Cells.form_of c.args.cells.now in
    let s = c.args.cells.now in
    let t = c.step.new.cells in
    subst (λ (at : CallState g.row.T.Denot). WalkedFrom did form at s c.in-Some.reply t) c.new-call.ensures.asked
    (walked_one did form s c.new-call.result t c.step.new.self c.in-Some.reply c.in-Some.ensures.deed)

pub returns-clause-walked : goal.returns-clause-walked
returns-clause-walked g c =
    let did = g.C.Cells.did in
    let form_of = g.C.Cells.form_of in
    let s = c.args.cells.now in
    let form = form_of s in
    let call = c.new-call.result in
    let x = c.step.new.cells in
    let next = c.step.new.self in
    let t = c.step-2.new.cells in
    let made = c.in_default.ensures.deed in
    let same = step_keeps did form_of g.met.C.Cells.keeps_form form s call.state x (record { action = next.state; mark = next.mark; reply = None }) made in
    subst (λ (at : CallState g.row.T.Denot). WalkedFrom did form at s c.in-Some-step.reply t) c.new-call.ensures.asked
    (walked_two did form (form_of x) s call x next t c.step-2.new.self c.in-Some-step.reply same made c.in-Some-step.ensures.deed)

pub step-requires : goal.step-requires
step-requires g c =
    let k = g.C.Cells in
    let s = c.args.cells.now in
    record { stands = subst (λ (at : CallState g.row.T.Denot). k.stands (standing (k.form_of s) at) s) (sym c.new-call.ensures.asked) c.requires.stands }

pub step-requires-2 : goal.step-requires-2
step-requires-2 g c =
    let k = g.C.Cells in
    let s = c.args.cells.now in
    let stood = subst (λ (at : CallState g.row.T.Denot). k.stands (standing (k.form_of s) at) s) (sym c.new-call.ensures.asked) c.requires.stands in
    record { stands = step_on k.did k.stands k.form_of g.met.C.Cells.keeps_form g.met.C.Cells.leads c.new-call.result s c.step.new.cells c.step.new.self stood c.in_default.ensures.deed }
