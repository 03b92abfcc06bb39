use Rattle.std.proofs.Common.{None}
use Rattle.concurrent_queue.proofs.Standing.{step_on}
use Rattle.concurrent_queue.proofs.Walks.{step_keeps, walked_one, walked_two}
use Rattle.channel_cells.proofs.questions.complete_question.Goals as goal

pub returns-in-Some-clause-walked : goal.returns-in-Some-clause-walked
returns-in-Some-clause-walked g c =
    walked_one g.C.Cells.did (g.C.Cells.form_of c.args.cells.now) c.args.cells.now c.args.call c.step.new.cells c.step.new.self c.in-Some.reply c.in-Some.ensures.deed

pub returns-clause-walked : goal.returns-clause-walked
returns-clause-walked g c =
    let did = g.C.Cells.did in
    let form_of = g.C.Cells.form_of in
    let s = c.args.cells.now in
    let x = c.step.new.cells in
    let next = c.step.new.self in
    let made = c.in_default.ensures.deed in
    let same = step_keeps did form_of g.met.C.Cells.keeps_form (form_of s) s c.args.call.state x (record { action = next.state; mark = next.mark; reply = None }) made in
    walked_two did (form_of s) (form_of x) s c.args.call x next c.step-2.new.cells c.step-2.new.self c.in-Some-step.reply same made c.in-Some-step.ensures.deed

pub step-requires-2 : goal.step-requires-2
step-requires-2 g c =
    let k = g.C.Cells in
    record { stands = step_on k.did k.stands k.form_of g.met.C.Cells.keeps_form g.met.C.Cells.leads c.args.call c.args.cells.now c.step.new.cells c.step.new.self c.requires.stands c.in_default.ensures.deed }
