use Rattle.std.proofs.Common.{refl, subst}
use Rattle.concurrent_queue.specs.Replies.{MayCall}
use Rattle.concurrent_queue.specs.Walked.{standing}
use Rattle.concurrent_queue.specs.declared.cells.QueueForm.{QueueForm}
use Rattle.concurrent_queue.proofs.Standing.{led_on}
use Rattle.concurrent_queue.proofs.Walks.{leads_keep, walked_standing, walked_on}
use Rattle.concurrent_queue.proofs.queue_call.whole.complete.Goals as goal

pub returns-in-Ok-clause-walked : goal.returns-in-Ok-clause-walked
returns-in-Ok-clause-walked g c =
    walked_standing g.C.Cells.did (g.C.Cells.form_of c.args.cells.now) c.args.cells.now c.args.call.state c.call_fast.new.cells c.in-Ok.reply c.in-Ok.ensures.deeds

pub returns-in-Err-clause-walked : goal.returns-in-Err-clause-walked
returns-in-Err-clause-walked g c =
    let did = g.C.Cells.did in
    let form_of = g.C.Cells.form_of in
    let s = c.args.cells.now in
    let x = c.call_fast.new.cells in
    let form = form_of s in
    let from = standing form c.args.call.state in
    let went = c.in-Err.ensures.deeds in
    let same = leads_keep did form_of g.met.C.Cells.keeps_form form (went.0) s from x (standing form c.in-Err.rest.state) (went.1) in
    walked_standing did form s c.args.call.state c.finish.new.cells c.finish.result
    (walked_on did form (form_of x) (went.0) s from x c.in-Err.rest.state c.finish.new.cells c.finish.result same (went.1) c.finish.ensures.walked)

pub returns-in-Err-clause-answers : goal.returns-in-Err-clause-answers
returns-in-Err-clause-answers g c =
    let form_of = g.C.Cells.form_of in
    let s = c.args.cells.now in
    let x = c.call_fast.new.cells in
    let from = standing (form_of s) c.args.call.state in
    let went = c.in-Err.ensures.deeds in
    let same = leads_keep g.C.Cells.did form_of g.met.C.Cells.keeps_form (form_of s) (went.0) s from x (standing (form_of s) c.in-Err.rest.state) (went.1) in
    c.in-Err.ensures.answers c.finish.result (subst (λ (f : QueueForm). MayCall f c.in-Err.rest.state c.finish.result) same c.finish.ensures.answers)

pub finish-requires : goal.finish-requires
finish-requires g c =
    let k = g.C.Cells in
    let s = c.args.cells.now in
    record { stands = led_on k.did k.stands k.form_of g.met.C.Cells.keeps_form g.met.C.Cells.leads (k.form_of s) s c.args.call.state c.call_fast.new.cells c.in-Err.rest.state refl c.requires.stands c.in-Err.ensures.deeds }
