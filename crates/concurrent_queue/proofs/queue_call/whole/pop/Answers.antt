use Rattle.std.proofs.Common.{refl, subst}
use Rattle.concurrent_queue.specs.Walked.{first_of, standing, WalkedFrom}
use Rattle.concurrent_queue.specs.declared.call.QueueAsk.TheVariants as ask
use Rattle.concurrent_queue.specs.declared.call.QueueReply.{QueueReply}
use Rattle.concurrent_queue.specs.declared.call.QueueReply.TheVariants as reply
use Rattle.concurrent_queue.specs.declared.queue_call.CallState.TheVariants.{Asked}
use Rattle.concurrent_queue.proofs.Standing.{led_on}
use Rattle.concurrent_queue.proofs.Walks.{leads_keep, walked_standing, walked_on}
use Rattle.concurrent_queue.proofs.queue_call.whole.pop.Goals as goal

pub returns-in-Ok : goal.returns-in-Ok
returns-in-Ok g c =
    record { walked = walked_standing g.C.Cells.did (g.C.Cells.form_of c.args.cells) c.args.cells (Asked ask.Pop) c.pop_fast.new.cells (reply.Pop c.in-Ok.answer) c.in-Ok.ensures.deeds }

pub returns-in-Pop : goal.returns-in-Pop
returns-in-Pop g c =
    let did = g.C.Cells.did in
    let form_of = g.C.Cells.form_of in
    let s = c.args.cells in
    let x = c.pop_fast.new.cells in
    let form = form_of s in
    let from = first_of form ask.Pop in
    let left = c.in-Err.rest.state in
    let went = c.in-Err.ensures.deeds in
    let made = c.finish_apart-reply.result in
    let same = leads_keep did form_of g.met.C.Cells.keeps_form form (went.0) s from x (standing form left) (went.1) in
    let rest = subst (λ (r : QueueReply g.row.T.Denot). WalkedFrom did (form_of x) left x r made.1) c.in-Pop.is c.finish_apart-reply.ensures.walked in
    record {
      walked = walked_standing did form s (Asked ask.Pop) made.1 (reply.Pop c.in-Pop.answer) (walked_on did form (form_of x) (went.0) s from x left made.1 (reply.Pop c.in-Pop.answer) same (went.1) rest);
    }

pub finish_apart-reply-requires : goal.finish_apart-reply-requires
finish_apart-reply-requires g c =
    let k = g.C.Cells in
    let s = c.args.cells in
    record { stands = led_on k.did k.stands k.form_of g.met.C.Cells.keeps_form g.met.C.Cells.leads (k.form_of s) s (Asked ask.Pop) c.pop_fast.new.cells c.in-Err.rest.state refl c.requires.stands c.in-Err.ensures.deeds }
