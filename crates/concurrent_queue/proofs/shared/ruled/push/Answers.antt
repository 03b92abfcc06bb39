use Rattle.std.proofs.Common.{◌∙◌, ap, refl, subst, inr}
use Rattle.concurrent_queue.specs.Bridge.{asking}
use Rattle.concurrent_queue.specs.QueueTables.{form_of}
use Rattle.concurrent_queue.specs.Replies.{MayAnswer}
use Rattle.concurrent_queue.specs.history.Runs.{fresh}
use Rattle.concurrent_queue.specs.declared.call.QueueAsk.TheVariants as ask
use Rattle.concurrent_queue.specs.declared.call.QueueReply.TheVariants as reply
use Rattle.concurrent_queue.specs.declared.cells.QueueForm.{QueueForm}
use Rattle.concurrent_queue.specs.declared.history.cells.HistoryCells.{HistoryCells}
use Rattle.concurrent_queue.specs.declared.history.party.OfQueue.{OfQueue}
use Rattle.concurrent_queue.specs.declared.history.party.Standing.{Standing}
use Rattle.concurrent_queue.specs.declared.queue_call.CallState.TheVariants.{Asked}
use Rattle.concurrent_queue.proofs.CallBegins.{begun_stands}
use Rattle.concurrent_queue.proofs.HistoryCallsEnd.{cells_call_ends}
use Rattle.concurrent_queue.proofs.Traces.{walked_here}
use Rattle.concurrent_queue.proofs.shared.ruled.push.Goals as goal

pub enter-seat-requires : goal.enter-seat-requires
enter-seat-requires g c = record { enters = inr (ask.Push c.args.value, (refl, refl)) }

pub push-answer-requires : goal.push-answer-requires
push-answer-requires g c =
    let seat = c.see_call.result.cells.seat in
    let asked = ask.Push c.args.value in
    record { stands = begun_stands seat.seat.me.0 seat.table.now.shared.table_id.slots asked (seat.seated.1 ∙ seat.bounded) (fresh, ap (λ (x : HistoryCells g.row.T.Denot (Standing g.row.T.Denot) OfQueue). x.seat.seat.me.0.state) c.see_call.ensures.cells ∙ c.enter-seat.ensures.state) (Asked asked) refl }

pub rest-witness-requires : goal.rest-witness-requires
rest-witness-requires g c =
    let cells = c.see_call.result.cells in
    let asked = ask.Push c.args.value in
    let done = c.push-answer.ensures in
    record {
      rests = (cells_call_ends cells.seat.table.now.shared.table_id.slots asked tt (asking asked) refl fresh cells c.push-answer.result.1 (reply.Push c.push-answer.result.0) (cells.seat.seated.1 ∙ cells.seat.bounded) (ap (λ (x : HistoryCells g.row.T.Denot (Standing g.row.T.Denot) OfQueue). x.seat.seat.me.0.state) c.see_call.ensures.cells ∙ c.enter-seat.ensures.state) done.cells done.answers).2;
    }

pub returns-clause-walked : goal.returns-clause-walked
returns-clause-walked g c =
    let seen = c.see_call.result in
    let same = ap (λ (x : HistoryCells g.row.T.Denot (Standing g.row.T.Denot) OfQueue). x.seat.seat.me.0.form) c.see_call.ensures.cells ∙ c.enter-seat.ensures.same.1 in
    walked_here g.S.Trace.did (form_of c.args.table.now) seen.cells.seat.seat.me.0.form seen.trace c.args.trace same c.see_call.ensures.trace (Asked (ask.Push c.args.value)) (reply.Push c.push-answer.result.0) c.push-answer.result.2 c.push-answer.ensures.walked

pub returns-clause-answers : goal.returns-clause-answers
returns-clause-answers g c =
    let same = ap (λ (x : HistoryCells g.row.T.Denot (Standing g.row.T.Denot) OfQueue). x.seat.seat.me.0.form) c.see_call.ensures.cells ∙ c.enter-seat.ensures.same.1 in
    subst (λ (f : QueueForm). MayAnswer f (ask.Push c.args.value) (reply.Push c.push-answer.result.0)) same c.push-answer.ensures.answers
