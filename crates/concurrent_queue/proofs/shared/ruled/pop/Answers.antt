use Rattle.std.proofs.Common.{◌∙◌, ap, refl, inr}
use Rattle.concurrent_queue.specs.Bridge.{asking}
use Rattle.concurrent_queue.specs.QueueTables.{form_of}
use Rattle.concurrent_queue.specs.history.Runs.{fresh}
use Rattle.concurrent_queue.specs.declared.call.QueueAsk.TheVariants as ask
use Rattle.concurrent_queue.specs.declared.call.QueueReply.TheVariants as reply
use Rattle.concurrent_queue.specs.declared.history.cells.HistoryCells.{HistoryCells}
use Rattle.concurrent_queue.specs.declared.history.party.OfQueue.{OfQueue}
use Rattle.concurrent_queue.specs.declared.history.party.Standing.{Standing}
use Rattle.concurrent_queue.specs.declared.queue_call.CallState.TheVariants.{Asked}
use Rattle.concurrent_queue.proofs.CallBegins.{begun_stands}
use Rattle.concurrent_queue.proofs.HistoryCallsEnd.{cells_call_ends}
use Rattle.concurrent_queue.proofs.Traces.{walked_here}
use Rattle.concurrent_queue.proofs.shared.ruled.pop.Goals as goal

pub enter-seat-requires : goal.enter-seat-requires
enter-seat-requires g c = record { enters = inr (ask.Pop, (refl, refl)) }

pub pop-answer-requires : goal.pop-answer-requires
pop-answer-requires g c =
    let seat = c.see_call.result.cells.seat in
    let asked = ask.Pop in
    record { stands = begun_stands seat.seat.me.0 seat.table.now.shared.table_id.slots asked (seat.seated.1 ∙ seat.bounded) (fresh, ap (λ (x : HistoryCells g.row.T.Denot (Standing g.row.T.Denot) OfQueue). x.seat.seat.me.0.state) c.see_call.ensures.cells ∙ c.enter-seat.ensures.state) (Asked asked) refl }

pub rest-witness-requires : goal.rest-witness-requires
rest-witness-requires g c =
    let cells = c.see_call.result.cells in
    let asked = ask.Pop in
    let done = c.pop-answer.ensures in
    record {
      rests = (cells_call_ends cells.seat.table.now.shared.table_id.slots asked tt (asking asked) refl fresh cells c.pop-answer.result.1 (reply.Pop c.pop-answer.result.0) (cells.seat.seated.1 ∙ cells.seat.bounded) (ap (λ (x : HistoryCells g.row.T.Denot (Standing g.row.T.Denot) OfQueue). x.seat.seat.me.0.state) c.see_call.ensures.cells ∙ c.enter-seat.ensures.state) done.cells tt).2;
    }

pub returns : goal.returns
returns g c =
    let seen = c.see_call.result in
    let same = ap (λ (x : HistoryCells g.row.T.Denot (Standing g.row.T.Denot) OfQueue). x.seat.seat.me.0.form) c.see_call.ensures.cells ∙ c.enter-seat.ensures.same.1 in
    record { walked = walked_here g.S.Trace.did (form_of c.args.table.now) seen.cells.seat.seat.me.0.form seen.trace c.args.trace same c.see_call.ensures.trace (Asked ask.Pop) (reply.Pop c.pop-answer.result.0) c.pop-answer.result.2 c.pop-answer.ensures.walked }
