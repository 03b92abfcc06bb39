use Rattle.std.proofs.Common.{◌∙◌, subst}
use Rattle.concurrent_queue.specs.QueueTables.{form_of}
use Rattle.concurrent_queue.specs.Replies.{MayCall}
use Rattle.concurrent_queue.specs.Walked.{WalkedFrom}
use Rattle.concurrent_queue.specs.declared.cells.QueueForm.{QueueForm}
use Rattle.concurrent_queue.specs.declared.queue_call.CallState.{CallState}
use Rattle.concurrent_queue.specs.declared.queue_call.CallState.TheVariants.{Asked}
use Rattle.concurrent_queue.proofs.CallBegins.{begun_stands}
use Rattle.concurrent_queue.proofs.HistoryCallsEnd.{cells_call_ends}
use Rattle.concurrent_queue.proofs.Traces.{walked_here}
use Rattle.concurrent_queue.proofs.shared.ruled.make.Goals as goal

pub complete-reply-requires : goal.complete-reply-requires
complete-reply-requires g c =
    let seat = c.call_cells-seen.result.cells.seat in
    record { stands = begun_stands seat.seat.me.0 seat.table.now.shared.table_id.slots c.args.ask (seat.seated.1 ∙ seat.bounded) c.call_cells-seen.ensures.begun c.new.result.state c.new.ensures.asked }

pub rest-witness-requires : goal.rest-witness-requires
rest-witness-requires g c =
    let cells = c.call_cells-seen.result.cells in
    let done = c.complete-reply.ensures in
    record {
      rests = (cells_call_ends cells.seat.table.now.shared.table_id.slots c.args.ask c.requires.cells c.new.result c.new.ensures.asked c.call_cells-seen.ensures.begun.0 cells c.complete-reply.result.1
          c.complete-reply.result.0 (cells.seat.seated.1 ∙ cells.seat.bounded) c.call_cells-seen.ensures.begun.1 done.cells done.answers).2;
    }

pub returns-clause-walked : goal.returns-clause-walked
returns-clause-walked g c =
    let seen = c.call_cells-seen.result in
    walked_here g.S.Trace.did (form_of c.args.table.now) seen.cells.seat.seat.me.0.form seen.trace c.args.trace c.call_cells-seen.ensures.form c.call_cells-seen.ensures.trace (Asked c.args.ask) c.complete-reply.result.0 c.complete-reply.result.2
    (subst (λ (at : CallState g.row.T.Denot). WalkedFrom g.S.Trace.did seen.cells.seat.seat.me.0.form at seen.trace c.complete-reply.result.0 c.complete-reply.result.2) c.new.ensures.asked c.complete-reply.ensures.walked)

pub returns-clause-answers : goal.returns-clause-answers
returns-clause-answers g c =
    subst (λ (f : QueueForm). MayCall f (Asked c.args.ask) c.complete-reply.result.0) c.call_cells-seen.ensures.form
    (subst (λ (at : CallState g.row.T.Denot). MayCall c.call_cells-seen.result.cells.seat.seat.me.0.form at c.complete-reply.result.0) c.new.ensures.asked c.complete-reply.ensures.answers)
