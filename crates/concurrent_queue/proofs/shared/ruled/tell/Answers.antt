use Rattle.std.proofs.Common.{◌∙◌, refl, sym, subst}
use Rattle.concurrent_queue.specs.Bridge.{asking}
use Rattle.concurrent_queue.specs.Replies.{MayAnswer}
use Rattle.concurrent_queue.specs.declared.cells.QueueForm.{QueueForm}
use Rattle.concurrent_queue.specs.declared.queue_call.CallState.TheVariants.{Asked}
use Rattle.concurrent_queue.proofs.CallBegins.{asks_cells, begun_stands}
use Rattle.concurrent_queue.proofs.HistoryCallsEnd.{cells_call_ends}
use Rattle.concurrent_queue.proofs.Traces.{walked_here}
use Rattle.concurrent_queue.proofs.shared.ruled.tell.Goals as goal

pub complete_question-reply-requires : goal.complete_question-reply-requires
complete_question-reply-requires g c =
    let seat = c.call_cells-seen.result.cells.seat in
    record { words = c.requires.words; stands = begun_stands seat.seat.me.0 seat.table.now.shared.table_id.slots c.args.ask (seat.seated.1 ∙ seat.bounded) c.call_cells-seen.ensures.begun (Asked c.args.ask) refl }

pub rest-witness-requires : goal.rest-witness-requires
rest-witness-requires g c =
    let cells = c.call_cells-seen.result.cells in
    let done = c.complete_question-reply.ensures in
    record {
      rests = (cells_call_ends cells.seat.table.now.shared.table_id.slots c.args.ask (asks_cells c.args.ask c.in_default.not-Capacity) (asking c.args.ask) refl c.call_cells-seen.ensures.begun.0 cells c.complete_question-reply.result.1
          c.complete_question-reply.result.0 (cells.seat.seated.1 ∙ cells.seat.bounded) c.call_cells-seen.ensures.begun.1 done.cells done.answers).2;
    }

pub returns-in_default-clause-walked : goal.returns-in_default-clause-walked
returns-in_default-clause-walked g c =
    let seen = c.call_cells-seen.result in
    walked_here g.S.Trace.did c.args.form seen.cells.seat.seat.me.0.form seen.trace c.args.trace (c.call_cells-seen.ensures.form ∙ sym c.requires.form) c.call_cells-seen.ensures.trace (Asked c.args.ask) c.complete_question-reply.result.0 c.complete_question-reply.result.2
    c.complete_question-reply.ensures.walked

pub returns-in_default-clause-answers : goal.returns-in_default-clause-answers
returns-in_default-clause-answers g c =
    subst (λ (f : QueueForm). MayAnswer f c.args.ask c.complete_question-reply.result.0) (c.call_cells-seen.ensures.form ∙ sym c.requires.form) c.complete_question-reply.ensures.answers
