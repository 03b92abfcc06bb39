use Rattle.std.proofs.Common.{◌∙◌, ap, refl, subst}
use Rattle.concurrent_queue.specs.Bridge.{asking}
use Rattle.concurrent_queue.specs.Replies.{MayAnswer}
use Rattle.concurrent_queue.specs.declared.cells.QueueForm.{QueueForm}
use Rattle.concurrent_queue.specs.declared.queue_call.CallState.TheVariants.{Asked}
use Rattle.concurrent_queue.proofs.CallBegins.{begun_stands}
use Rattle.concurrent_queue.proofs.HistoryCallsEnd.{cells_call_ends}
use Rattle.concurrent_queue.proofs.shared.witnessed.tell.Goals as goal

pub tell-reply-requires : goal.tell-reply-requires
tell-reply-requires g c =
    let b = c.next_cells-cells.ensures in
    record {
      words = c.requires.words;
      stands = begun_stands c.next_cells-cells.result.seat.seat.me.0 c.args.table.now.table.table.shared.table_id.slots c.args.ask (b.form ∙ c.args.table.now.table.bounded) (c.args.witness.seat.me.0.state, b.begun) (Asked c.args.ask) refl;
    }

pub rest-requires : goal.rest-requires
rest-requires g c =
    let b = c.next_cells-cells.ensures in
    let done = c.tell-reply.ensures in
    let e = cells_call_ends c.args.table.now.table.table.shared.table_id.slots c.args.ask c.requires.cells (asking c.args.ask) refl c.args.witness.seat.me.0.state _ _ _ (b.form ∙ c.args.table.now.table.bounded) b.begun done.walked done.answers in
    record { rests = e.2 }

pub returns : goal.returns
returns g c =
    let b = c.next_cells-cells.ensures in
    let done = c.tell-reply.ensures in
    let e = cells_call_ends c.args.table.now.table.table.shared.table_id.slots c.args.ask c.requires.cells (asking c.args.ask) refl c.args.witness.seat.me.0.state _ _ _ (b.form ∙ c.args.table.now.table.bounded) b.begun done.walked done.answers in
    let end = c.rest.ensures in
    record {
      rests = ap (λ s. s.me.0.state.call) end ∙ e.2;
      same = ap (λ s. s.table_id) end ∙ (e.1.0 ∙ (b.party.0 ∙ c.requires.same));
      party = (ap (λ s. s.me.0.who) end ∙ (e.1.1 ∙ b.party.1), ap (λ s. s.me.0.over) end ∙ (e.1.2 ∙ b.party.2));
      asked = ap (λ s. s.me.0.state.asked) end ∙ e.3;
      answered = ap (λ s. s.me.0.state.replies) end ∙ e.4;
      answers = subst (λ (f : QueueForm). MayAnswer f c.args.ask c.tell-reply.result) b.form done.answers;
    }
