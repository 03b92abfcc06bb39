use Rattle.std.proofs.Common.{◌∙◌, ap}
use Rattle.concurrent_queue.proofs.CallBegins.{begun_stands}
use Rattle.concurrent_queue.proofs.HistoryCallsEnd.{cells_call_ends}
use Rattle.concurrent_queue.proofs.shared.witnessed.make.Goals as goal

pub complete-reply-requires : goal.complete-reply-requires
complete-reply-requires g c =
    let b = c.next_cells-cells.ensures in
    record { stands = begun_stands c.next_cells-cells.result.seat.seat.me.0 c.args.table.now.table.table.shared.table_id.slots c.args.ask (b.form ∙ c.args.table.now.table.bounded) (c.args.witness.seat.me.0.state, b.begun) c.new.result.state c.new.ensures.asked }

pub rest-after-requires : goal.rest-after-requires
rest-after-requires g c =
    let b = c.next_cells-cells.ensures in
    let done = c.complete-reply.ensures in
    let e = cells_call_ends c.args.table.now.table.table.shared.table_id.slots c.args.ask c.requires.cells c.new.result c.new.ensures.asked c.args.witness.seat.me.0.state _ _ _ (b.form ∙ c.args.table.now.table.bounded) b.begun done.walked done.answers in
    record { rests = e.2 }

pub returns-clause-rests : goal.returns-clause-rests
returns-clause-rests g c =
    let b = c.next_cells-cells.ensures in
    let done = c.complete-reply.ensures in
    let e = cells_call_ends c.args.table.now.table.table.shared.table_id.slots c.args.ask c.requires.cells c.new.result c.new.ensures.asked c.args.witness.seat.me.0.state _ _ _ (b.form ∙ c.args.table.now.table.bounded) b.begun done.walked done.answers in
    ap (λ s. s.me.0.state.call) c.rest-after.ensures ∙ e.2

pub returns-clause-same : goal.returns-clause-same
returns-clause-same g c =
    let b = c.next_cells-cells.ensures in
    let done = c.complete-reply.ensures in
    let e = cells_call_ends c.args.table.now.table.table.shared.table_id.slots c.args.ask c.requires.cells c.new.result c.new.ensures.asked c.args.witness.seat.me.0.state _ _ _ (b.form ∙ c.args.table.now.table.bounded) b.begun done.walked done.answers in
    ap (λ s. s.table_id) c.rest-after.ensures ∙ (e.1.0 ∙ (b.party.0 ∙ c.requires.same))

pub returns-clause-party : goal.returns-clause-party
returns-clause-party g c =
    let b = c.next_cells-cells.ensures in
    let done = c.complete-reply.ensures in
    let e = cells_call_ends c.args.table.now.table.table.shared.table_id.slots c.args.ask c.requires.cells c.new.result c.new.ensures.asked c.args.witness.seat.me.0.state _ _ _ (b.form ∙ c.args.table.now.table.bounded) b.begun done.walked done.answers in
    (ap (λ s. s.me.0.who) c.rest-after.ensures ∙ (e.1.1 ∙ b.party.1), ap (λ s. s.me.0.over) c.rest-after.ensures ∙ (e.1.2 ∙ b.party.2))

pub returns-clause-asked : goal.returns-clause-asked
returns-clause-asked g c =
    let b = c.next_cells-cells.ensures in
    let done = c.complete-reply.ensures in
    let e = cells_call_ends c.args.table.now.table.table.shared.table_id.slots c.args.ask c.requires.cells c.new.result c.new.ensures.asked c.args.witness.seat.me.0.state _ _ _ (b.form ∙ c.args.table.now.table.bounded) b.begun done.walked done.answers in
    ap (λ s. s.me.0.state.asked) c.rest-after.ensures ∙ e.3

pub returns-clause-answered : goal.returns-clause-answered
returns-clause-answered g c =
    let b = c.next_cells-cells.ensures in
    let done = c.complete-reply.ensures in
    let e = cells_call_ends c.args.table.now.table.table.shared.table_id.slots c.args.ask c.requires.cells c.new.result c.new.ensures.asked c.args.witness.seat.me.0.state _ _ _ (b.form ∙ c.args.table.now.table.bounded) b.begun done.walked done.answers in
    ap (λ s. s.me.0.state.replies) c.rest-after.ensures ∙ e.4
