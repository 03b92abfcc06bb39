use Rattle.std.proofs.Common.{[], ◌∷◌, ◌++◌, ◌∙◌, Some, ap, refl}
use Rattle.concurrent_queue.specs.Bridge.{asking}
use Rattle.concurrent_queue.specs.history.Runs.{begun}
use Rattle.concurrent_queue.specs.declared.call.QueueAsk.TheVariants.{Pop}
use Rattle.concurrent_queue.specs.declared.call.QueueReply.TheVariants as reply
use Rattle.concurrent_queue.proofs.CallBegins.{begun_stands}
use Rattle.concurrent_queue.proofs.HistoryCallsEnd.{cells_call_ends}
use Rattle.concurrent_queue.specs.declared.queue_call.CallState.TheVariants.{Asked}
use Rattle.concurrent_queue.proofs.shared.witnessed.Witnessed.pop.Goals as goal

pub turn-requires : goal.turn-requires
turn-requires g c = record { next = (Pop, (ap (λ s. s.me.0.state.call) c.go_on-seat.ensures.same ∙ c.args.self.rests, refl)) }

pub pop-answer-requires : goal.pop-answer-requires
pop-answer-requires g c =
    let t = c.turn.ensures in
    let s = c.go_on-seat.ensures in
    record { stands = begun_stands c.turn.new.self.seat.me.0 c.args.self.table.now.table.table.shared.table_id.slots Pop (t.same.2 ∙ (s.form ∙ c.args.self.table.now.table.bounded)) (c.go_on-seat.result.seat.me.0.state, t.made) (Asked Pop) refl }

pub rest-witness-requires : goal.rest-witness-requires
rest-witness-requires g c =
    let t = c.turn.ensures in
    let s = c.go_on-seat.ensures in
    let done = c.pop-answer.ensures in
    let e = cells_call_ends c.args.self.table.now.table.table.shared.table_id.slots Pop tt (asking Pop) refl c.go_on-seat.result.seat.me.0.state _ _ _ (t.same.2 ∙ (s.form ∙ c.args.self.table.now.table.bounded)) t.made done.walked tt in
    record { rests = e.2 }

pub invariant_of-result : goal.invariant_of-result
invariant_of-result g c =
    let t = c.turn.ensures in
    let s = c.go_on-seat.ensures in
    let done = c.pop-answer.ensures in
    let e = cells_call_ends c.args.self.table.now.table.table.shared.table_id.slots Pop tt (asking Pop) refl c.go_on-seat.result.seat.me.0.state _ _ _ (t.same.2 ∙ (s.form ∙ c.args.self.table.now.table.bounded)) t.made done.walked tt in
    let end = c.rest-witness.ensures in
    record { same = ap (λ x. x.table_id) end ∙ (e.1.0 ∙ (t.same.0 ∙ (ap (λ x. x.table_id) s.same ∙ c.args.self.same))); rests = ap (λ x. x.me.0.state.call) end ∙ e.2 }

pub returns : goal.returns
returns g c =
    let t = c.turn.ensures in
    let s = c.go_on-seat.ensures in
    let done = c.pop-answer.ensures in
    let e = cells_call_ends c.args.self.table.now.table.table.shared.table_id.slots Pop tt (asking Pop) refl c.go_on-seat.result.seat.me.0.state _ _ _ (t.same.2 ∙ (s.form ∙ c.args.self.table.now.table.bounded)) t.made done.walked tt in
    let end = c.rest-witness.ensures in
    record {
      called = (
        ap (λ x. x.me.0.state.asked) end ∙ (e.3 ∙ ap (λ x. (begun Pop x.me.0.state).asked) s.same),
        ap (λ x. x.me.0.state.replies) end ∙ (e.4 ∙ ap (λ x. x.me.0.state.replies ++ reply.Pop c.pop-answer.result.0 ∷ []) s.same),
        (
          ap (λ x. Some x.table_id) end ∙ ap Some (e.1.0 ∙ (t.same.0 ∙ ap (λ x. x.table_id) s.same)),
          ap (λ x. x.me.0.who) end ∙ (e.1.1 ∙ (t.same.1 ∙ ap (λ x. x.me.0.who) s.same)),
          ap (λ x. x.me.0.over) end ∙ (e.1.2 ∙ (t.same.3 ∙ ap (λ x. x.me.0.over) s.same)),
        ),
      );
    }
