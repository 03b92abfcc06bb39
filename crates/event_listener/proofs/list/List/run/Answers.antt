use Rattle.std.proofs.Common.{◌≡◌, Some, None, ◌∷◌, ◌++◌, [], rules, refl, ap, ◌∙◌, arith, subst}
use Rattle.std.specs.Option.{option_to_list}
use Rattle.event_listener.specs.Runs.{Makes}
use Rattle.event_listener.proofs.RunLemmas.{run_ends, ends_in_front, ends_empty, goes_on_by}
use Rattle.event_listener.proofs.list.List.run.Goals as goal

pub returns-then-is_err : goal.returns-then-is_err
returns-then-is_err g c =
    record { run = run_ends g.S.Wakes.wakes (Some (record {})) c.loop-replies.invariant (ends_in_front c.loop-replies.calls.items (record {}) (search rules)) c.reserve.ensures.items }

pub loop-replies-preserved : goal.loop-replies-preserved
loop-replies-preserved g c =
    let in_front : c.loop-replies.calls.items ≡ c.unwrap-call.result ∷ c.pop_front.new.self.items = c.pop_front.ensures.items ∙ ap (λ o. option_to_list o ++ c.pop_front.new.self.items) c.unwrap-call.ensures in
    goes_on_by g.S.Wakes.wakes c.unwrap-call.result c.make-reply.result c.loop-replies.invariant in_front
    (subst (λ rs. Makes g.S.Wakes.wakes rs c.unwrap-call.result c.make-reply.result c.loop-replies.self c.loop-replies.sink c.make-reply.new.self c.make-reply.new.sink) c.reserve.ensures.items c.make-reply.ensures)
    (c.push_reserved.ensures.items ∙ ap (λ ds. ds ++ c.make-reply.result ∷ []) c.reserve.ensures.items)

pub returns : goal.returns
returns g c = record { run = run_ends g.S.Wakes.wakes None c.loop-replies.invariant (ends_empty c.loop-replies.calls.items (omega (arith, c.len.ensures, c.loop-replies-test.false))) refl }
