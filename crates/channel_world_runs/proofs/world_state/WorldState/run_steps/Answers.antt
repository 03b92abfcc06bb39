use Rattle.std.specs.Prelude.{◌≡◌, ◌∷◌, ◌++◌}
use Rattle.channel_world_runs.proofs.Lemmas.{◌∙◌, None, vec_len, refl, sym, ap, subst, inr, option_to_list, agents_of, name_state_of, step_refusal, MayStopAt}
use Rattle.channel_world_runs.proofs.WorldStateFacts.{names_same, ran_none, ran_more, ran_same, stops_here, stops_back, stops_at_end, first_is}
use Rattle.channel_world_runs.proofs.world_state.WorldState.run_steps.Goals as goal

pub loop-step-init : goal.loop-step-init
loop-step-init g c =
    rw c.new-trace.ensures.items (ran_none c.args.steps.now.items c.args.self.now)

pub returns-in-Some-stop-clause-ran : goal.returns-in-Some-stop-clause-ran
returns-in-Some-stop-clause-ran g c = rw (c.stopped.ensures.trace, c.stop.ensures.items) c.loop-step.invariant

pub returns-in-Some-stop-clause-stopped : goal.returns-in-Some-stop-clause-stopped
returns-in-Some-stop-clause-stopped g c =
    stops_here (name_state_of c.loop-step.self) c.loop-step.steps.items c.in-Some.step.now _ _ c.in-Some-stop.why _
    c.in-Some.ensures.item.0 c.in-Some.ensures.lookup (ap (λ t. vec_len t) c.stopped.ensures.trace) c.stopped.ensures.stopped
    c.in-Some-stop.ensures.why

pub loop-step-preserved : goal.loop-step-preserved
loop-step-preserved g c =
    let in_front : c.loop-step.steps.items ≡ c.unwrap-step.result ∷ c.pop_front.new.self.items =
    c.pop_front.ensures.items ∙ ap (λ o. option_to_list o ++ c.pop_front.new.self.items) c.unwrap-step.ensures in
    rw (c.push_reserved.ensures.items, c.stop.ensures.items)
    (ran_more c.args.steps.now.items c.pop_front.new.self.items c.unwrap-step.result c.args.self.now c.loop-step.trace.items
    c.loop-step.self c.in-Ok.entry c.turn.new.self (rw (sym in_front) c.loop-step.invariant) c.in-Ok.ensures.ok)

pub returns-in-Err-clause-ran : goal.returns-in-Err-clause-ran
returns-in-Err-clause-ran g c =
    let in_front : c.loop-step.steps.items ≡ c.unwrap-step.result ∷ c.pop_front.new.self.items =
    c.pop_front.ensures.items ∙ ap (λ o. option_to_list o ++ c.pop_front.new.self.items) c.unwrap-step.ensures in
    let back : c.push_front_reserved.new.self.items ≡ c.loop-step.steps.items =
    c.push_front_reserved.ensures.items ∙ (ap (λ x. x ∷ c.pop_front.new.self.items) c.in-Err.ensures.back ∙ sym in_front) in
    rw (c.stopped-in-Err.ensures.trace, c.stop.ensures.items)
    (ran_same c.args.steps.now.items c.loop-step.steps.items c.push_front_reserved.new.self.items c.args.self.now
    c.loop-step.trace.items c.loop-step.self c.turn.new.self back c.in-Err.ensures.err c.loop-step.invariant)

pub returns-in-Err-clause-stopped : goal.returns-in-Err-clause-stopped
returns-in-Err-clause-stopped g c =
    let in_front : c.loop-step.steps.items ≡ c.unwrap-step.result ∷ c.pop_front.new.self.items =
    c.pop_front.ensures.items ∙ ap (λ o. option_to_list o ++ c.pop_front.new.self.items) c.unwrap-step.ensures in
    let why : MayStopAt (name_state_of c.loop-step.self) c.in-Some.step.now None =
    subst (λ o. MayStopAt (name_state_of c.loop-step.self) c.in-Some.step.now o) c.in_default-stop.is c.stop.ensures.why in
    let free : step_refusal c.loop-step.self.name_table (agents_of c.loop-step.self) c.unwrap-step.result ≡ None =
    subst (λ x. step_refusal c.loop-step.self.name_table (agents_of c.loop-step.self) x ≡ None)
    (first_is c.loop-step.steps.items c.in-Some.step.now c.unwrap-step.result c.pop_front.new.self.items
    c.in-Some.ensures.lookup in_front) why in
    let back : c.push_front_reserved.new.self.items ≡ c.unwrap-step.result ∷ c.pop_front.new.self.items =
    c.push_front_reserved.ensures.items ∙ ap (λ x. x ∷ c.pop_front.new.self.items) c.in-Err.ensures.back in
    rw (names_same c.loop-step.self c.turn.new.self c.in-Err.ensures.err)
    (stops_back (name_state_of c.loop-step.self) c.push_front_reserved.new.self.items c.pop_front.new.self.items c.unwrap-step.result _
    _ _ _ back (ap (λ t. vec_len t) c.stopped-in-Err.ensures.trace) c.stopped-in-Err.ensures.stopped (inr (free, refl)))

pub returns-clause-ran : goal.returns-clause-ran
returns-clause-ran g c = c.loop-step.invariant

pub returns-clause-stopped : goal.returns-clause-stopped
returns-clause-stopped g c =
    stops_at_end (name_state_of c.loop-step.self) c.loop-step.steps.items (vec_len c.loop-step.trace) c.in_default.ensures.item.0
