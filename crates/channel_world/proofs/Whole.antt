-- One whole call: what the channel did alone is the answer of the model.
use Rattle.std.specs.Prelude.{◌≡◌, ◌≤◌}
use Rattle.channel_world.proofs.Lemmas.{arith, ℕ, List, [], None, Result, Ok, Err, IfOk, refl, sym, ap, subst, ◌∙◌, Reply, Outcome, Alone, none_under_way, no_agents, asks, name_state_of, Shown, agents_of, IsQuiet, Stands, WorldInvariant, name_state_alone, CallsAlone, WakesAtMost, NameState, WorldState, refusal, Answers, State, Call, Waiter, RefusalsAgree, LoneCallsAnswer, state_at, Configuration, at_rest, most_woken, few_woken, at_rest_is}
use Rattle.channel_world_runs.specs.Refusal as names
use Rattle.channel_world_model.specs.declared.run.Done.{Done}

module _ {T : Type 0} where
  module _ (agree : RefusalsAgree T) (f : WorldState T) (kept : Stands f) (quiet : IsQuiet f) (c : Call T) where
    abbrev nobody : agents_of f ≡ []
    nobody = no_agents f quiet

    -- why a call is refused
    pub refused_alike : names.begin_refusal f.name_table c ≡ refusal (at_rest f) c
    refused_alike =
        agree (name_state_of f) kept.configuration c kept.stands.kept nobody
        ∙ ap (λ (x : State T). refusal x c) (sym (at_rest_is f kept.configuration kept.stands.shown quiet))

    module _ (answer : LoneCallsAnswer T) (fine : refusal (at_rest f) c ≡ None) where
      accepted : names.begin_refusal f.name_table c ≡ None
      accepted = refused_alike ∙ fine

      -- whatever it does alone, the model allows
      allowed : (s t : Configuration T Waiter) (o : Outcome T Waiter) → Shown f s → WorldInvariant (name_state_of f) s
          → Alone (asks f.name_table c) s.now o → t.now ≡ o.channel
          → Answers (at_rest f) c (record { after = state_at (name_state_alone (name_state_of f) c o) t; reply = o.reply; woken = o.woken })
      allowed s t o sh k alone now =
          let a =
          answer (name_state_of f) s t c o k nobody (none_under_way f s quiet sh) accepted alone now in
          subst (λ (x : State T). Answers x c (record { after = state_at (name_state_alone (name_state_of f) c o) t; reply = o.reply; woken = o.woken }))
          (sym (at_rest_is f s sh quiet)) a

      -- it wakes no more than there is room for
      pub wakes_few : (room : ℕ) → most_woken c (at_rest f).waiting ≤ room → WakesAtMost room c f
      wakes_few room most s o sh k alone =
          let a = allowed s (record s { now = o.channel }) o sh k alone refl in
          let woken = few_woken (at_rest f) c _ a in
          omega (arith, woken, most)

      pub call_answers : (g : WorldState T) (x : Reply T) (woken : List Waiter) → IsQuiet g → CallsAlone c f x woken g
          → Answers (at_rest f) c (record { after = at_rest g; reply = x; woken = woken })
      call_answers g x woken still called =
          let k = kept.stands in
          let d = called kept.configuration k.shown k.kept in
          let a = allowed kept.configuration d.after d.outcome k.shown k.kept d.alone d.now in
          let after : at_rest g ≡ state_at (name_state_alone (name_state_of f) c d.outcome) d.after =
          at_rest_is g d.after d.shown still ∙ ap (λ (b : NameState T). state_at b d.after) d.name_state in
          rw (after, d.reply, d.woken) a

      -- where it was made
      pub answers_whatever : (g : WorldState T) (result : Result (Done T) (Call T)) → IsQuiet g
          → IfOk result (λ (d : Done T). CallsAlone c f d.reply d.woken.items g)
          → IfOk result (λ (d : Done T). Answers (at_rest f) c (record { after = at_rest g; reply = d.reply; woken = d.woken.items }))
      answers_whatever g (Ok d) still called = call_answers g d.reply d.woken.items still called
      answers_whatever g (Err x) still called = tt
