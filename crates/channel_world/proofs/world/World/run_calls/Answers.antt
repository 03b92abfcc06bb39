use Rattle.std.specs.Prelude.{◌≡◌, ◌∷◌, ◌++◌}
use Rattle.channel_world.proofs.Lemmas.{arith, Some, None, [], rules, refl, ap, ◌∙◌, option_to_list, refusal, goes_on_empty, stop_in_front, stop_at_end, run_ends, run_ends_full, goes_on_by, leads_nowhere, stands_led, at_rest, WorldRefusal, leads_same, leads_answered, leads_still, calls_made, calls_used_up, world_state_of}
use Rattle.channel_world.proofs.world.World.run_calls.Goals as goal

pub loop-call-init : goal.loop-call-init
loop-call-init g c = record {
  run = goes_on_empty (at_rest (world_state_of c.args.self.now)) c.args.calls.now.items c.new-done.result.items c.new-done.ensures.items;
  quiet = c.requires.quiet;
  leads = leads_same (world_state_of c.args.self.now) (world_state_of c.args.self.now) [] c.new-done.result.items c.new-done.ensures.items (leads_nowhere (world_state_of c.args.self.now));
}

pub returns-in-Some-stop-clause-leads : goal.returns-in-Some-stop-clause-leads
returns-in-Some-stop-clause-leads g c = record {
  on = leads_same (world_state_of c.args.self.now) (world_state_of c.loop-call.self) c.loop-call.done.items _ c.in-Some-stop.ensures.items c.loop-call.invariant.leads;
}

pub returns-in-Some-stop-clause-stands : goal.returns-in-Some-stop-clause-stands
returns-in-Some-stop-clause-stands g c = stands_led (world_state_of c.args.self.now) (world_state_of c.loop-call.self) _ c.keeps.ensures c.loop-call.invariant.leads

pub returns-in-Some-stop-clause-run : goal.returns-in-Some-stop-clause-run
returns-in-Some-stop-clause-run g c =
    run_ends (Some c.in-Some-stop.why) c.loop-call.invariant.run
    (stop_in_front (at_rest (world_state_of c.loop-call.self)) c.loop-call.calls.items c.in-Some.call.now c.in-Some-stop.why c.in-Some.ensures.item.0 c.in-Some.ensures.lookup c.in-Some-stop.ensures.why)
    c.in-Some-stop.ensures.items

pub loop-call-preserved : goal.loop-call-preserved
loop-call-preserved g c =
    let in_front : c.loop-call.calls.items ≡ c.unwrap-call.result ∷ c.pop_front.new.self.items = c.pop_front.ensures.items ∙ ap (λ o. option_to_list o ++ c.pop_front.new.self.items) c.unwrap-call.ensures in
    let accepted : refusal (at_rest (world_state_of c.loop-call.self)) c.unwrap-call.result ≡ None = search rules in
    record {
      run = goes_on_by c.unwrap-call.result c.in-Ok.answer c.loop-call.invariant.run in_front accepted c.in-Ok.ensures.ok
          (c.push_reserved.ensures.items ∙ ap (λ ds. ds ++ c.in-Ok.answer ∷ []) c.stop.ensures.items);
      quiet = c.answer.ensures.quiet;
      leads = leads_answered (world_state_of c.args.self.now) (world_state_of c.loop-call.self) (world_state_of c.answer.new.self) c.loop-call.done.items _ c.in-Ok.answer
          (c.push_reserved.ensures.items ∙ ap (λ ds. ds ++ c.in-Ok.answer ∷ []) c.stop.ensures.items) c.loop-call.invariant.leads c.in-Ok.ensures.leads;
    }

pub returns-in-Err-clause-leads : goal.returns-in-Err-clause-leads
returns-in-Err-clause-leads g c = record {
  on = leads_still (world_state_of c.args.self.now) (world_state_of c.loop-call.self) (world_state_of c.answer.new.self) c.loop-call.done.items _ c.stop.ensures.items c.loop-call.invariant.leads
      c.in-Err.ensures.leads;
}

pub returns-in-Err-clause-stands : goal.returns-in-Err-clause-stands
returns-in-Err-clause-stands g c =
    stands_led (world_state_of c.args.self.now) (world_state_of c.answer.new.self) _ c.keeps.ensures (returns-in-Err-clause-leads g c).on

pub returns-clause-leads : goal.returns-clause-leads
returns-clause-leads g c = record { on = c.loop-call.invariant.leads }

pub returns-clause-stands : goal.returns-clause-stands
returns-clause-stands g c = stands_led (world_state_of c.args.self.now) (world_state_of c.loop-call.self) _ c.keeps.ensures c.loop-call.invariant.leads

pub returns-in-Err-clause-run : goal.returns-in-Err-clause-run
returns-in-Err-clause-run g c =
    let in_front : c.loop-call.calls.items ≡ c.unwrap-call.result ∷ c.pop_front.new.self.items = c.pop_front.ensures.items ∙ ap (λ o. option_to_list o ++ c.pop_front.new.self.items) c.unwrap-call.ensures in
    let accepted : refusal (at_rest (world_state_of c.loop-call.self)) c.unwrap-call.result ≡ None = search rules in
    let back : c.push_front_reserved.new.self.items ≡ c.unwrap-call.result ∷ c.pop_front.new.self.items = c.push_front_reserved.ensures.items ∙ ap (λ x. x ∷ c.pop_front.new.self.items) c.in-Err.ensures.back in
    run_ends_full c.unwrap-call.result c.loop-call.invariant.run in_front accepted c.stop.ensures.items back c.in-Err.ensures.err

pub returns-clause-run : goal.returns-clause-run
returns-clause-run g c = run_ends None c.loop-call.invariant.run (stop_at_end (at_rest (world_state_of c.loop-call.self)) c.loop-call.calls.items c.in_default.ensures.item.0) refl

pub returns-clause-used_up : goal.returns-clause-used_up
returns-clause-used_up g c =
    λ none. calls_used_up (at_rest (world_state_of c.args.self.now)) c.args.calls.now.items c.loop-call.done.items c.loop-call.calls.items
    (at_rest (world_state_of c.loop-call.self)) (returns-clause-run g c)

pub returns-clause-made : goal.returns-clause-made
returns-clause-made g c =
    let all = calls_made (at_rest (world_state_of c.args.self.now)) c.args.calls.now.items c.loop-call.done.items None c.loop-call.calls.items
    (at_rest (world_state_of c.loop-call.self)) (returns-clause-run g c) in
    let count = c.loop-call.done.ok.0 in
    omega (arith, all, count)

pub returns-in-Some-stop-clause-made : goal.returns-in-Some-stop-clause-made
returns-in-Some-stop-clause-made g c =
    let done = c.stop.new.done in
    let all = calls_made (at_rest (world_state_of c.args.self.now)) c.args.calls.now.items done.items (Some c.in-Some-stop.why) c.loop-call.calls.items
    (at_rest (world_state_of c.loop-call.self)) (returns-in-Some-stop-clause-run g c) in
    let count = done.ok.0 in
    omega (arith, all, count)

pub returns-in-Err-clause-made : goal.returns-in-Err-clause-made
returns-in-Err-clause-made g c =
    let done = c.stop.new.done in
    let all = calls_made (at_rest (world_state_of c.args.self.now)) c.args.calls.now.items done.items (Some WorldRefusal.NoMemory) c.push_front_reserved.new.self.items
    (at_rest (world_state_of c.answer.new.self)) (returns-in-Err-clause-run g c) in
    let count = done.ok.0 in
    omega (arith, all, count)
