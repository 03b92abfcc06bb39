use Rattle.std.specs.Prelude.{◌≡◌, ◌<◌, ◌+◌, ◌∷◌}
use Rattle.channel_world.proofs.Lemmas.{arith, Bool, false, List, [], ◌∙◌, length, vec_len, None, inr, refl, sym, ap, subst, RanTo, Entry, ran_leads, refused_of, AreSilent, EndsWithAnswer, IsRefused, StepsOnce, ran_none, Step, Ended, ended_refused, ended_well, not_silent, answer_ends, once_silent, none_written, party_more, silent_ends, silent_more, some_written, world_state_of}
use Rattle.std.proofs.lemmas.Grind.{common_steps}
use Rattle.channel_world_model.specs.declared.refusal.WorldRefusal.TheVariants.{NoMemory}
use Rattle.channel_world.proofs.HeadlineFacts.{headline, ends_in_front, counted}
use Rattle.channel_world.proofs.world.World.run_party.Given.{Over}
use Rattle.channel_world.proofs.world.World.run_party.Goals as goal

pub loop-made-init : goal.loop-made-init
loop-made-init g c =
    let none = c.new-trace.ensures.items in
    record {
      count = ap (λ (t : List (Entry g.row.T.Denot)). length t) none;
      ran = subst (λ (t : List (Entry g.row.T.Denot)). RanTo [] [] (world_state_of c.args.self.now) t (world_state_of c.args.self.now)) (sym none) (ran_none []
          (world_state_of c.args.self.now));
      silent = subst (λ (t : List (Entry g.row.T.Denot)). AreSilent t) (sym none) tt;
      at_work = λ some. absurd (let long = ap (λ (t : List (Entry g.row.T.Denot)). length t) none in omega (arith, long, some));
      unmoved = λ e. refl;
      stands = c.keeps.ensures;
      empty = c.new-steps.ensures.items;
    }

ended_roomless : (g : Over) (c : goal.After-drop-steps-then-not-have_room g) → Ended c.args.party (world_state_of c.args.self.now) c.stopped.result.trace.items c.stopped.result.stopped (world_state_of c.loop-made.self)
ended_roomless g c =
    let trace = c.loop-made.trace.items in
    let some : 0 < length trace = some_written (vec_len c.have_room.new.trace) c.have_room.new.trace.items trace
    (sym c.is_empty.ensures ∙ c.if-is_empty.false) c.have_room.new.trace.ok.0 c.have_room.ensures.trace in
    ended_refused c.args.party c.loop-made._made (world_state_of c.args.self.now) trace (world_state_of c.loop-made.self) (world_state_of c.loop-made.self) NoMemory
    c.stopped.result.trace.items c.stopped.result.stopped (vec_len c.have_room.new.trace) c.loop-made.invariant.count
    c.loop-made.invariant.ran (ran_none (Step.Step c.args.party ∷ []) (world_state_of c.loop-made.self)) (inr (
      c.loop-made.invariant.at_work
          some,
      refl,
    ))
    (ap (λ t. t.items) c.stopped.ensures.trace ∙ c.have_room.ensures.trace) c.stopped.ensures.stopped
    (c.have_room.new.trace.ok.0 ∙ ap (λ (t : List (Entry g.row.T.Denot)). length t) c.have_room.ensures.trace)

pub returns-then-not-have_room-clause-headline : goal.returns-then-not-have_room-clause-headline
returns-then-not-have_room-clause-headline g c =
    let ended = ended_roomless g c in
    headline _ (refused_of c.args.party c.stopped.result.stopped) (world_state_of c.args.self.now) c.stopped.result.trace.items
    c.stopped.result.stopped (world_state_of c.loop-made.self) ended.ran ended.stops

pub returns-then-not-have_room-clause-answered : goal.returns-then-not-have_room-clause-answered
returns-then-not-have_room-clause-answered g c =
    subst (λ (t : List (Entry g.row.T.Denot)). EndsWithAnswer t c.stopped.result.stopped) (sym (ap (λ t. t.items)
    c.stopped.ensures.trace ∙ c.have_room.ensures.trace))
    (silent_ends c.loop-made.trace.items c.stopped.result.stopped c.loop-made.invariant.silent)

pub returns-then-not-have_room-clause-leads : goal.returns-then-not-have_room-clause-leads
returns-then-not-have_room-clause-leads g c =
    let ended = ended_roomless g c in
    record {
      on = ran_leads _ (refused_of c.args.party c.stopped.result.stopped) (world_state_of c.args.self.now) c.stopped.result.trace.items (world_state_of c.loop-made.self)
          ended.ran;
    }

pub returns-then-not-have_room-clause-messages : goal.returns-then-not-have_room-clause-messages
returns-then-not-have_room-clause-messages g c =
    let ended = ended_roomless g c in
    counted _ (refused_of c.args.party c.stopped.result.stopped) (world_state_of c.args.self.now) c.stopped.result.trace.items (world_state_of c.loop-made.self)
    ended.ran c.keeps.ensures

once_answered : (g : Over) (c : goal.After-drop-steps-then-answered g) → StepsOnce c.args.party c.loop-made.self c.loop-made.trace.items c.in-Ok.answered c.step_party.new.trace.items c.step_party.new.self
once_answered g c =
    subst (λ (t : List (Entry g.row.T.Denot)). StepsOnce c.args.party c.loop-made.self t c.in-Ok.answered
    c.step_party.new.trace.items c.step_party.new.self) c.have_room.ensures.trace c.in-Ok.ensures.made

one_longer : (g : Over) (c : goal.After-drop-steps-then-answered g) → length c.step_party.new.trace.items ≡ c.loop-made._made + 1
one_longer g c =
    let count = c.loop-made.invariant.count in
    let once = once_answered g c in
    let w = ap (λ (t : List (Entry g.row.T.Denot)). length t) once.written in
    grind (arith, common_steps, w, count)

ended_answered : (g : Over) (c : goal.After-drop-steps-then-answered g)
    → Ended c.args.party (world_state_of c.args.self.now) c.step_party.new.trace.items None (world_state_of c.step_party.new.self)
ended_answered g c =
    ended_well c.args.party (c.loop-made._made + 1) (world_state_of c.args.self.now) c.step_party.new.trace.items (world_state_of c.step_party.new.self) (one_longer g c)
    (party_more c.args.party c.loop-made._made (world_state_of c.args.self.now) c.loop-made.trace.items (world_state_of c.loop-made.self) c.in-Ok.answered
    c.step_party.new.trace.items (world_state_of c.step_party.new.self) c.loop-made.invariant.ran (once_answered g c))

pub returns-then-answered-clause-headline : goal.returns-then-answered-clause-headline
returns-then-answered-clause-headline g c =
    let ended = ended_answered g c in
    headline _ (refused_of c.args.party None) (world_state_of c.args.self.now) c.step_party.new.trace.items None (world_state_of c.step_party.new.self) ended.ran
    ended.stops

pub returns-then-answered-clause-answered : goal.returns-then-answered-clause-answered
returns-then-answered-clause-answered g c =
    let once = once_answered g c in
    subst (λ (t : List (Entry g.row.T.Denot)). EndsWithAnswer t None) (sym once.written)
    (answer_ends c.loop-made.trace.items once.entry c.loop-made.invariant.silent)

pub returns-then-answered-clause-leads : goal.returns-then-answered-clause-leads
returns-then-answered-clause-leads g c =
    let ended = ended_answered g c in
    record { on = ran_leads _ (refused_of c.args.party None) (world_state_of c.args.self.now) c.step_party.new.trace.items (world_state_of c.step_party.new.self) ended.ran }

pub returns-then-answered-clause-messages : goal.returns-then-answered-clause-messages
returns-then-answered-clause-messages g c =
    let ended = ended_answered g c in
    counted _ (refused_of c.args.party None) (world_state_of c.args.self.now) c.step_party.new.trace.items (world_state_of c.step_party.new.self) ended.ran
    c.keeps.ensures

pub returns-then-answered-clause-short : goal.returns-then-answered-clause-short
returns-then-answered-clause-short g c = λ none silent.
    let once = once_answered g c in
    absurd (not_silent c.loop-made.trace.items once.entry (sym c.if-answered.true ∙ once.told)
    (subst (λ (t : List (Entry g.row.T.Denot)). AreSilent t) once.written silent))

ended_refusing : (g : Over) (c : goal.After-drop-steps-in-Err g) → Ended c.args.party (world_state_of c.args.self.now) c.stopped-in-Err.result.trace.items c.stopped-in-Err.result.stopped
    (world_state_of c.step_party.new.self)
ended_refusing g c =
    let refused = (subst (λ (t : List (Entry g.row.T.Denot)). IsRefused c.args.party c.loop-made.self t c.in-Err.why
    c.step_party.new.trace.items c.step_party.new.self) c.have_room.ensures.trace c.in-Err.ensures.refused) in
    ended_refused c.args.party c.loop-made._made (world_state_of c.args.self.now) c.loop-made.trace.items (world_state_of c.loop-made.self) (world_state_of c.step_party.new.self)
    c.in-Err.why
    c.stopped-in-Err.result.trace.items c.stopped-in-Err.result.stopped (vec_len c.step_party.new.trace) c.loop-made.invariant.count
    c.loop-made.invariant.ran refused.ran refused.reason (ap (λ t. t.items) c.stopped-in-Err.ensures.trace ∙ refused.unwritten)
    c.stopped-in-Err.ensures.stopped
    (c.step_party.new.trace.ok.0 ∙ ap (λ (t : List (Entry g.row.T.Denot)). length t) refused.unwritten)

pub returns-in-Err-clause-headline : goal.returns-in-Err-clause-headline
returns-in-Err-clause-headline g c =
    let ended = ended_refusing g c in
    headline _ (refused_of c.args.party c.stopped-in-Err.result.stopped) (world_state_of c.args.self.now) c.stopped-in-Err.result.trace.items
    c.stopped-in-Err.result.stopped (world_state_of c.step_party.new.self) ended.ran ended.stops

pub returns-in-Err-clause-answered : goal.returns-in-Err-clause-answered
returns-in-Err-clause-answered g c =
    let refused = (subst (λ (t : List (Entry g.row.T.Denot)). IsRefused c.args.party c.loop-made.self t c.in-Err.why
    c.step_party.new.trace.items c.step_party.new.self) c.have_room.ensures.trace c.in-Err.ensures.refused) in
    subst (λ (t : List (Entry g.row.T.Denot)). EndsWithAnswer t c.stopped-in-Err.result.stopped) (sym (ap (λ t. t.items)
    c.stopped-in-Err.ensures.trace ∙ refused.unwritten))
    (silent_ends c.loop-made.trace.items c.stopped-in-Err.result.stopped c.loop-made.invariant.silent)

pub returns-in-Err-clause-leads : goal.returns-in-Err-clause-leads
returns-in-Err-clause-leads g c =
    let ended = ended_refusing g c in
    record {
      on = ran_leads _ (refused_of c.args.party c.stopped-in-Err.result.stopped) (world_state_of c.args.self.now) c.stopped-in-Err.result.trace.items
          (world_state_of c.step_party.new.self) ended.ran;
    }

pub returns-in-Err-clause-messages : goal.returns-in-Err-clause-messages
returns-in-Err-clause-messages g c =
    let ended = ended_refusing g c in
    counted _ (refused_of c.args.party c.stopped-in-Err.result.stopped) (world_state_of c.args.self.now) c.stopped-in-Err.result.trace.items
    (world_state_of c.step_party.new.self) ended.ran c.keeps.ensures

ended_at_most : (g : Over) (c : goal.After-drop-steps-2 g) → Ended c.args.party (world_state_of c.args.self.now) c.loop-made.trace.items None (world_state_of c.loop-made.self)
ended_at_most g c =
    ended_well c.args.party c.loop-made._made (world_state_of c.args.self.now) c.loop-made.trace.items (world_state_of c.loop-made.self) c.loop-made.invariant.count
    c.loop-made.invariant.ran

pub returns-clause-headline : goal.returns-clause-headline
returns-clause-headline g c =
    let ended = ended_at_most g c in
    headline _ (refused_of c.args.party None) (world_state_of c.args.self.now) c.loop-made.trace.items None (world_state_of c.loop-made.self) ended.ran ended.stops

pub returns-clause-answered : goal.returns-clause-answered
returns-clause-answered g c =
    silent_ends c.loop-made.trace.items None c.loop-made.invariant.silent

pub returns-clause-leads : goal.returns-clause-leads
returns-clause-leads g c =
    let ended = ended_at_most g c in
    record { on = ran_leads _ (refused_of c.args.party None) (world_state_of c.args.self.now) c.loop-made.trace.items (world_state_of c.loop-made.self) ended.ran }

pub returns-clause-messages : goal.returns-clause-messages
returns-clause-messages g c =
    let ended = ended_at_most g c in
    counted _ (refused_of c.args.party None) (world_state_of c.args.self.now) c.loop-made.trace.items (world_state_of c.loop-made.self) ended.ran c.keeps.ensures

pub loop-made-preserved : goal.loop-made-preserved
loop-made-preserved g c =
    let once = (subst (λ (b : Bool). StepsOnce c.args.party c.loop-made.self c.loop-made.trace.items b
    c.step_party.new.trace.items c.step_party.new.self) c.if-answered.false
    (subst (λ (t : List (Entry g.row.T.Denot)). StepsOnce c.args.party c.loop-made.self t c.in-Ok.answered
    c.step_party.new.trace.items c.step_party.new.self) c.have_room.ensures.trace c.in-Ok.ensures.made)) in
    let quiet = once_silent c.args.party (world_state_of c.loop-made.self) c.loop-made.trace.items c.step_party.new.trace.items
    (world_state_of c.step_party.new.self) once in
    let count = c.loop-made.invariant.count in
    let long : length c.step_party.new.trace.items ≡ c.loop-made._made + 1 =
    (let w = ap (λ (t : List (Entry g.row.T.Denot)). length t) once.written in grind (arith, common_steps, w, count)) in
    record {
      count = long;
      ran = party_more c.args.party c.loop-made._made (world_state_of c.args.self.now) c.loop-made.trace.items (world_state_of c.loop-made.self) false
          c.step_party.new.trace.items (world_state_of c.step_party.new.self) c.loop-made.invariant.ran once;
      silent = subst (λ (t : List (Entry g.row.T.Denot)). AreSilent t) (sym once.written)
          (silent_more c.loop-made.trace.items once.entry c.loop-made.invariant.silent quiet);
      at_work = λ some. once.goes_on quiet;
      unmoved = λ e. absurd (omega (arith, long, e));
      stands = c.step_party.ensures.stands;
      empty = c.step_party.ensures.empty;
    }

pub returns-then-is_empty-clause-stands : goal.returns-then-is_empty-clause-stands
returns-then-is_empty-clause-stands g c = c.loop-made.invariant.stands

pub returns-then-is_empty-clause-unchanged : goal.returns-then-is_empty-clause-unchanged
returns-then-is_empty-clause-unchanged g c =
    c.loop-made.invariant.unmoved (none_written (vec_len c.have_room.new.trace) c.have_room.new.trace.items
    c.loop-made.trace.items (sym c.is_empty.ensures ∙ c.if-is_empty.true) c.have_room.new.trace.ok.0 c.have_room.ensures.trace)

pub returns-then-answered-clause-within : goal.returns-then-answered-clause-within
returns-then-answered-clause-within g c =
    let long = one_longer g c in
    let below = c.loop-made-test.true in
    omega (arith, long, below)

pub returns-then-not-have_room-clause-soon : goal.returns-then-not-have_room-clause-soon
returns-then-not-have_room-clause-soon g c =
    λ s stands party free. ends_in_front _ _ c.args.self.now _ _ _ s (returns-then-not-have_room-clause-headline g c s stands) party free

pub returns-then-not-have_room-clause-the_end : goal.returns-then-not-have_room-clause-the_end
returns-then-not-have_room-clause-the_end g c =
    (returns-then-not-have_room-clause-headline g c c.keeps.ensures.configuration c.keeps.ensures.stands).after_the_end

pub returns-then-answered-clause-soon : goal.returns-then-answered-clause-soon
returns-then-answered-clause-soon g c =
    λ s stands party free. ends_in_front _ _ c.args.self.now _ _ _ s (returns-then-answered-clause-headline g c s stands) party free

pub returns-then-answered-clause-the_end : goal.returns-then-answered-clause-the_end
returns-then-answered-clause-the_end g c =
    (returns-then-answered-clause-headline g c c.keeps.ensures.configuration c.keeps.ensures.stands).after_the_end

pub returns-in-Err-clause-soon : goal.returns-in-Err-clause-soon
returns-in-Err-clause-soon g c =
    λ s stands party free. ends_in_front _ _ c.args.self.now _ _ _ s (returns-in-Err-clause-headline g c s stands) party free

pub returns-in-Err-clause-the_end : goal.returns-in-Err-clause-the_end
returns-in-Err-clause-the_end g c =
    (returns-in-Err-clause-headline g c c.keeps.ensures.configuration c.keeps.ensures.stands).after_the_end

pub returns-clause-soon : goal.returns-clause-soon
returns-clause-soon g c =
    λ s stands party free. ends_in_front _ _ c.args.self.now _ _ _ s (returns-clause-headline g c s stands) party free

pub returns-clause-the_end : goal.returns-clause-the_end
returns-clause-the_end g c =
    (returns-clause-headline g c c.keeps.ensures.configuration c.keeps.ensures.stands).after_the_end
