use Rattle.std.specs.Prelude.{◌≡◌, ◌∷◌, ◌++◌}
use Rattle.channel_world.proofs.Lemmas.{arith, List, [], ◌∙◌, length, vec_len, None, Some, refl, sym, ap, subst, option_to_list, name_state_of, Stands, StopsAt, RanTo, Entry, Step, first_of, one_made, none_made, world_state_of}
use Rattle.channel_world.proofs.world.World.step_party.Goals as goal

pub returns-in-Some-clause-refused : goal.returns-in-Some-clause-refused
returns-in-Some-clause-refused g c =
    let run = c.make_steps-run in
    let left = run.new.steps.items in
    let trace = run.result.trace.items in
    let x : Step g.row.T.Denot = Step.Step c.args.party in
    let before : Stands (world_state_of c.args.self.now) = c.keeps.ensures in
    let pushed : c.push_back_reserved.new.self.items ≡ x ∷ [] =
    c.push_back_reserved.ensures.items ∙ ap (λ (l : List (Step g.row.T.Denot)). l ++ x ∷ []) c.requires.empty in
    let ran : RanTo (x ∷ []) left (world_state_of c.args.self.now) trace (world_state_of run.new.self) =
    subst (λ (l : List (Step g.row.T.Denot)). RanTo l left (world_state_of c.args.self.now) trace (world_state_of run.new.self)) pushed run.ensures.ran in
    let stops : StopsAt (name_state_of (world_state_of run.new.self)) left (length trace) (Some c.in-Some.stopped) =
    subst (λ n. StopsAt (name_state_of (world_state_of run.new.self)) left n (Some c.in-Some.stopped)) run.result.trace.ok.0
    (subst (λ o. StopsAt (name_state_of (world_state_of run.new.self)) left (vec_len run.result.trace) o) c.in-Some.is run.ensures.stopped) in
    let none = none_made c.args.party left (world_state_of c.args.self.now) trace c.in-Some.stopped (world_state_of run.new.self) before ran stops in
    record { unwritten = refl; ran = none.ran; reason = none.reason }

pub returns-clause-made : goal.returns-clause-made
returns-clause-made g c =
    let run = c.make_steps-run in
    let left = run.new.steps.items in
    let trace = run.result.trace.items in
    let x : Step g.row.T.Denot = Step.Step c.args.party in
    let before : Stands (world_state_of c.args.self.now) = c.keeps.ensures in
    let pushed : c.push_back_reserved.new.self.items ≡ x ∷ [] =
    c.push_back_reserved.ensures.items ∙ ap (λ (l : List (Step g.row.T.Denot)). l ++ x ∷ []) c.requires.empty in
    let ran : RanTo (x ∷ []) left (world_state_of c.args.self.now) trace (world_state_of run.new.self) =
    subst (λ (l : List (Step g.row.T.Denot)). RanTo l left (world_state_of c.args.self.now) trace (world_state_of run.new.self)) pushed run.ensures.ran in
    let used : left ≡ [] = subst (λ o. StopsAt (name_state_of (world_state_of run.new.self)) left (vec_len run.result.trace) o) c.in_default.is
    run.ensures.stopped in
    let one = one_made c.args.party left (world_state_of c.args.self.now) trace (world_state_of run.new.self) before ran used in
    let entry : Entry g.row.T.Denot = c.unwrap-entry.result in
    let popped : one.entry ∷ [] ≡ c.pop.new.self.items ++ entry ∷ [] = sym one.entries ∙ (c.pop.ensures.items ∙ ap (λ o. c.pop.new.self.items ++ option_to_list o) c.unwrap-entry.ensures) in
    let same : entry ≡ one.entry = cc (first_of one.entry entry c.pop.new.self.items [] popped).1 in
    record {
      entry = entry;
      written = c.push_reserved.ensures.items;
      told = c.is_some-answered.ensures;
      ran = subst (λ (e : Entry g.row.T.Denot). RanTo (x ∷ []) [] (world_state_of c.args.self.now) (e ∷ []) (world_state_of run.new.self)) (sym same) one.ran;
      goes_on = λ silent. one.goes_on (subst (λ (e : Entry g.row.T.Denot). e.reply ≡ None) same silent);
    }

pub unwrap-entry-requires : goal.unwrap-entry-requires
unwrap-entry-requires g c =
    let run = c.make_steps-run in
    let left = run.new.steps.items in
    let trace = run.result.trace.items in
    let x : Step g.row.T.Denot = Step.Step c.args.party in
    let before : Stands (world_state_of c.args.self.now) = c.keeps.ensures in
    let pushed : c.push_back_reserved.new.self.items ≡ x ∷ [] =
    c.push_back_reserved.ensures.items ∙ ap (λ (l : List (Step g.row.T.Denot)). l ++ x ∷ []) c.requires.empty in
    let ran : RanTo (x ∷ []) left (world_state_of c.args.self.now) trace (world_state_of run.new.self) =
    subst (λ (l : List (Step g.row.T.Denot)). RanTo l left (world_state_of c.args.self.now) trace (world_state_of run.new.self)) pushed run.ensures.ran in
    let used : left ≡ [] = subst (λ o. StopsAt (name_state_of (world_state_of run.new.self)) left (vec_len run.result.trace) o) c.in_default.is
    run.ensures.stopped in
    let one = one_made c.args.party left (world_state_of c.args.self.now) trace (world_state_of run.new.self) before ran used in
    let written : length trace ≡ 1 = ap (λ (t : List (Entry g.row.T.Denot)). length t) one.entries in
    let long : vec_len run.result.trace ≡ length trace = run.result.trace.ok.0 in
    c.pop.ensures.variant.1 (omega (arith, long, written))
