-- The text of a settling; and that where no growth was refused, settling is what the definitions compute.
use Rattle.std.specs.Prelude.{◌≡◌, ◌≤◌, ◌+◌, ◌*◌, ◌/◌, ◌||◌, ◌∷◌, ◌++◌}
use Rattle.channel_world.proofs.Lemmas.{arith, ℕ, zero, suc, List, [], length, Bool, true, false, slice_get, codes, refl, sym, ap, subst, ◌∙◌, length-map, decimal, option_map_or, list_any, Reply, Answer, answer, poll_of, Settles, pending_count, State, Waiter, ScriptScene, Obeyed, settled, settles, waiting_count, polls_in, Table, parted, settle_text, wants_growth, AreAmple, Settled, is_ample}

-- ---- lists

-- ---- the text

pub written : (table : Table) (polls : List (Settled ℕ))
    → codes "polls " ++ decimal (length polls) ++ parted table (polls_in polls) ≡ settle_text table (polls_in polls)
written table polls =
    ap (λ n. codes "polls " ++ decimal n ++ parted table (polls_in polls)) (sym (length-map polls (λ (q : Settled ℕ). (q.name, q.reply))))

-- ---- the settling

ample_settles : (n : ℕ) (s t : State ℕ) (ps : List (Settled ℕ)) → length ps ≤ n → Settles s (polls_in ps) t → AreAmple ps
    → settled n s ≡ (polls_in ps, t)
ample_settles zero s t [] h (none, same) w = ap (λ x. ([], x)) (sym same)
ample_settles (suc n) s t [] h (none, same) w =
    let next : Waiter → List (Waiter × Reply ℕ) × State ℕ =
    λ v. let a = answer s (poll_of v) in let rest = settled n a.after in ((v, a.reply) ∷ rest.0, rest.1) in
    ap (λ (ws : List Waiter). option_map_or next (slice_get ws 0) ([], s)) none ∙ ap (λ x. ([], x)) (sym same)
ample_settles zero s t (p ∷ ps) h more w = absurd (omega (arith, h))
ample_settles (suc n) s t (p ∷ ps) h (front, (mid, names, answers, more)) w =
    let first : wants_growth p.reply ≡ false = (apart (wants_growth p.reply) w).0 in
    let rest : AreAmple ps = (apart (wants_growth p.reply) w).1 in
    let is : record { after = mid; reply = p.reply; woken = names } ≡ answer s (poll_of p.name) = is_ample s (poll_of p.name) _ answers first in
    let on : settled n mid ≡ (polls_in ps, t) = ample_settles n mid t ps (omega (arith, h)) more rest in
    let so : Answer ℕ → List (Waiter × Reply ℕ) × State ℕ = λ a. ((p.name, a.reply) ∷ (settled n a.after).0, (settled n a.after).1) in
    let behind : List (Waiter × Reply ℕ) × State ℕ → List (Waiter × Reply ℕ) × State ℕ = λ d. ((p.name, p.reply) ∷ d.0, d.1) in
    let all : List (Waiter × Reply ℕ) × State ℕ = (polls_in (p ∷ ps), t) in
    rw front (subst (λ (a : Answer ℕ). so a ≡ all) is (ap behind on))
  where
    apart : (b : Bool) → (b || list_any (λ (q : Settled ℕ). wants_growth q.reply) ps) ≡ false
        → (b ≡ false) × (list_any (λ (q : Settled ℕ). wants_growth q.reply) ps ≡ false)
    apart true e = absurd (let no : true ≡ false = e in cc)
    apart false e = (refl, e)

halved : (n k : ℕ) → 2 * k ≤ n → k ≤ n / 2
halved n k h = omega (arith, h)

pub scene_settles : (scene : ScriptScene) (t : State ℕ) (polls : List (Settled ℕ))
    → 2 * length polls ≤ pending_count scene.state.waiting * (pending_count scene.state.waiting + 1)
    → Settles scene.state (polls_in polls) t → AreAmple polls
    → record { after = record scene { state = t }; line = settle_text scene.table (polls_in polls) } ≡ settles scene
scene_settles scene t polls few so ample =
    let w = waiting_count scene.state in
    let done = ample_settles (w * (w + 1) / 2) scene.state t polls (halved (w * (w + 1)) (length polls) few) so ample in
    let said : List (Waiter × Reply ℕ) × State ℕ → Obeyed = λ d. record { after = record scene { state = d.1 }; line = settle_text scene.table d.0 } in
    sym (ap said done)
