-- A walk over a list that counts those that pass.
use Rattle.std.specs.Prelude.{◌≡◌}
use Rattle.channel_world.proofs.Words.{◌∙◌, ℕ, Bool, List, length, Bor, Iter, subst, count_by, iter_rest, iter_steps, length-filter}
use Rattle.std.proofs.lemmas.Iterator.{YieldsList}
use Rattle.std.proofs.lemmas.Iterator.Consumers.{count_from_yields_List, YieldsList-from_filter, YieldsList-from_shown}
use Rattle.std.specs.Fn.{CalledAt}
use Rattle.std.specs.Iterator.{Drains}
use Rattle.std.specs.Iterator.Adapters.{filter_steps, filter_source, filter_callee}
use Rattle.std.specs.declared.iter.Filter.{Filter}
use denote.Param.Members.{Mut}

pub counted : {X F : Type 0} {s : Filter (Iter X) F} (g : Mut F (Bor (Bor X) × Unit {0}) Bool) (test : X → Bool) {f : F} (xs : List X) (r : ℕ)
    → iter_rest (filter_source s) ≡ xs → filter_callee s ≡ f → ((x : Bor X) (b : Bool) (q : F) → CalledAt g f x b q → (q ≡ f) × (b ≡ test x.now))
    → ((ys : List (Bor X)) × Drains (filter_steps iter_steps g) s ys × (r ≡ length ys)) → r ≡ count_by test xs
counted {X} {F} {s} g test {f} xs r source callee calls ran =
    count_from_yields_List s r ran
    (YieldsList-from_filter g test
    (subst (YieldsList iter_steps (λ x. x.now) (filter_source s)) source
    (YieldsList-from_shown iter_steps (λ x. x.now) iter_rest (λ t u h. h.0) (λ t x u h. h) (filter_source s))) callee calls)
    ∙ length-filter test xs
