-- A walk over a directory that counts those that pass.
use Rattle.std.specs.Prelude.{◌≡◌}
use Rattle.channel_world_runs.proofs.Words.{◌∙◌, ℕ, Bool, List, length, Bor, count_by, count_from_yields_List, YieldsList-from_filter, YieldsList-from_rest, length-filter}
use Rattle.std.specs.Map.Iter.{TakesFirst}
use Rattle.std.specs.Fn.{CalledAt}
use Rattle.std.specs.Iterator.{Drains}
use Rattle.std.specs.Iterator.Adapters.{filter_steps, filter_source, filter_callee}
use Rattle.std.specs.declared.iter.Filter.{Filter}
use denote.Param.Members.{Mut}

pub passed : {A X F : Type 0} {shows : A → X} {s : Filter (List X) F} (g : Mut F (Bor A × Unit {0}) Bool) (test : X → Bool) {f : F} (xs : List X) (r : ℕ)
    → filter_source s ≡ xs → filter_callee s ≡ f → ((x : A) (b : Bool) (q : F) → CalledAt g f x b q → (q ≡ f) × (b ≡ test (shows x)))
    → ((ys : List A) × Drains (filter_steps (TakesFirst shows) g) s ys × (r ≡ length ys)) → r ≡ count_by test xs
passed {A} {X} {F} {shows} {s} g test {f} xs r source callee calls ran =
    count_from_yields_List s r ran (YieldsList-from_filter g test (YieldsList-from_rest xs source) callee calls) ∙ length-filter test xs
