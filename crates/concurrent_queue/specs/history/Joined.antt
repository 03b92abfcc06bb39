-- Parties that have ended and were joined into a view: the view lists each of them once, with where it stood, and no other view lists it.
use Rattle.std.specs.Prelude.{◌≡◌, ◌⊎◌, ℕ, true, List, [], ◌∷◌}
use mathlib.Core.Option.{some}
use lib.ListN.{get_elem?}
use Rattle.concurrent_queue.specs.declared.history.rule.View.{View}

module _ {A : Type 0} where
  -- this party is listed
  abbrev pub Lists : ℕ → List (ℕ × A) → Type 0
  Lists p [] = ⊥
  Lists p (x ∷ xs) = (x.0 ≡ p) ⊎ Lists p xs

  -- no party is listed twice
  abbrev pub EachOnce : List (ℕ × A) → Type 0
  EachOnce [] = Unit {0}
  EachOnce (x ∷ xs) = (Lists x.0 xs → ⊥) × EachOnce xs

module _ {T A : Type 0} where
  -- a listed party stands there, and acts no more
  abbrev pub HasStood : List (View T A) → ℕ × A → Type 0
  HasStood views x = (u : View T A) × (get_elem? views x.0 ≡ some u) × (u.state ≡ x.1) × (u.spent ≡ true)

  abbrev pub AllStood : List (View T A) → List (ℕ × A) → Type 0
  AllStood views [] = Unit {0}
  AllStood views (x ∷ xs) = HasStood views x × AllStood views xs

  pub record IsJoined (views : List (View T A)) : Type 0 where
    pub stood : (j : ℕ) (v : View T A) → get_elem? views j ≡ some v → AllStood views v.over
    pub once : (j : ℕ) (v : View T A) → get_elem? views j ≡ some v → EachOnce v.over
    pub apart : (j k : ℕ) (v u : View T A) (p : ℕ) → get_elem? views j ≡ some v → get_elem? views k ≡ some u → Lists p v.over → Lists p u.over → j ≡ k
