-- One call among others, in lists of calls under way.
use Rattle.std.proofs.Common.{◌≡◌, ℕ, ◌+◌, ◌≤◌, List, [], ◌∷◌, ◌++◌, refl, arith}
use Rattle.concurrent_queue.specs.machine.Places.{Place, Each, sum}

module _ {A T : Type 0} where
  pub sum_at : (f : A → ℕ) (l r : List (Place A T)) (p : Place A T) → sum f (l ++ p ∷ r) ≡ f p.action + sum f (l ++ r)
  sum_at f [] r p = refl
  sum_at f (x ∷ l) r p = omega (arith, sum_at f l r p)

  pub each_at : (P : Place A T → Type 0) (l r : List (Place A T)) (p : Place A T) → Each P (l ++ p ∷ r) → P p
  each_at P [] r p h = h.0
  each_at P (x ∷ l) r p h = each_at P l r p h.1

  pub each_others : (P : Place A T → Type 0) (l r : List (Place A T)) (p : Place A T) → Each P (l ++ p ∷ r) → Each P (l ++ r)
  each_others P [] r p h = h.1
  each_others P (x ∷ l) r p h = (h.0, each_others P l r p h.1)

  pub each_with : (P : Place A T → Type 0) (l r : List (Place A T)) (p : Place A T) → Each P (l ++ r) → P p → Each P (l ++ p ∷ r)
  each_with P [] r p h g = (g, h)
  each_with P (x ∷ l) r p h g = (h.0, each_with P l r p h.1 g)

  -- what holds of each call, where each has at most what they have together
  pub each_keeps : (P Q : Place A T → Type 0) (f : A → ℕ) (most : ℕ) → ((x : Place A T) → P x → f x.action ≤ most → Q x)
      → (xs : List (Place A T)) → sum f xs ≤ most → Each P xs → Each Q xs
  each_keeps P Q f most keeps [] h all = tt
  each_keeps P Q f most keeps (x ∷ xs) h all = (keeps x all.0 (omega arith), each_keeps P Q f most keeps xs (omega arith) all.1)
