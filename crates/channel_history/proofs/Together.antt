-- Numbers over all of a list, and what holds of each of it, after one of it has changed or one has come.
use Rattle.std.proofs.Common.{◌≡◌, ℕ, zero, suc, ◌+◌, ◌≤◌, List, [], ◌∷◌, ◌++◌, sym, ap, subst, arith}
use Rattle.std.specs.Prelude.{slice_set}
use mathlib.Core.Option.{some, some-ne-none, some-injective}
use lib.ListN.{get_elem?}
use Rattle.concurrent_queue.specs.machine.Places.{Each}
use Rattle.channel_history.specs.History.{total}

module _ {V : Type 0} where
  module _ (f : V → ℕ) where
    pub total_on : (l m : List V) → total f (l ++ m) ≡ total f l + total f m
    total_on [] m = omega arith
    total_on (x ∷ xs) m = let rest = total_on xs m in omega (arith, rest)

    pub total_set : (l : List V) (p : ℕ) (v w : V) → get_elem? l p ≡ some v → total f (slice_set l p w) + f v ≡ total f l + f w
    total_set [] p v w e = absurd (some-ne-none v (sym e))
    total_set (x ∷ xs) zero v w e = let same = ap f (some-injective x v e) in omega (arith, same)
    total_set (x ∷ xs) (suc p) v w e = let rest = total_set xs p v w e in omega (arith, rest)

    pub total_has : (l : List V) (p : ℕ) (v : V) → get_elem? l p ≡ some v → f v ≤ total f l
    total_has [] p v e = absurd (some-ne-none v (sym e))
    total_has (x ∷ xs) zero v e = let same = ap f (some-injective x v e) in omega (arith, same)
    total_has (x ∷ xs) (suc p) v e = let rest = total_has xs p v e in omega (arith, rest)

  module _ (P : V → Type 0) where
    pub each_at : (l : List V) (p : ℕ) (v : V) → get_elem? l p ≡ some v → Each P l → P v
    each_at [] p v e h = absurd (some-ne-none v (sym e))
    each_at (x ∷ xs) zero v e h = subst P (some-injective x v e) h.0
    each_at (x ∷ xs) (suc p) v e h = each_at xs p v e h.1

    pub each_set : (l : List V) (p : ℕ) (w : V) → Each P l → P w → Each P (slice_set l p w)
    each_set [] p w h k = tt
    each_set (x ∷ xs) zero w h k = (k, h.1)
    each_set (x ∷ xs) (suc p) w h k = (h.0, each_set xs p w h.1 k)

    pub each_on : (l m : List V) → Each P l → Each P m → Each P (l ++ m)
    each_on [] m h k = k
    each_on (x ∷ xs) m h k = (h.0, each_on xs m h.1 k)

    pub each_before : (l m : List V) → Each P (l ++ m) → Each P l
    each_before [] m h = tt
    each_before (x ∷ xs) m h = (h.0, each_before xs m h.1)

    pub each_behind : (l m : List V) → Each P (l ++ m) → Each P m
    each_behind [] m h = h
    each_behind (x ∷ xs) m h = each_behind xs m h.1

  -- what counts for nothing keeps, and one of a list is all of it that counts for anything
  module _ (f : V → ℕ) (P Q : V → Type 0) (keeps : (x : V) → f x ≡ 0 → P x → Q x) where
    pub all_keep : (l : List V) → total f l ≡ 0 → Each P l → Each Q l
    all_keep [] e h = tt
    all_keep (x ∷ xs) e h = (keeps x (omega (arith, e)) h.0, all_keep xs (omega (arith, e)) h.1)

    pub others_keep : (l : List V) (p : ℕ) (v w : V) → get_elem? l p ≡ some v → 1 ≤ f v → total f l ≤ 1 → Each P l → Q w → Each Q (slice_set l p w)
    others_keep [] p v w e one few h k = absurd (some-ne-none v (sym e))
    others_keep (x ∷ xs) zero v w e one few h k = let same = ap f (some-injective x v e) in (k, all_keep xs (omega (arith, same, one, few)) h.1)
    others_keep (x ∷ xs) (suc p) v w e one few h k =
        let least = total_has f xs p v e in
        (keeps x (omega (arith, one, few, least)) h.0, others_keep xs p v w e one (omega (arith, few)) h.1 k)
