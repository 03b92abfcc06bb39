-- Where parties stand after a seat's view has changed or a seat has come.
use Rattle.std.proofs.Common.{◌≡◌, ◌≢◌, ℕ, zero, suc, List, [], ◌∷◌, ◌++◌, length, refl, sym, ap, ◌∙◌}
use Rattle.std.specs.Prelude.{slice_set}
use mathlib.Core.Option.{Option, none, some, some-ne-none}
use lib.ListN.{get_elem?}
use Rattle.channel_history.specs.Party.{fresh, standing_in, standing_of}
use Rattle.channel_history.specs.declared.party.Standing.{Standing}

module _ {V : Type 0} where
  set_at : (l : List V) (p : ℕ) (v w : V) → get_elem? l p ≡ some v → get_elem? (slice_set l p w) p ≡ some w
  set_at [] p v w e = absurd (some-ne-none v (sym e))
  set_at (x ∷ xs) zero v w e = refl
  set_at (x ∷ xs) (suc p) v w e = set_at xs p v w e

  pub set_else : (l : List V) (p q : ℕ) (w : V) → q ≢ p → get_elem? (slice_set l p w) q ≡ get_elem? l q
  set_else [] p q w n = refl
  set_else (x ∷ xs) zero zero w n = absurd (n refl)
  set_else (x ∷ xs) zero (suc q) w n = refl
  set_else (x ∷ xs) (suc p) zero w n = refl
  set_else (x ∷ xs) (suc p) (suc q) w n = set_else xs p q w (λ e. n (ap suc e))

  past : (l : List V) → get_elem? l (length l) ≡ none
  past [] = refl
  past (x ∷ xs) = past xs

  -- a seat that there is isn't past the others
  pub set_not_past : (l : List V) (p : ℕ) (v w : V) → get_elem? l p ≡ some v → p ≡ length (slice_set l p w) → ⊥
  set_not_past l p v w there e =
      let here : get_elem? (slice_set l p w) p ≡ some w = set_at l p v w there in
      let none_here : get_elem? (slice_set l p w) p ≡ none = ap (λ (k : ℕ). get_elem? (slice_set l p w) k) e ∙ past (slice_set l p w) in
      absurd (some-ne-none w (sym here ∙ none_here))

  last_at : (l : List V) (w : V) → get_elem? (l ++ w ∷ []) (length l) ≡ some w
  last_at [] w = refl
  last_at (x ∷ xs) w = last_at xs w

  last_else : (l : List V) (q : ℕ) (w : V) → q ≢ length l → get_elem? (l ++ w ∷ []) q ≡ get_elem? l q
  last_else [] zero w n = absurd (n refl)
  last_else [] (suc q) w n = refl
  last_else (x ∷ xs) zero w n = refl
  last_else (x ∷ xs) (suc q) w n = last_else xs q w (λ e. n (ap suc e))

module _ {T W : Type 0} where
  abbrev In : Option (Standing T W) → Standing T W
  In o = standing_in o

  pub stands_at : (views : List (Standing T W)) (p : ℕ) (v : Standing T W) → get_elem? views p ≡ some v → standing_of views p ≡ v
  stands_at views p v e = ap In e

  pub stands_set : (views : List (Standing T W)) (p : ℕ) (v w : Standing T W) → get_elem? views p ≡ some v → standing_of (slice_set views p w) p ≡ w
  stands_set views p v w e = ap In (set_at views p v w e)

  pub stands_else : (views : List (Standing T W)) (p q : ℕ) (w : Standing T W) → q ≢ p → standing_of (slice_set views p w) q ≡ standing_of views q
  stands_else views p q w n = ap In (set_else views p q w n)

  pub stands_past : (views : List (Standing T W)) → standing_of views (length views) ≡ fresh
  stands_past views = ap In (past views)

  pub stands_last : (views : List (Standing T W)) (w : Standing T W) → standing_of (views ++ w ∷ []) (length views) ≡ w
  stands_last views w = ap In (last_at views w)

  pub stands_before : (views : List (Standing T W)) (q : ℕ) (w : Standing T W) → q ≢ length views → standing_of (views ++ w ∷ []) q ≡ standing_of views q
  stands_before views q w n = ap In (last_else views q w n)
