-- Lists in any order.
use Rattle.std.proofs.Common.{◌≡◌, ℕ, zero, suc, List, [], ◌∷◌, ◌++◌, set, sym, refl, ap, ◌∙◌, subst}
use Rattle.std.specs.Prelude.{IsPermutation, flat_map}
use Rattle.std.proofs.lemmas.List.{append_assoc, append-nil}
use Rattle.std.proofs.lemmas.List.Sorted.{IsPermutation-refl, IsPermutation-sym, IsPermutation-trans, IsPermutation-append, IsPermutation-append_comm}
use mathlib.Core.Option.{some, some-ne-none, some-injective}
use lib.ListN.{get_elem?}

module _ {X : Type 0} where
  pub as_is : {xs ys : List X} → xs ≡ ys → IsPermutation xs ys
  as_is {xs} e = subst (λ zs. IsPermutation xs zs) e (IsPermutation-refl xs)

  pub back : {xs ys : List X} → IsPermutation xs ys → IsPermutation ys xs
  back p = IsPermutation-sym _ _ p

  pub then : {xs ys zs : List X} → IsPermutation xs ys → IsPermutation ys zs → IsPermutation xs zs
  then p q = IsPermutation-trans _ _ _ p q

  pub beside : {xs ys us vs : List X} → IsPermutation xs ys → IsPermutation us vs → IsPermutation (xs ++ us) (ys ++ vs)
  beside p q = IsPermutation-append _ _ _ _ p q

  pub after : (zs : List X) {xs ys : List X} → IsPermutation xs ys → IsPermutation (zs ++ xs) (zs ++ ys)
  after zs p = beside (IsPermutation-refl zs) p

  pub before : (zs : List X) {xs ys : List X} → IsPermutation xs ys → IsPermutation (xs ++ zs) (ys ++ zs)
  before zs p = beside p (IsPermutation-refl zs)

  -- the first two change places
  pub exchange : (x y z : List X) → IsPermutation (x ++ (y ++ z)) (y ++ (x ++ z))
  exchange x y z = then (as_is (sym (append_assoc x y z))) (then (before z (IsPermutation-append_comm x y)) (as_is (append_assoc y x z)))

  -- the last two of three do
  pub exchange_last : (x y z : List X) → IsPermutation ((x ++ y) ++ z) ((x ++ z) ++ y)
  exchange_last x y z = then (as_is (append_assoc x y z)) (then (after x (IsPermutation-append_comm y z)) (as_is (sym (append_assoc x z y))))

  -- the second and the third of four do
  pub interchange : (a b c d : List X) → IsPermutation ((a ++ b) ++ (c ++ d)) ((a ++ c) ++ (b ++ d))
  interchange a b c d = then (as_is (append_assoc a b (c ++ d))) (then (after a (exchange b c d)) (as_is (sym (append_assoc a c (b ++ d)))))

-- ---- pieces of a list

module _ {V : Type 0} where
  -- the list without the one at an index
  abbrev pub others : List V → ℕ → List V
  others [] i = []
  others (v ∷ vs) zero = vs
  others (v ∷ vs) (suc i) = v ∷ others vs i

  pub others_set : (vs : List V) (i : ℕ) (w : V) → others (set vs i w) i ≡ others vs i
  others_set [] i w = refl
  others_set (v ∷ vs) zero w = refl
  others_set (v ∷ vs) (suc i) w = ap (λ us. v ∷ us) (others_set vs i w)

  at_set_there : (vs : List V) (i : ℕ) (v w : V) → get_elem? vs i ≡ some v → get_elem? (set vs i w) i ≡ some w
  at_set_there [] i v w e = absurd (some-ne-none v (sym e))
  at_set_there (x ∷ xs) zero v w e = refl
  at_set_there (x ∷ xs) (suc i) v w e = at_set_there xs i v w e

module _ {V X : Type 0} where
  -- the pieces: that of the one at an index first
  pub piece : (f : V → List X) (vs : List V) (i : ℕ) (v : V) → get_elem? vs i ≡ some v → IsPermutation (flat_map f vs) (f v ++ flat_map f (others vs i))
  piece f [] i v e = absurd (some-ne-none v (sym e))
  piece f (x ∷ xs) zero v e = as_is (ap (λ u. f u ++ flat_map f xs) (some-injective x v e))
  piece f (x ∷ xs) (suc i) v e = then (after (f x) (piece f xs i v e)) (exchange (f x) (f v) (flat_map f (others xs i)))

  -- the same after that one was changed
  pub piece_set : (f : V → List X) (vs : List V) (i : ℕ) (v w : V) → get_elem? vs i ≡ some v → IsPermutation (flat_map f (set vs i w)) (f w ++ flat_map f (others vs i))
  piece_set f vs i v w e = then (piece f (set vs i w) i w (at_set_there vs i v w e)) (as_is (ap (λ us. f w ++ flat_map f us) (others_set vs i w)))

  pub pieces_snoc : (f : V → List X) (vs : List V) (v : V) → flat_map f (vs ++ v ∷ []) ≡ flat_map f vs ++ f v
  pieces_snoc f [] v = append-nil (f v)
  pieces_snoc f (x ∷ xs) v = ap (λ us. f x ++ us) (pieces_snoc f xs v) ∙ sym (append_assoc (f x) (flat_map f xs) (f v))

  -- one that is taken into another leaves all pieces as they were
  pub taken_in : (f : V → List X) (vs : List V) (i j : ℕ) (v w both spent : V) → IsPermutation (f both) (f v ++ f w) → f spent ≡ []
      → (i ≡ j → ⊥) → get_elem? vs i ≡ some v → get_elem? vs j ≡ some w → IsPermutation (flat_map f (set (set vs i both) j spent)) (flat_map f vs)
  taken_in f [] i j v w both spent p none apart at there = absurd (some-ne-none v (sym at))
  taken_in f (x ∷ xs) zero zero v w both spent p none apart at there = absurd (apart refl)
  taken_in f (x ∷ xs) zero (suc j) v w both spent p none apart at there =
      let rest = flat_map f (others xs j) in
      let left = then (piece_set f xs j w spent there) (as_is (ap (λ u. u ++ rest) none)) in
      then (beside p left) (then (as_is (append_assoc (f v) (f w) rest)) (then (after (f v) (back (piece f xs j w there))) (as_is (ap (λ u. f u ++ flat_map f xs) (sym (some-injective x v at))))))
  taken_in f (x ∷ xs) (suc i) zero v w both spent p none apart at there =
      let rest = flat_map f (others xs i) in
      let left = then (piece_set f xs i v both at) (then (before rest p) (then (as_is (append_assoc (f v) (f w) rest)) (exchange (f v) (f w) rest))) in
      then (as_is (ap (λ u. u ++ flat_map f (set xs i both)) none)) (then left (then (after (f w) (back (piece f xs i v at))) (as_is (ap (λ u. f u ++ flat_map f xs) (sym (some-injective x w there))))))
  taken_in f (x ∷ xs) (suc i) (suc j) v w both spent p none apart at there =
      after (f x) (taken_in f xs i j v w both spent p none (λ e. apart (ap suc e)) at there)
