-- The lists of a chain's listeners, as its nodes change.
use Rattle.std.proofs.Common.{◌≡◌, ◌≢◌, ◌⊎◌, inl, inr, ℕ, true, false, cond, List, [], ◌∷◌, ◌++◌, Some, None, refl, sym, ap, subst, ◌∙◌, arith, append_assoc}
use Rattle.std.proofs.lemmas.Bool.{cases_eq}
use Rattle.std.proofs.lemmas.Bool.Decides.{nat_tests}
use Rattle.std.proofs.lemmas.List.{append-nil}
use Rattle.std.specs.Map.{lookup, remove_entry, set_value}
use Rattle.event_listener.specs.declared.key.Key.{Key}
use Rattle.event_listener.specs.Lists.{same_key}
use Rattle.event_listener.specs.Chain.{Apart, Distinct, Among, pieces}
use Rattle.event_listener.proofs.ChainLemmas.{Distinct-parted}

pub same_key-self : (key : Key) → same_key key key ≡ true
same_key-self key = grind (arith, nat_tests)

pub same_key-other : (key other : Key) → key.slot ≢ other.slot → same_key key other ≡ false
same_key-other key other ne = grind (arith, nat_tests)

-- every key is of this slot
abbrev pub KeysAt : {X : Type 0} → ℕ → List (Key × X) → Type 0
KeysAt k [] = Unit {0}
KeysAt k (e ∷ es) = (e.0.slot ≡ k) × KeysAt k es

pub pieces-append : {X : Type 0} (f : ℕ → List X) (front back : List ℕ) → pieces f (front ++ back) ≡ pieces f front ++ pieces f back
pieces-append f [] back = refl
pieces-append f (k ∷ front) back = ap (λ r. f k ++ r) (pieces-append f front back) ∙ sym (append_assoc (f k) (pieces f front) (pieces f back))

-- another function that differs at k alone gives the same where k is not
pub pieces-same : {X : Type 0} (f g : ℕ → List X) (k : ℕ) (ks : List ℕ) → ((x : ℕ) → x ≢ k → g x ≡ f x) → Apart (Some k) ks → pieces g ks ≡ pieces f ks
pieces-same f g k [] h a = refl
pieces-same f g k (x ∷ ks) h a = rw (h x (λ e. a.0 (ap Some (sym e))), pieces-same f g k ks h a.1) refl

-- at most one entry, and that of the key
abbrev pub IsOne : {X : Type 0} → Key → List (Key × X) → Type 0
IsOne key [] = Unit {0}
IsOne key (x ∷ []) = same_key key x.0 ≡ true
IsOne key (x ∷ y ∷ xs) = ⊥

module _ {X : Type 0} (key : Key) where
  remove-skip : (k : ℕ) (xs ys : List (Key × X)) → KeysAt k xs → key.slot ≢ k → remove_entry (same_key key) (xs ++ ys) ≡ xs ++ remove_entry (same_key key) ys
  remove-skip k [] ys h ne = refl
  remove-skip k (x ∷ xs) ys h ne = rw (same_key-other key x.0 (λ e. ne (e ∙ h.0))) (ap (λ r. x ∷ r) (remove-skip k xs ys h.1 ne))

  lookup-skip : (k : ℕ) (xs ys : List (Key × X)) → KeysAt k xs → key.slot ≢ k → lookup (same_key key) (xs ++ ys) ≡ lookup (same_key key) ys
  lookup-skip k [] ys h ne = refl
  lookup-skip k (x ∷ xs) ys h ne = rw (same_key-other key x.0 (λ e. ne (e ∙ h.0))) (lookup-skip k xs ys h.1 ne)

  set-skip : (k : ℕ) (xs ys : List (Key × X)) (w : X) → KeysAt k xs → key.slot ≢ k → set_value (same_key key) (xs ++ ys) w ≡ xs ++ set_value (same_key key) ys w
  set-skip k [] ys w h ne = refl
  set-skip k (x ∷ xs) ys w h ne = rw (same_key-other key x.0 (λ e. ne (e ∙ h.0))) (ap (λ r. x ∷ r) (set-skip k xs ys w h.1 ne))

  module _ (f : ℕ → List (Key × X)) (keys : (k : ℕ) → KeysAt k (f k)) where
    remove-absent : (ks : List ℕ) (ys : List (Key × X)) → Apart (Some key.slot) ks → remove_entry (same_key key) (pieces f ks ++ ys) ≡ pieces f ks ++ remove_entry (same_key key) ys
    remove-absent [] ys a = refl
    remove-absent (k ∷ ks) ys a =
        rw append_assoc (remove-skip k (f k) (pieces f ks ++ ys) (keys k) (λ e. a.0 (ap Some e)) ∙ ap (λ r. f k ++ r) (remove-absent ks ys a.1) ∙ sym (append_assoc (f k) (pieces f ks) _))

    lookup-absent : (ks : List ℕ) (ys : List (Key × X)) → Apart (Some key.slot) ks → lookup (same_key key) (pieces f ks ++ ys) ≡ lookup (same_key key) ys
    lookup-absent [] ys a = refl
    lookup-absent (k ∷ ks) ys a =
        rw append_assoc (lookup-skip k (f k) (pieces f ks ++ ys) (keys k) (λ e. a.0 (ap Some e)) ∙ lookup-absent ks ys a.1)

    set-absent : (ks : List ℕ) (ys : List (Key × X)) (w : X) → Apart (Some key.slot) ks → set_value (same_key key) (pieces f ks ++ ys) w ≡ pieces f ks ++ set_value (same_key key) ys w
    set-absent [] ys w a = refl
    set-absent (k ∷ ks) ys w a =
        rw append_assoc (set-skip k (f k) (pieces f ks ++ ys) w (keys k) (λ e. a.0 (ap Some e)) ∙ ap (λ r. f k ++ r) (set-absent ks ys w a.1) ∙ sym (append_assoc (f k) (pieces f ks) _))

    -- a key is found at its slot alone
    pub lookup-pieces : (ks : List ℕ) → Distinct ks → (f key.slot ≡ []) ⊎ Among key.slot ks → lookup (same_key key) (pieces f ks) ≡ lookup (same_key key) (f key.slot)
    lookup-pieces ks d (inl e) = rw e (none ks)
      where
        none : (xs : List ℕ) → lookup (same_key key) (pieces f xs) ≡ None
        none [] = refl
        none (k ∷ xs) =
            elim (cases_eq key.slot k) [
              | inl q ↦ let e2 : f k ≡ [] = subst (λ v. f v ≡ []) q e in rw e2 (none xs)
              | inr ne ↦ lookup-skip k (f k) (pieces f xs) (keys k) ne ∙ none xs
            ]
    lookup-pieces ks d (inr m) =
        let front = m.0 in
        let back = m.1 in
        let parts = Distinct-parted front key.slot back (subst Distinct m.2 d) in
        rw (m.2, pieces-append f front (key.slot ∷ back)) (lookup-absent front (f key.slot ++ pieces f back) parts.front_apart ∙ last (f key.slot) back parts.back_apart)
      where
        last : (xs : List (Key × X)) (back : List ℕ) → Apart (Some key.slot) back → lookup (same_key key) (xs ++ pieces f back) ≡ lookup (same_key key) xs
        last [] back a = subst (λ v. lookup (same_key key) v ≡ None) (append-nil (pieces f back)) (lookup-absent back [] a)
        last (x ∷ xs) back a = elim (same_key key x.0) as (λ b. cond b (Some x.1) (lookup (same_key key) (xs ++ pieces f back)) ≡ cond b (Some x.1) (lookup (same_key key) xs)) [ true ↦ refl | false ↦ last xs back a ]

    -- a key's entry alone is removed, at its slot
    pub remove-pieces : (front back : List ℕ) → Distinct (front ++ key.slot ∷ back) → IsOne key (f key.slot) → remove_entry (same_key key) (pieces f (front ++ key.slot ∷ back)) ≡ pieces f (front ++ back)
    remove-pieces front back d one =
        let parts = Distinct-parted front key.slot back d in
        rw (pieces-append f front (key.slot ∷ back), pieces-append f front back) (remove-absent front (f key.slot ++ pieces f back) parts.front_apart ∙ ap (λ r. pieces f front ++ r) (at (f key.slot) one))
      where
        rest : remove_entry (same_key key) (pieces f back) ≡ pieces f back
        rest = subst (λ v. remove_entry (same_key key) v ≡ v) (append-nil (pieces f back)) (remove-absent back [] (Distinct-parted front key.slot back d).back_apart)

        at : (xs : List (Key × X)) → IsOne key xs → remove_entry (same_key key) (xs ++ pieces f back) ≡ pieces f back
        at [] e = rest
        at (x ∷ []) e = rw e refl
        at (x ∷ y ∷ xs) e = absurd e

    -- a key's entry alone gets another value
    pub set-pieces : (front back : List ℕ) (w : X) → Distinct (front ++ key.slot ∷ back) → IsOne key (f key.slot) → set_value (same_key key) (pieces f (front ++ key.slot ∷ back)) w ≡ pieces f front ++ (set_value (same_key key) (f key.slot) w ++ pieces f back)
    set-pieces front back w d one =
        let parts = Distinct-parted front key.slot back d in
        rw (pieces-append f front (key.slot ∷ back)) (set-absent front (f key.slot ++ pieces f back) w parts.front_apart ∙ ap (λ r. pieces f front ++ r) (at (f key.slot) one))
      where
        rest : set_value (same_key key) (pieces f back) w ≡ pieces f back
        rest = subst (λ v. set_value (same_key key) v w ≡ v) (append-nil (pieces f back)) (set-absent back [] w (Distinct-parted front key.slot back d).back_apart)

        at : (xs : List (Key × X)) → IsOne key xs → set_value (same_key key) (xs ++ pieces f back) w ≡ set_value (same_key key) xs w ++ pieces f back
        at [] e = rest
        at (x ∷ []) e = rw e refl
        at (x ∷ y ∷ xs) e = absurd e
