-- Names in lists, and names as the keys of entries.
use Rattle.std.specs.Prelude.{◌≡◌, ◌∷◌, ◌||◌}
use Rattle.channel_world_model.proofs.Words.{or_right, arith, ℕ, nat_eq, List, [], Bool, true, false, not, cond, Some, refl, sym, ap, subst, inl, inr, AllByRecursion, nat_eq_equiv, nat_tests, keys_of, lookup_entry, remove_entry, Waiting, same_waiter, is_among, without_waiter, untold, gone, Waiter, Op, Stream, WaitList, Sends}
use Rattle.std.specs.List.{IsDistinct}
use Rattle.std.specs.Cmp.{IsEquivalence}
pub use Rattle.std.proofs.lemmas.Bool.{cases_Bool as decided, or_cases as or_true, or_parts as or_false}
use Rattle.channel_world_model.specs.contracts.name.WaiterPartialEq.TheImpl as derived

-- ---- one name and another

pub same_refl : (w : Waiter) → same_waiter w w ≡ true
same_refl (Op a) = nat_eq_equiv.refl a.0
same_refl (Stream a) = nat_eq_equiv.refl a.0

pub same_symm : (v w : Waiter) → same_waiter v w ≡ same_waiter w v
same_symm (Op a) (Op b) = nat_eq_equiv.symm a.0 b.0
same_symm (Op a) (Stream b) = refl
same_symm (Stream a) (Op b) = refl
same_symm (Stream a) (Stream b) = nat_eq_equiv.symm a.0 b.0

pub same_number : (m n : ℕ) → nat_eq m n ≡ true → m ≡ n
same_number m n e = grind (arith, nat_tests)

pub same_sound : (v w : Waiter) → same_waiter v w ≡ true → v ≡ w
same_sound (Op a) (Op b) e = ap (λ (n : ℕ). Op (record { 0 = n })) (same_number a.0 b.0 e)
same_sound (Stream a) (Stream b) e = ap (λ (n : ℕ). Stream (record { 0 = n })) (same_number a.0 b.0 e)
same_sound v w e = cc e

pub same_equiv : IsEquivalence same_waiter
same_equiv = record {
  refl = same_refl;
  symm = same_symm;
  congr = λ x y z e. ap (λ (w : Waiter). same_waiter w z) (same_sound x y e);
}

same_as_derived : (v w : Waiter) → derived.eq-value.it v w ≡ same_waiter v w
same_as_derived (Op a) (Op b) = refl
same_as_derived (Op a) (Stream b) = refl
same_as_derived (Stream a) (Op b) = refl
same_as_derived (Stream a) (Stream b) = refl

-- the comparison of keys is that of the definitions
pub derived_is : derived.eq-value.it ≡ same_waiter
derived_is = λ i v w. same_as_derived v w i

-- ---- lists of names

keeps_head : (b r : Bool) (v : Waiter) (vs kept : List Waiter) → (b || r) ≡ false → (r ≡ false → kept ≡ vs) → cond (not b) (v ∷ kept) kept ≡ v ∷ vs
keeps_head true r v vs kept e h = cc e
keeps_head false r v vs kept e h = ap (λ xs. v ∷ xs) (h e)

-- to take out one that isn't there changes nothing
pub without_absent : (w : Waiter) (ws : List Waiter) → is_among w ws ≡ false → without_waiter w ws ≡ ws
without_absent w [] e = refl
without_absent w (v ∷ vs) e = keeps_head (same_waiter w v) (is_among w vs) v vs (without_waiter w vs) e (without_absent w vs)

not_among_others : (w : Waiter) (ws : List Waiter) → AllByRecursion (λ v. same_waiter w v ≡ false) ws → is_among w ws ≡ false
not_among_others w [] h = refl
not_among_others w (v ∷ vs) h = rw h.0 (not_among_others w vs h.1)

-- the first of names that are apart is not among the others
pub first_apart : (w : Waiter) (ws : List Waiter) → IsDistinct same_waiter (w ∷ ws) → is_among w ws ≡ false
unfolding IsDistinct
first_apart w ws d = not_among_others w ws d.0

pub rest_apart : (w : Waiter) (ws : List Waiter) → IsDistinct same_waiter (w ∷ ws) → IsDistinct same_waiter ws
unfolding IsDistinct
rest_apart w ws d = d.1

-- ---- entries under names

module _ {X : Type 0} (w : Waiter) where
  pub entry_is : (es : List (Waiter × X)) (g : Waiter × X) → lookup_entry (same_waiter w) es ≡ Some g → same_waiter w g.0 ≡ true
  entry_is [] g e = cc e
  entry_is (f ∷ es) g e = elim (decided (same_waiter w f.0)) [
    | inl t ↦ let same : f ≡ g = cc (rw t at e) in subst (λ (h : Waiter × X). same_waiter w h.0 ≡ true) same t
    | inr t ↦ entry_is es g (rw t at e)
  ]

  -- the entry taken out is that of the name
  pub keys_without : (es : List (Waiter × X)) → IsDistinct same_waiter (keys_of es) → keys_of (remove_entry (same_waiter w) es) ≡ without_waiter w (keys_of es)
  keys_without [] d = refl
  keys_without (f ∷ es) d = elim (decided (same_waiter w f.0)) [
    | inl t ↦
        let absent : is_among w (keys_of es) ≡ false = subst (λ (v : Waiter). is_among v (keys_of es) ≡ false) (sym (same_sound w f.0 t)) (first_apart f.0 (keys_of es) d) in
        rw t (sym (without_absent w (keys_of es) absent))
    | inr t ↦ rw t (ap (λ xs. f.0 ∷ xs) (keys_without es (rest_apart f.0 (keys_of es) d)))
  ]

-- who is left where one was taken out
pub left_among : (w x : Waiter) (ws : List Waiter) → is_among x (without_waiter w ws) ≡ true → (is_among x ws ≡ true) × (same_waiter w x ≡ false)
left_among w x [] e = cc e
left_among w x (v ∷ vs) e = elim (decided (same_waiter w v)) [
  | inl t ↦ let on = left_among w x vs (rw t at e) in (or_right (same_waiter x v) (is_among x vs) on.0, on.1)
  | inr t ↦ elim (or_true (same_waiter x v) (is_among x (without_waiter w vs)) (rw t at e)) [
    | inl s ↦ (rw s refl, rw (same_sound x v s) t)
    | inr r ↦ let on = left_among w x vs r in (or_right (same_waiter x v) (is_among x vs) on.0, on.1)
  ]
]

-- one that was taken out is not among the rest
pub none_left : (w : Waiter) (ws : List Waiter) → is_among w (without_waiter w ws) ≡ false
none_left w [] = refl
none_left w (v ∷ vs) = elim (decided (same_waiter w v)) [
  | inl t ↦ rw t (none_left w vs)
  | inr t ↦ rw (t, t) (none_left w vs)
]

pub untold_gone : (line : WaitList) (w : Waiter) (l : Waiting) → untold line (gone w l) ≡ without_waiter w (untold line l)
untold_gone Sends w l = refl
untold_gone line w l = refl
