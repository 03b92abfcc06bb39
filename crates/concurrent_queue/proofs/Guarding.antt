-- What the rule of guards keeps, where just words, homes and views are known.
use Rattle.std.proofs.Common.{◌≡◌, ◌≢◌, ℕ, zero, suc, ◌<◌, ◌≤◌, ◌⊎◌, inl, inr, ⊎_elim, List, [], ◌∷◌, ◌++◌, length, get_or, set, sym, refl, ap, ◌∙◌, subst, arith, length-set, get_or-set_other, get_or-set_same}
use mathlib.Core.Option.{none, some, some-injective, some-ne-none}
use mathlib.Core.Option as maybe
use mathlib.Core.Logic.{dite}
use native.Mathlib.Decide.{ℕ_discrete}
use lib.ListN.{get_elem?}
use Rattle.std.specs.Prelude.{Option, Some, None}
use Rattle.atomic_table.specs.Table.{State}
use Rattle.atomic_table.proofs.Lists.{at_set, at_snoc, at_longer, set_here, set_else}
use Rattle.concurrent_queue.specs.machine.Guarded.{IsFree, IsWon, IsGuarded}

none_some : (i : ℕ) → None ≢ Some i
none_some i e = absurd (cc)

number : Option ℕ → ℕ
number (Some x) = x
number None = 0

same_number : (i q : ℕ) → Some i ≡ Some q → i ≡ q
unfolding number
same_number i q e = ap number e

pub set_there : {A : Type 0} → (l : List A) (i : ℕ) (a b : A) → get_elem? l i ≡ some a → get_elem? (set l i b) i ≡ some b
set_there [] i a b e = absurd (some-ne-none a (sym e))
set_there (x ∷ xs) zero a b e = refl
set_there (x ∷ xs) (suc i) a b e = set_there xs i a b e

abbrev St : Type 0 → Type 0
St T = State (Option T) (Option ℕ)

module _ {T : Type 0} where
  abbrev with_words : St T → List ℕ → St T
  with_words s ws = record { words = ws; homes = s.homes; views = s.views }

  abbrev changed : St T → ℕ → ℕ → ℕ → maybe.Option (Option T) → Option ℕ → St T
  changed s id i n h w = record { words = set s.words i n; homes = set s.homes i h; views = set s.views id w }

  -- words that are no guards are changed
  pub keeps : (s : St T) (ws : List ℕ) → length ws ≡ length s.words → ((i : ℕ) → i < length s.homes → get_or ws i 0 ≡ get_or s.words i 0) → IsGuarded s → IsGuarded (with_words s ws)
  keeps s ws long word r = record {
    wide = subst (λ (n : ℕ). length s.homes ≤ n) (sym long) r.wide;
    each = λ i h. ⊎_elim (λ v. inl (word i h ∙ v.0, v.1, v.2)) (λ v. inr (v.0, word i h ∙ v.1, v.2, v.3, v.4)) (r.each i h);
  }

  -- what is so of a slot when another one changes
  beside : (s : St T) (id i n q : ℕ) (h : maybe.Option (Option T)) (v w : Option ℕ) → q ≢ i → get_elem? s.views id ≡ some v → v ≢ Some q → w ≢ Some q → IsFree s q ⊎ IsWon s q
      → IsFree (changed s id i n h w) q ⊎ IsWon (changed s id i n h w) q
  beside s id i n q h v w apart at not_v not_w was =
      let word = get_or-set_other s.words i q n 0 (λ e. apart e) in
      let home = set_else s.homes i q h apart in
      let view : (j : ℕ) → get_elem? (set s.views id w) j ≡ some (Some q) → get_elem? s.views j ≡ some (Some q) =
      λ j e. ⊎_elim (λ (t : (j ≡ id) × (w ≡ Some q)). absurd (not_w t.1)) (λ (t : (j ≢ id) × (get_elem? s.views j ≡ some (Some q))). t.1) (at_set s.views id j w (Some q) e) in
      ⊎_elim
      (λ f. inl (word ∙ f.0, (f.1.0, home ∙ f.1.1), λ j e. f.2 j (view j e)))
      (λ x. inr (x.0, word ∙ x.1, home ∙ x.2, set_else s.views id x.0 w (λ e. not_v (some-injective v (Some q) (sym at ∙ (ap (get_elem? s.views) (sym e) ∙ x.3)))) ∙ x.3, λ j e. x.4 j (view j e)))
      was

  -- the guard is 0, so the slot is at home and with nobody
  pub is_free : (s : St T) (i : ℕ) → i < length s.homes → get_or s.words i 0 ≡ 0 → IsGuarded s → IsFree s i
  is_free s i inside zero_is r = ⊎_elim (λ f. f) (λ w. let y : ℕ = get_or s.words i 0 in let a : y ≡ 1 = w.1 in let b : y ≡ 0 = zero_is in absurd (omega arith)) (r.each i inside)

  -- it is won by a seat that has no slot
  pub wins : (s : St T) (id i : ℕ) → i < length s.homes → get_elem? s.views id ≡ some None → get_or s.words i 0 ≡ 0 → IsGuarded s → IsGuarded (changed s id i 1 none (Some i))
  wins s id i inside idle zero_is r =
      let f = is_free s i inside zero_is r in
      let m : ℕ = length s.homes in
      let words : ℕ = length s.words in
      let long : m ≤ words = r.wide in
      let inside' : i < m = inside in
      let there : i < words = omega arith in
      record {
        wide = subst (λ (p : ℕ × ℕ). p.0 ≤ p.1) (λ k. (sym (length-set s.homes i none) k, sym (length-set s.words i 1) k)) long;
        each = λ q h. dite (ℕ_discrete q i)
            (λ same. inr (subst (IsWon (changed s id i 1 none (Some i))) (sym same) (
              id,
              get_or-set_same s.words i 1 0 there,
              set_here s.homes i none inside,
              set_there s.views id None (Some i) idle,
              λ k e. ⊎_elim (λ (t : (k ≡ id) × (Some i ≡ Some i)). t.0) (λ (t : (k ≢ id) × (get_elem? s.views k ≡ some (Some i))). absurd (f.2 k t.1)) (at_set s.views id k (Some i) (Some i) e),
            )))
            (λ apart. beside s id i 1 q none None (Some i) apart idle (none_some q) (λ e. apart (sym (same_number i q e))) (r.each q (subst (λ (n : ℕ). q < n) (length-set s.homes i none) h)));
      }

  -- the slot comes home
  pub gives : (s : St T) (id i : ℕ) (y : Option T) → i < length s.homes → get_elem? s.views id ≡ some (Some i) → IsGuarded s → IsGuarded (changed s id i 0 (some y) None)
  gives s id i y inside mine r =
      let m : ℕ = length s.homes in
      let words : ℕ = length s.words in
      let long : m ≤ words = r.wide in
      let inside' : i < m = inside in
      let there : i < words = omega arith in
      record {
        wide = subst (λ (p : ℕ × ℕ). p.0 ≤ p.1) (λ k. (sym (length-set s.homes i (some y)) k, sym (length-set s.words i 0) k)) long;
        each = λ q h. dite (ℕ_discrete q i)
            (λ same. inl (subst (IsFree (changed s id i 0 (some y) None)) (sym same) (
              get_or-set_same s.words i 0 0 there,
              (y, set_here s.homes i (some y) inside),
              λ j e. ⊎_elim (λ (t : (j ≡ id) × (None ≡ Some i)). none_some i t.1)
                  (λ (t : (j ≢ id) × (get_elem? s.views j ≡ some (Some i))). ⊎_elim (λ (f : IsFree s i). f.2 j t.1) (λ (w : IsWon s i). t.0 (w.4 j t.1 ∙ sym (w.4 id mine))) (r.each i inside))
                  (at_set s.views id j None (Some i) e),
            )))
            (λ apart. beside s id i 0 q (some y) (Some i) None apart mine (λ e. apart (sym (same_number i q e))) (none_some q) (r.each q (subst (λ (n : ℕ). q < n) (length-set s.homes i (some y)) h)));
      }

  -- a seat more, which has no slot
  pub sits : (s : St T) → IsGuarded s → IsGuarded {T = T} record { words = s.words; homes = s.homes; views = s.views ++ None ∷ [] }
  sits s r = record {
    wide = r.wide;
    each = λ i h. ⊎_elim
        (λ f. inl (f.0, f.1, λ j e. ⊎_elim (f.2 j) (none_some i) (at_snoc s.views None (Some i) j e)))
        (λ w. inr (w.0, w.1, w.2, at_longer s.views (None ∷ []) w.0 (Some i) w.3, λ j e. ⊎_elim (w.4 j) (λ z. absurd (none_some i z)) (at_snoc s.views None (Some i) j e)))
        (r.each i h);
  }
