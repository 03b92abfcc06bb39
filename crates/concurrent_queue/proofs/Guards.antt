-- Each kind of step keeps the rule.
use Rattle.std.proofs.Common.{◌≡◌, ◌≢◌, ℕ, zero, suc, ◌<◌, ◌≤◌, ◌⊎◌, eqb, inl, inr, ⊎_elim, List, [], ◌∷◌, length, map, replicate, get_or, set, sym, refl, ap, ◌∙◌, subst, arith, length-set, get_or-set_other, get_or-set_same}
use mathlib.Core.Option.{none, some, some-injective, some-ne-none}
use mathlib.Core.Option as maybe
use Rattle.std.proofs.lemmas.List.{set-get_or, length-map, length-replicate}
use mathlib.Core.Logic.{dite}
use native.Mathlib.Decide.{ℕ_discrete}
use lib.ListN.{get_elem?}
use prog.Atomic.{either}
use Rattle.std.specs.Prelude.{Option, Some, None}
use Rattle.atomic_table.specs.Table.{State, Me, step, rest, Act, Valid, put_back, carried_after, stepped, keeps, takes, gives, Allows, Enters, opening}
use Rattle.atomic_table.proofs.Lists.{at_set, at_snoc, at_longer, some_there, set_here, set_else, set_again, exchanged}
use Rattle.concurrent_queue.specs.machine.Guarded.{AreFree}
use Rattle.concurrent_queue.specs.machine.Guarded.{IsFree, IsWon, IsGuarded, sat, won, gave}

none_some : (i : ℕ) → None ≢ Some i
none_some i e = absurd (cc)

abbrev St : Type 0 → Type 0
St T = State (Option T) (Option ℕ)

abbrev M : Type 0 → Type 0
M T = Me (Option T) (Option ℕ)

number : Option ℕ → ℕ
number (Some x) = x
number None = 0

same_number : (i q : ℕ) → Some i ≡ Some q → i ≡ q
unfolding number
same_number i q e = ap number e

set_there : {A : Type 0} → (l : List A) (i : ℕ) (a b : A) → get_elem? l i ≡ some a → get_elem? (set l i b) i ≡ some b
set_there [] i a b e = absurd (some-ne-none a (sym e))
set_there (x ∷ xs) zero a b e = refl
set_there (x ∷ xs) (suc i) a b e = set_there xs i a b e

module _ {T : Type 0} where
  abbrev Goes : St T → ℕ → ℕ → M T → (ℕ → M T → Type 0) → ℕ → Type 0
  Goes s k id me then x = (w : Option ℕ) × (a : Act (Option T)) × Valid s.homes me.1 a × IsGuarded (stepped s k x id me.1 w a) × then (get_or s.words k 0) (w, carried_after me.1 a)

  -- nothing changes but a word that is no guard, or a word as it was
  plain : (s : St T) (id k new : ℕ) (v : Option ℕ) → IsGuarded s → get_elem? s.views id ≡ some v → ((i : ℕ) → i < length s.homes → get_or (set s.words k new) i 0 ≡ get_or s.words i 0)
      → IsGuarded record { words = set s.words k new; homes = s.homes; views = set s.views id v }
  plain s id k new v r at word =
      subst (λ (vs : List (Option ℕ)). IsGuarded {T = T} record { words = set s.words k new; homes = s.homes; views = vs }) (sym (set_again s.views id v at))
      record {
        wide = subst (λ (n : ℕ). length s.homes ≤ n) (sym (length-set s.words k new)) r.wide;
        each = λ i h. ⊎_elim (λ v. inl (word i h ∙ v.0, v.1, v.2)) (λ v. inr (v.0, word i h ∙ v.1, v.2, v.3, v.4)) (r.each i h);
      }

  -- what is so of a slot when another one changes
  beside : (s : St T) (id i n q : ℕ) (h : maybe.Option (Option T)) (v w : Option ℕ) → q ≢ i → get_elem? s.views id ≡ some v → v ≢ Some q → w ≢ Some q → IsFree s q ⊎ IsWon s q
      → IsFree {T = T} record { words = set s.words i n; homes = set s.homes i h; views = set s.views id w } q ⊎ IsWon {T = T} record { words = set s.words i n; homes = set s.homes i h; views = set s.views id w } q
  beside s id i n q h v w apart at not_v not_w was =
      let word = get_or-set_other s.words i q n 0 (λ e. apart e) in
      let home = set_else s.homes i q h apart in
      let view : (j : ℕ) → get_elem? (set s.views id w) j ≡ some (Some q) → get_elem? s.views j ≡ some (Some q) =
      λ j e. ⊎_elim (λ (t : (j ≡ id) × (w ≡ Some q)). absurd (not_w t.1)) (λ (t : (j ≢ id) × (get_elem? s.views j ≡ some (Some q))). t.1) (at_set s.views id j w (Some q) e) in
      ⊎_elim
      (λ f. inl (word ∙ f.0, (f.1.0, home ∙ f.1.1), λ j e. f.2 j (view j e)))
      (λ x. inr (x.0, word ∙ x.1, home ∙ x.2, set_else s.views id x.0 w (λ e. not_v (some-injective v (Some q) (sym at ∙ (ap (get_elem? s.views) (sym e) ∙ x.3)))) ∙ x.3, λ j e. x.4 j (view j e)))
      was

  pub sits : (slots k : ℕ) → Enters (IsGuarded {T = T}) slots k (λ n w. sat {T = T} (step slots k 0 0 none) (None, []) n (w, []))
  sits slots k s r e small = (
    None,
    record {
      wide = r.wide;
      each = λ i h. ⊎_elim
          (λ f. inl (f.0, f.1, λ j e. ⊎_elim (f.2 j) (none_some i) (at_snoc s.views None (Some i) j e)))
          (λ w. inr (w.0, w.1, w.2, at_longer s.views (None ∷ []) w.0 (Some i) w.3, λ j e. ⊎_elim (w.4 j) (λ z. absurd (none_some i z)) (at_snoc s.views None (Some i) j e)))
          (r.each i h);
    },
    refl,
  )

  -- a step on a word that is no guard
  pub looks : (slots id k : ℕ) (me : M T) (f : ℕ → ℕ) → slots ≤ k → Allows (IsGuarded {T = T}) slots id me k f (λ _ m. m ≡ me)
  looks slots id k me f far s r wide at small =
      let new : ℕ = f (get_or s.words k 0) in
      let m : ℕ = length s.homes in let wide' : m ≡ slots = wide in
      (me.0, keeps, tt, plain s id k new me.0 r at (λ i h. get_or-set_other s.words k i new 0 (λ e. omega arith)), refl)

  pub wins : (slots id i : ℕ) (me : M T) → i < slots → me.0 ≡ None → Allows (IsGuarded {T = T}) slots id me i (λ y. either (eqb y 0) 1 y) (won {T = T} (step slots i 0 1 none) me)
  wins slots id i me near idle s r wide at small =
      let y : ℕ = get_or s.words i 0 in
      let m : ℕ = length s.homes in let wide' : m ≡ slots = wide in
      let inside : i < m = omega arith in
      let words : ℕ = length s.words in
      let long : m ≤ words = r.wide in
      let there : i < words = omega arith in
      let told = won {T = T} (step slots i 0 1 none) me in
      let idle_at : get_elem? s.views id ≡ some None = at ∙ ap some idle in
      exchanged y 0 1 (Goes s i id me told)
      (λ hit. ⊎_elim
      (λ f. (
        Some i,
        takes i f.1.0,
        f.1.1,
        record {
          wide = subst (λ (p : ℕ × ℕ). p.0 ≤ p.1) (λ k. (sym (length-set s.homes i none) k, sym (length-set s.words i 1) k)) long;
          each = λ q h. dite (ℕ_discrete q i)
              (λ same. inr (subst (IsWon {T = T} record { words = set s.words i 1; homes = set s.homes i none; views = set s.views id (Some i) }) (sym same) (
                id,
                get_or-set_same s.words i 1 0 there,
                set_here s.homes i none inside,
                set_there s.views id me.0 (Some i) at,
                λ k e. ⊎_elim (λ (t : (k ≡ id) × (Some i ≡ Some i)). t.0) (λ (t : (k ≢ id) × (get_elem? s.views k ≡ some (Some i))). absurd (f.2 k t.1)) (at_set s.views id k (Some i) (Some i) e),
              )))
              (λ apart. beside s id i 1 q none None (Some i) apart idle_at (none_some q) (λ e. apart (sym (same_number i q e))) (r.each q (subst (λ (n : ℕ). q < n) (length-set s.homes i none) h)));
        },
        ((λ _. (refl, (f.1.0, refl))), λ miss. absurd (miss hit)),
      ))
      (λ w. let is : y ≡ 1 = w.1 in let zero_is : y ≡ 0 = hit in absurd (omega arith))
      (r.each i inside))
      (λ miss. (me.0, keeps, tt, plain s id i y me.0 r at (λ q h. ap (λ ws. get_or ws q 0) (set-get_or s.words i 0)), ((λ hit. absurd (miss hit)), λ _. refl)))

  pub gives_back : (slots id i : ℕ) (me : M T) (y : Option T) (c : List (ℕ × Option T)) → i < slots → me.0 ≡ Some i → me.1 ≡ (i, y) ∷ c → Allows (IsGuarded {T = T}) slots id me i (λ _. 0) (λ _. gave {T = T} (step slots i 0 0 none) me 0)
  gives_back slots id i me y c near holds has s r wide at small =
      let m : ℕ = length s.homes in let wide' : m ≡ slots = wide in
      let inside : i < m = omega arith in
      let words : ℕ = length s.words in
      let long : m ≤ words = r.wide in
      let there : i < words = omega arith in
      let mine : get_elem? s.views id ≡ some (Some i) = at ∙ ap some holds in
      let after : St T = record { words = set s.words i 0; homes = set s.homes i (some y); views = set s.views id None } in
      let kept : IsGuarded after = record {
        wide = subst (λ (p : ℕ × ℕ). p.0 ≤ p.1) (λ k. (sym (length-set s.homes i (some y)) k, sym (length-set s.words i 0) k)) long;
        each = λ q h. dite (ℕ_discrete q i)
            (λ same. inl (subst (IsFree after) (sym same) (
              get_or-set_same s.words i 0 0 there,
              (y, set_here s.homes i (some y) inside),
              λ j e. ⊎_elim (λ (t : (j ≡ id) × (None ≡ Some i)). none_some i t.1)
                  (λ (t : (j ≢ id) × (get_elem? s.views j ≡ some (Some i))). ⊎_elim (λ (f : IsFree s i). f.2 j t.1) (λ (w : IsWon s i). t.0 (w.4 j t.1 ∙ sym (w.4 id mine))) (r.each i inside))
                  (at_set s.views id j None (Some i) e),
            )))
            (λ apart. beside s id i 0 q (some y) (Some i) None apart mine (λ e. apart (sym (same_number i q e))) (none_some q) (r.each q (subst (λ (n : ℕ). q < n) (length-set s.homes i (some y)) h)));
      } in
      (None, gives, tt, subst (λ (hs : List (maybe.Option (Option T))). IsGuarded {T = T} record { words = set s.words i 0; homes = hs; views = set s.views id None }) (ap (put_back s.homes) (sym has)) kept, (refl, refl))

  -- the slot that the seat took last
  pub held : (m : M T) (v : Option ℕ) (x : ℕ × Option T) (c : List (ℕ × Option T)) → m ≡ (v, x ∷ c) → m.1 ≡ x ∷ rest m.1
  held m v x c e = ap (λ (n : M T). n.1) e ∙ ap (λ (l : List (ℕ × Option T)). x ∷ l) (ap (λ (n : M T). rest n.1) (sym e))

  pub opens : (n : ℕ) (words : List ℕ) → n ≤ length words → AreFree n words → IsGuarded {T = T} (opening words (replicate n None) None)
  opens n words long free =
      let count : length (map some (replicate n None)) ≡ n = length-map (replicate {A = Option T} n None) some ∙ length-replicate n None in
      record {
        wide = subst (λ (m : ℕ). m ≤ length words) (sym count) long;
        each = λ i h.
            let near : i < n = subst (λ (m : ℕ). i < m) count h in
            inl (free i near, some_there (replicate n None) i (subst (λ (m : ℕ). i < m) (sym (length-replicate n None)) near), nobody i);
      }
    where
      nobody : (i j : ℕ) → get_elem? (None ∷ []) j ≢ some (Some i)
      nobody i zero e = none_some i (some-injective _ _ e)
      nobody i (suc j) e = absurd (some-ne-none (Some i) (sym e))
