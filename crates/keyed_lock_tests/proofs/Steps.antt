-- Each step on a mark keeps the rule.
use Rattle.std.proofs.Common.{◌≡◌, ◌≢◌, ℕ, ◌<◌, ◌≤◌, max, ⊎_elim, [], get_or, set, sym, refl, ap, subst, arith, length-set, get_or-set_other, get_or-set_same}
use mathlib.Core.Option.{none, some}
use mathlib.Core.Logic.{dite}
use native.Mathlib.Decide.{ℕ_discrete}
use lib.ListN.{get_elem?}
use Rattle.atomic_table.specs.Table.{State, Me, step, keeps, Allows, Enters}
use Rattle.atomic_table.proofs.Lists.{at_set, at_snoc}
use Rattle.keyed_lock_tests.specs.declared.lists.Says.{Says}
use Rattle.keyed_lock_tests.specs.Marks.{AreMarks, says, begins, becomes, finds}

-- a word that grows keeps all marks
raised : (s : State Unit Says) (id i m : ℕ) (w : Says) → AreMarks s → i < 2 → get_or s.words i 0 ≤ m → w.length ≤ get_or (set s.words i m) w.list 0
    → AreMarks record { words = set s.words i m; homes = s.homes; views = set s.views id w }
raised s id i m w r near more so = (
  subst (λ (n : ℕ). 2 ≤ n) (sym (length-set s.words i m)) r.0,
  λ j v e. ⊎_elim
      (λ (t : (j ≡ id) × (w ≡ v)). subst (λ (u : Says). u.length ≤ get_or (set s.words i m) u.list 0) t.1 so)
      (λ (t : (j ≢ id) × (get_elem? s.views j ≡ some v)). kept v (r.1 j v t.1))
      (at_set s.views id j w v e),
)
  where
    kept : (v : Says) → v.length ≤ get_or s.words v.list 0 → v.length ≤ get_or (set s.words i m) v.list 0
    kept v old = dite (ℕ_discrete v.list i)
        (λ same. let a = r.0 in let b = get_or-set_same s.words i m 0 (omega arith) in let c = ap (λ q. get_or (set s.words i m) q 0) same in let d = ap (λ q. get_or s.words q 0) same in omega (arith, old, more, b, c, d))
        (λ apart. let b = get_or-set_other s.words i v.list m 0 apart in omega (arith, old, b))

pub begin : (slots i : ℕ) → Enters AreMarks slots i (λ n w. begins (step slots i 0 0 none) (says 0 0, []) n (w, []))
begin slots i s r wide small = (
  says i 0,
  (r.0, λ j v e. ⊎_elim (r.1 j v) (λ (t : says i 0 ≡ v). subst (λ (u : Says). u.length ≤ get_or s.words u.list 0) t (omega arith)) (at_snoc s.views (says i 0) v j e)),
  refl,
)

module _ (slots id i n : ℕ) (me : Me Unit Says) (near : i < 2) (is : me ≡ (says i n, [])) where
  pub become : (k : ℕ) → Allows AreMarks slots id me i (λ m. max m k) (becomes (step slots i k 0 none) me)
  become k s r wide at small =
      let m : ℕ = get_or s.words i 0 in
      let after : ℕ = max m k in
      let here : get_or (set s.words i after) i 0 ≡ after = let a = r.0 in get_or-set_same s.words i after 0 (omega arith) in
      (says i k, keeps, tt, raised s id i after (says i k) r near (omega arith) (omega (arith, here)), ap (λ (q : ℕ). (says q k, me.1)) (sym (ap (λ (p : Me Unit Says). p.0.list) is)))

  pub find : Allows AreMarks slots id me i (λ m. m) (finds (step slots i 0 0 none) me)
  find s r wide at small =
      let m : ℕ = get_or s.words i 0 in
      let here : get_or (set s.words i m) i 0 ≡ m = let a = r.0 in get_or-set_same s.words i m 0 (omega arith) in
      let list : me.0.list ≡ i = ap (λ (p : Me Unit Says). p.0.list) is in
      let so : me.0.length ≤ get_or s.words me.0.list 0 = r.1 id me.0 at in
      let low : me.0.length ≤ m = subst (λ (q : ℕ). me.0.length ≤ get_or s.words q 0) list so in (
        me.0,
        keeps,
        tt,
        raised s id i m me.0 r near (omega arith) (subst (λ (q : ℕ). me.0.length ≤ get_or (set s.words i m) q 0) (sym list) (omega (arith, here, low))),
        (refl, λ q e. let l : me.0.length ≡ q = ap (λ (v : Says). v.length) e in omega (arith, l, low)),
      )
