-- Each step on a guard keeps the rule.
use Rattle.std.proofs.Common.{◌≡◌, ◌≢◌, ℕ, zero, suc, ◌+◌, ◌<◌, ◌≤◌, ◌^◌, eqb, is_some, true≢false, List, [], ◌∷◌, ◌++◌, length, replicate, get_or, set, refl, sym, ap, ◌∙◌, subst, arith, length-set, get_or-set_same, get_or-set_other, eq-eqb, ne_eqb, Bool}
use Rattle.std.specs.Prelude.{Option, Some, None}
use mathlib.Core.Option.{some}
use mathlib.Core.Logic.{dite}
use native.Mathlib.Decide.{ℕ_discrete}
use lib.ListN.{get_elem?}
use prog.Atomic.{either}
use Rattle.growing_table.specs.State.{BlockState, State, Me, Goes, Allows, Makes, block, block_of, no_block, blank, state, step, own, within, count, keeps, takes, gives, blocks_with}
use Rattle.growing_table_tests.specs.Guarded.{Sound, AllSound, Guarded, won, gave, looked}

zeros_long : {A : Type 0} (n : ℕ) (a : A) → length (replicate n a) ≡ n
zeros_long zero a = refl
zeros_long (suc n) a = ap suc (zeros_long n a)

module _ {S : Type 0} where
  -- one block is another
  sound_set : (bs : List (BlockState S)) (n : ℕ) (b : BlockState S) → n < length bs → ((m : ℕ) → m ≢ n → Sound (block bs m)) → Sound b → AllSound (set bs n b)
  sound_set bs n b near others good m = dite (ℕ_discrete m n)
      (λ e. subst Sound (sym (ap (block (set bs n b)) e ∙ get_or-set_same bs n b no_block near)) good)
      (λ ne. subst Sound (sym (get_or-set_other bs n m b no_block ne)) (others m ne))

  -- the guard of a slot, and what is there, are others
  module _ (b : BlockState S) (good : Sound b) (j w : ℕ) (h : Option S) (ok : j < length b.homes → w ≡ 0 → (y : S) × (h ≡ Some y)) where
    abbrev b' : BlockState S
    b' = block_of (set b.words j w) (set b.homes j h)

    changed : Sound b'
    changed = (
      length-set b.words j w ∙ (good.0 ∙ sym (length-set b.homes j h)),
      λ i near is. let near' : i < length b.homes = subst (λ (x : ℕ). i < x) (length-set b.homes j h) near in dite (ℕ_discrete i j)
          (λ e. let at : j < length b.homes = subst (λ (x : ℕ). x < length b.homes) e near' in let at' : j < length b.words = subst (λ (x : ℕ). j < x) (sym good.0) at in
          let free : w ≡ 0 = sym (get_or-set_same b.words j w 0 at') ∙ (ap (λ (x : ℕ). get_or (set b.words j w) x 0) (sym e) ∙ is) in
          let y = ok at free in (y.0, ap (λ (x : ℕ). get_or (set b.homes j h) x None) e ∙ (get_or-set_same b.homes j h None at ∙ y.1)))
          (λ ne. let y = good.1 i near' (sym (get_or-set_other b.words j i w 0 ne) ∙ is) in (y.0, get_or-set_other b.homes j i h None ne ∙ y.1)),
    )

  -- both at once, as a step and its act have it
  module _ (bs : List (BlockState S)) (good : AllSound bs) (n j w : ℕ) (near : n < length bs) where
    abbrev b : BlockState S
    b = block bs n

    abbrev one : List (BlockState S)
    one = blocks_with bs (within n j) w

    abbrev b₁ : BlockState S
    b₁ = block_of (set b.words j w) b.homes

    here : block one n ≡ b₁
    here = get_or-set_same bs n b₁ no_block near

    both : (h : Option S) → (j < length b.homes → w ≡ 0 → (y : S) × (h ≡ Some y)) → AllSound (Rattle.growing_table.specs.State.with_home one n j h)
    both h ok = sound_set one n (block_of (block one n).words (set (block one n).homes j h)) (subst (λ (x : ℕ). n < x) (sym (length-set bs n b₁)) near)
        (λ m ne. subst Sound (sym (get_or-set_other bs n m b₁ no_block ne)) (good m))
        (subst (λ (x : BlockState S). Sound (block_of x.words (set x.homes j h))) (sym here) (changed b (good n) j w h ok))

    same : w ≢ 0 → AllSound one
    same busy = sound_set bs n b₁ near (λ m ne. good m) (
      length-set b.words j w ∙ (good n).0,
      λ i near' is. dite (ℕ_discrete i j)
          (λ e. let at' : j < length b.words = subst (λ (x : ℕ). x < length b.words) e (subst (λ (x : ℕ). i < x) (sym (good n).0) near') in
          absurd (busy (sym (get_or-set_same b.words j w 0 at') ∙ (ap (λ (x : ℕ). get_or (set b.words j w) x 0) (sym e) ∙ is))))
          (λ ne. (good n).1 i near' (sym (get_or-set_other b.words j i w 0 ne) ∙ is)),
    )

  -- a new block
  all_at_home : (n j : ℕ) (y : S) → j < length (replicate n (Some y)) → get_or (replicate n (Some y)) j None ≡ Some y
  all_at_home zero j y h = absurd (omega arith)
  all_at_home (suc n) zero y h = refl
  all_at_home (suc n) (suc j) y h = all_at_home n j y (omega arith)

  pub more : (bs : List (BlockState S)) (n : ℕ) (x : S) → AllSound bs → AllSound (bs ++ blank n x ∷ [])
  more [] n x good zero = (zeros_long n 0 ∙ sym (zeros_long n (Some x)), λ j near is. (x, all_at_home n j x near))
  more [] n x good (suc m) = (refl, λ j near is. absurd (omega arith))
  more (b ∷ bs) n x good zero = good zero
  more (b ∷ bs) n x good (suc m) = more bs n x (λ k. good (suc k)) m

module _ {S V : Type 0} (id : ℕ) (m : Me S V) where
  -- where a guard is 0 it becomes 1, and the slot is taken
  pub wins : (n j : ℕ) → Allows Guarded id m (within n j) (λ (w : ℕ). either (eqb w 0) 1 w) (won (step (within n j) 0 1) m)
  wins n j s good lies has small = let bs : List (BlockState S) = s.blocks in let b : BlockState S = block bs n in let w : ℕ = get_or b.words j 0 in
      let Next : Bool → Type 0 = λ (t : Bool). Goes Guarded s.words (blocks_with bs (within n j) (either t 1 w)) s.views id m (won (step (within n j) 0 1) m w) in
      dite (ℕ_discrete w 0)
      (λ e. let y = (good n).1 j (subst (λ (x : ℕ). j < x) (good n).0 has.1) e in let at = ap (λ (x : BlockState S). get_or x.homes j None) (here s.blocks good n j 1 has.0) in
      subst Next (sym (eq-eqb w 0 e)) (m.view, takes n j y.0, at ∙ y.1, both bs good n j 1 has.0 None (λ _ z. absurd (let q : 1 ≡ 0 = z in omega arith)), ((λ _. (y.0, refl)), λ ne. absurd (ne e))))
      (λ ne. subst Next (sym (ne_eqb w 0 ne)) (m.view, keeps, tt, same bs good n j w has.0 ne, ((λ e. absurd (ne e)), λ _. refl)))

  -- the slot is given back, with its guard
  pub gives_back : (n j : ℕ) (y : S) → m.hand ≡ Some (n, j, y) → Allows Guarded id m (within n j) (λ (_ : ℕ). 0) (λ (_ : ℕ). gave (step (within n j) 0 0) m 0)
  gives_back n j y out s good here' has small = (m.view, gives n j y, out, both s.blocks good n j 0 has.0 (Some y) (λ _ _. (y, refl)), refl)

  -- the number of blocks is read
  pub looks : Allows Guarded id m count (λ (r : ℕ). r) (looked (step count 0 0) m)
  looks s good here' has small = (m.view, keeps, tt, good, refl)

  pub makes : (n : ℕ) (x : S) → Makes Guarded n x id m (looked (step count 0 0) m)
  makes n x s good here' few = (m.view, more s.blocks n x good, refl)
