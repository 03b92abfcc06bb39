-- Lists of empty slots, and blocks by their numbers.
use Rattle.std.proofs.Common.{◌≡◌, ℕ, zero, suc, ◌+◌, ◌<◌, ◌≤◌, List, [], ◌∷◌, ◌++◌, length, map, drop, Option, None, Some, slice_get, slice_set, Result, Ok, Err, MatchResult, true, false, refl, sym, ap, ◌∙◌, subst, arith, append-nil}
use Rattle.std.proofs.lemmas.List.{map-set}
use Rattle.concurrent_queue.specs.Contents.{BlockCells, nones, no_block, block_in, is_vacant, with_slot, PutGivesIn}
use Rattle.concurrent_queue.specs.Plain.{block_of}
use Rattle.concurrent_queue.specs.declared.pool.PlainBlock.{PlainBlock}

module _ {T : Type 0} where
  unfoldable pub empties : ℕ → List (Option T)
  empties zero = []
  empties (suc n) = None ∷ empties n

  pub one_more : (n : ℕ) → empties n ++ None ∷ [] ≡ empties (n + 1)
  unfolding empties
  one_more zero = refl
  one_more (suc n) = let e : suc (n + 1) ≡ suc n + 1 = omega arith in ap (λ (xs : List (Option T)). None ∷ xs) (one_more n) ∙ ap empties e

  pub emptied_more : (n : ℕ) (xs : List (Option T)) → n < length xs → slice_set (empties n ++ drop n xs) n None ≡ empties (n + 1) ++ drop (n + 1) xs
  unfolding empties
  emptied_more n [] h = absurd (omega arith)
  emptied_more zero (x ∷ xs) h = refl
  emptied_more (suc n) (x ∷ xs) h =
      let e : suc (n + 1) ≡ suc n + 1 = omega arith in
      ap (λ (ys : List (Option T)). None ∷ ys) (emptied_more n xs (omega arith)) ∙ ap (λ (k : ℕ). empties k ++ drop k (x ∷ xs)) e

  pub drop_all : (n : ℕ) (xs : List (Option T)) → length xs ≤ n → drop n xs ≡ []
  drop_all zero [] h = refl
  drop_all (suc n) [] h = refl
  drop_all zero (x ∷ xs) h = absurd (omega arith)
  drop_all (suc n) (x ∷ xs) h = drop_all n xs (omega arith)

  pub all_empty : (xs : List (Option T)) (n : ℕ) → n ≡ 31 → xs ≡ empties n → xs ≡ nones
  unfolding empties nones
  all_empty xs n e f = f ∙ ap empties e ∙ refl

  pub all_emptied : (xs ys : List (Option T)) → length ys ≡ 31 → xs ≡ empties 31 ++ drop 31 ys → xs ≡ nones
  all_emptied xs ys e f =
      all_empty xs 31 refl (f ∙ ap (λ (zs : List (Option T)). empties 31 ++ zs) (drop_all 31 ys (omega arith)) ∙ append-nil (empties 31))

  -- blocks by their numbers
  pub found : (xs : List (PlainBlock T)) (i : ℕ) (x : PlainBlock T) → slice_get xs i ≡ Some x → block_in (map block_of xs) i ≡ block_of x
  found [] i x e = absurd cc
  found (y ∷ xs) zero x e = let same : y ≡ x = cc in ap block_of same
  found (y ∷ xs) (suc i) x e = found xs i x e

  pub beyond : (xs : List (PlainBlock T)) (i : ℕ) → length xs ≤ i → block_in (map block_of xs) i ≡ no_block
  beyond [] i h = refl
  beyond (y ∷ xs) zero h = absurd (omega arith)
  beyond (y ∷ xs) (suc i) h = beyond xs i (omega arith)

  pub changed : (xs ys : List (PlainBlock T)) (i : ℕ) (y : PlainBlock T) (g : BlockCells T) → ys ≡ slice_set xs i y → block_of y ≡ g → map block_of ys ≡ slice_set (map block_of xs) i g
  changed xs ys i y g e f = ap (λ (zs : List (PlainBlock T)). map block_of zs) e ∙ map-set block_of xs i y ∙ ap (λ (b : BlockCells T). slice_set (map block_of xs) i b) f

  pub unchanged : (xs : List (PlainBlock T)) (i : ℕ) (g : BlockCells T) → length xs ≤ i → map block_of xs ≡ slice_set (map block_of xs) i g
  unchanged [] i g h = refl
  unchanged (y ∷ xs) zero g h = absurd (omega arith)
  unchanged (y ∷ xs) (suc i) g h = ap (λ (bs : List (BlockCells T)). block_of y ∷ bs) (unchanged xs i g (omega arith))

  -- one of them is changed
  pub edited : (xs : List (PlainBlock T)) (i : ℕ) (x y : PlainBlock T) (f : BlockCells T → BlockCells T) → slice_get xs i ≡ Some x → block_of y ≡ f (block_of x)
      → map block_of (slice_set xs i y) ≡ slice_set (map block_of xs) i (f (block_in (map block_of xs) i))
  edited xs i x y f there e =
      changed xs (slice_set xs i y) i y (f (block_in (map block_of xs) i)) refl (e ∙ ap f (sym (found xs i x there)))

  same_set : (xs : List (BlockCells T)) (i : ℕ) (x : BlockCells T) → slice_get xs i ≡ Some x → slice_set xs i x ≡ xs
  same_set [] i x e = absurd cc
  same_set (y ∷ xs) zero x e = let same : x ≡ y = cc in ap (λ (b : BlockCells T). b ∷ xs) same
  same_set (y ∷ xs) (suc i) x e = ap (λ (bs : List (BlockCells T)). y ∷ bs) (same_set xs i x e)

  there_of : (xs : List (PlainBlock T)) (i : ℕ) (x : PlainBlock T) → slice_get xs i ≡ Some x → slice_get (map block_of xs) i ≡ Some (block_of x)
  there_of [] i x e = absurd cc
  there_of (y ∷ xs) zero x e = let same : y ≡ x = cc in ap (λ (z : PlainBlock T). Some (block_of z)) same
  there_of (y ∷ xs) (suc i) x e = there_of xs i x e

  pub put_in : (xs : List (PlainBlock T)) (i o : ℕ) (v : T) (x y : PlainBlock T) → slice_get xs i ≡ Some x → (r : Result Unit T)
      → MatchResult r
      (λ _. (is_vacant (slice_get (block_of x).slots o) ≡ true) × (block_of y ≡ with_slot (block_of x) o (Some v)))
      (λ w. (is_vacant (slice_get (block_of x).slots o) ≡ false) × (w ≡ v) × (block_of y ≡ block_of x))
      → PutGivesIn (map block_of xs) i o v r (map block_of (slice_set xs i y))
  put_in xs i o v x y there (Ok u) h =
      (subst (λ (b : BlockCells T). is_vacant (slice_get b.slots o) ≡ true) (sym (found xs i x there)) h.0, edited xs i x y (λ b. with_slot b o (Some v)) there h.1)
  put_in xs i o v x y there (Err w) h = (
    subst (λ (b : BlockCells T). is_vacant (slice_get b.slots o) ≡ false) (sym (found xs i x there)) h.0,
    h.1,
    changed xs (slice_set xs i y) i y (block_of x) refl h.2 ∙ same_set (map block_of xs) i (block_of x) (there_of xs i x there),
  )
