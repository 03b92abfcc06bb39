-- A step on the words is a step on the numbers: what is common to all actions.
use Rattle.std.proofs.Common.{◌≡◌, ℕ, zero, suc, ◌+◌, ◌-◌, ◌*◌, ◌/◌, ◌%◌, ◌^◌, ◌<◌, ◌≤◌, ⊎_elim, Bool, true, false, if◌then◌else◌, ◌==◌, List, [], ◌∷◌, None, Some, slice_get, slice_index, slice_index_or, slice_set, refl, ap, arith}
use Rattle.std.proofs.lemmas.Bool.Decides.{nat_tests}
use Rattle.std.proofs.Math.Nat.{mod-eq_of_lt}
use Rattle.concurrent_queue.specs.Contents.{Contents}
use Rattle.concurrent_queue.specs.machine.BlocksState.{Blocks, number}
use Rattle.concurrent_queue.specs.machine.BlocksMoves.{Moves}
use Rattle.concurrent_queue.specs.machine.BlocksDenotes.{Denotes, Shows, act_of, named, IsProper, IsTailAt, IsHeadAt}
use Rattle.concurrent_queue.specs.machine.BlocksWords.{Step}
use Rattle.concurrent_queue.specs.declared.unbounded.action.UnboundedAction.{UnboundedAction}

pub choose : {A : Type 0} (P : A → Type 0) (b : Bool) {x y : A} → (b ≡ true → P x) → (b ≡ false → P y) → P (if b then x else y)
choose P true f g = f refl
choose P false f g = g refl

pub is_eq : (m n : ℕ) → (m == n) ≡ true → m ≡ n
is_eq m n e = grind (arith, nat_tests)

pub not_eq : (m n : ℕ) → (m == n) ≡ false → m ≡ n → ⊥
not_eq m n e q = grind (arith, nat_tests)

pub eq_is : (m n : ℕ) → m ≡ n → (m == n) ≡ true
eq_is m n e = grind (arith, nat_tests)

pub eq_not : (m n : ℕ) → (m ≡ n → ⊥) → (m == n) ≡ false
eq_not m n e = grind (arith, nat_tests)

pub some_none : {A : Type 0} {x : A} → Some x ≡ None → ⊥
some_none e = absurd cc

pub some_is : {A : Type 0} {x y : A} → Some x ≡ Some y → x ≡ y
some_is e = cc

pub named_none : (w : ℕ) → w ≡ 0 → named w ≡ None
named_none zero e = refl
named_none (suc w) e = absurd (omega arith)

pub named_some : (w b : ℕ) → w ≡ b + 1 → named w ≡ Some b
named_some zero b e = absurd (omega arith)
named_some (suc w) b e = ap Some (omega arith)

-- one place of a list
pub set_get : {A : Type 0} (xs : List A) (i : ℕ) (x y : A) → slice_get xs i ≡ Some y → slice_get (slice_set xs i x) i ≡ Some x
set_get [] i x y e = absurd cc
set_get (z ∷ zs) zero x y e = refl
set_get (z ∷ zs) (suc i) x y e = set_get zs i x y e

pub set_get_other : {A : Type 0} (xs : List A) (i j : ℕ) (x : A) → (j ≡ i → ⊥) → slice_get (slice_set xs i x) j ≡ slice_get xs j
set_get_other [] i j x ne = refl
set_get_other (z ∷ zs) zero zero x ne = absurd (ne refl)
set_get_other (z ∷ zs) zero (suc j) x ne = refl
set_get_other (z ∷ zs) (suc i) zero x ne = refl
set_get_other (z ∷ zs) (suc i) (suc j) x ne = set_get_other zs i j x (λ e. ne (ap suc e))

pub index_get : (xs : List ℕ) (i w : ℕ) → slice_get xs i ≡ Some w → slice_index xs i ≡ w
index_get [] i w e = absurd cc
index_get (z ∷ zs) zero w e = cc
index_get (z ∷ zs) (suc i) w e = index_get zs i w e

pub index_or_get : {A : Type 0} (xs : List A) (i : ℕ) (x y : A) → slice_get xs i ≡ Some x → slice_index_or xs i y ≡ x
index_or_get [] i x y e = absurd cc
index_or_get (z ∷ zs) zero x y e = cc
index_or_get (z ∷ zs) (suc i) x y e = index_or_get zs i x y e

-- the offset of a position at rest
pub tail_offset : (t : ℕ) → IsTailAt t → number (t / 2) % 31 ≡ t / 2 % 32
tail_offset t w = let b = w.1 in omega arith

pub head_offset : (p : ℕ) → IsHeadAt p → number p % 31 ≡ p % 32
head_offset p w = omega arith

pub tail_place : (t : ℕ) → IsTailAt t → 31 * (number (t / 2) / 31) + t / 2 % 32 ≡ number (t / 2)
tail_place t w = let b = w.1 in omega arith

pub head_place : (p : ℕ) → IsHeadAt p → 31 * (number p / 31) + p % 32 ≡ number p
head_place p w = omega arith

-- a step of a call at a leaves x: over the numbers r it is a move, and x stands for what the move leaves
abbrev pub Yields : {T : Type 0} → Blocks T → UnboundedAction T → Step T → Type 0
Yields {T} r a x = (r' : Blocks T) × Denotes x.0 r' × Moves r (act_of a) r' (act_of x.1.action) x.1.mark x.1.ending × IsProper x.1.action

module _ {T : Type 0} (c : Contents T) (r : Blocks T) (d : Denotes c r) where
  -- a word that names no block, and one that names a block of the chain
  pub shows_none : (f w : ℕ) → Shows r f w → w ≡ 0 → f ≡ 0
  shows_none f w h e = ⊎_elim (λ g. g.0) (λ g. absurd (omega (arith, g.1))) h

  pub shows_some : (f w : ℕ) → Shows r f w → (w ≡ 0 → ⊥) → (1 ≤ f) × (w ≡ r.num (f - 1) + 1)
  shows_some f w h ne = ⊎_elim (λ g. absurd (ne g.1)) (λ g. g) h

  -- the next number of a block in the chain is a word
  pub chain_word : (k b : ℕ) → k < r.last → b ≡ r.num k → (b + 1) % 2 ^ 64 ≡ b + 1
  chain_word k b l e = let n = d.numbered k l in let f = d.few in mod-eq_of_lt (omega arith)
