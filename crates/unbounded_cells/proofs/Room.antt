-- The spare list has a place for a block that is given back: each number stands on it at most once.
use Rattle.std.proofs.Common.{◌≡◌, ℕ, zero, suc, ◌+◌, ◌<◌, ◌≤◌, ⊎_elim, true, nat_lt, List, [], ◌∷◌, length, refl, subst, arith}
use Rattle.std.proofs.lemmas.Bool.{cases_lt}
use Rattle.std.proofs.lemmas.Bool.Decides.{nat_tests}
use Rattle.concurrent_queue.specs.Contents.{with_spare}
use Rattle.concurrent_queue.specs.machine.BlocksDenotes.{times}
use Rattle.unbounded_cells.proofs.Blocks.{same_is, same_not}

-- how many entries of a list are below m
total : ℕ → List ℕ → ℕ
total zero xs = 0
total (suc m) xs = times m xs + total m xs

total_past : (m x : ℕ) (xs : List ℕ) → m ≤ x → total m (x ∷ xs) ≡ total m xs
unfolding total
total_past zero x xs h = refl
total_past (suc m) x xs h = let s = same_not x m (λ e. omega arith) in omega (arith, s, total_past m x xs (omega arith))

total_below : (m x : ℕ) (xs : List ℕ) → x < m → total m (x ∷ xs) ≡ total m xs + 1
unfolding total
total_below zero x xs h = absurd (omega arith)
total_below (suc m) x xs h = ⊎_elim
    (λ g. let s = same_not x m (λ e. omega arith) in omega (arith, s, total_below m x xs g))
    (λ g. let s = same_is x m (omega arith) in omega (arith, s, total_past m x xs g)) (cases_lt x m)

total_none : (m : ℕ) → total m [] ≡ 0
unfolding total
total_none zero = refl
total_none (suc m) = omega (arith, total_none m)

total_all : (m : ℕ) (xs : List ℕ) → ((j : ℕ) → m ≤ j → times j xs ≡ 0) → total m xs ≡ length xs
total_all m [] h = total_none m
total_all m (x ∷ xs) h = ⊎_elim
    (λ g. omega (arith, total_below m x xs g, total_all m xs (λ j l. (let e = h j l in omega arith))))
    (λ g. absurd (let e = h x g in let s = same_is x x refl in omega arith)) (cases_lt x m)

total_most : (m : ℕ) (xs : List ℕ) → ((j : ℕ) → times j xs ≤ 1) → total m xs ≤ m
unfolding total
total_most zero xs h = omega arith
total_most (suc m) xs h = omega (arith, h m, total_most m xs h)

total_free : (m b : ℕ) (xs : List ℕ) → ((j : ℕ) → times j xs ≤ 1) → b < m → times b xs ≡ 0 → total m xs < m
unfolding total
total_free zero b xs h l e = absurd (omega arith)
total_free (suc m) b xs h l e = ⊎_elim
    (λ g. omega (arith, h m, total_free m b xs h g e))
    (λ g. (let q : times m xs ≡ 0 = subst (λ (j : ℕ). times j xs ≡ 0) (omega arith) e in omega (arith, q, total_most m xs h))) (cases_lt b m)

pub room : (m b : ℕ) (xs : List ℕ) → ((j : ℕ) → times j xs ≤ 1) → ((j : ℕ) → m ≤ j → times j xs ≡ 0) → b < m → times b xs ≡ 0 → with_spare xs m b ≡ b ∷ xs
room m b xs once low l e =
    let a = total_all m xs low in let f = total_free m b xs once l e in
    let q : nat_lt (length xs) m ≡ true = grind (arith, nat_tests) in rw q refl
