-- The mark of a ring is the least power of two above its capacity, and small.
use Rattle.std.proofs.Common.{◌≡◌, ℕ, suc, ◌-◌, ◌*◌, ◌%◌, ◌^◌, ◌<◌, ◌≤◌, ⊎_elim, refl, sym, ap, ◌∙◌, subst, arith}
use Rattle.std.proofs.lemmas.Bool.{cases_lt}
use Rattle.std.proofs.lemmas.Bool.Decides.{nat_tests}
use Rattle.std.proofs.lemmas.Nat.{leading_length, leading_top, and_mask}
use Rattle.std.proofs.Math.Nat.{pow-succ'}
use Rattle.std.proofs.Math.Pow.{pow_mono}
use lib.Bits.{bit_and}
use lib.Count.{count_leading_zeros}
use Rattle.concurrent_queue.specs.machine.RingWords.{cap_of, ring_mark}

-- the width of a capacity
pub width_small : (cap : ℕ) → cap ≤ 2 ^ 58 → (64 - count_leading_zeros 64 cap < 64) × (2 ^ (64 - count_leading_zeros 64 cap) < 2 ^ 60) × (0 < 2 ^ (64 - count_leading_zeros 64 cap))
width_small cap h =
    let l = leading_length 64 cap (omega arith) in
    let e : 64 - count_leading_zeros 64 cap ≡ l.0 = omega (arith, l.1) in
    let low : 2 ^ l.0 < 2 ^ 60 = omega (arith, l.3) in
    let few : l.0 < 60 = ⊎_elim (λ g. g) (λ g. absurd (let k : 2 ^ 60 ≤ 2 ^ l.0 = pow_mono g in omega arith)) (cases_lt l.0 60) in
    let some : 1 ≤ 2 ^ l.0 = pow_mono (let g : 0 ≤ l.0 = omega arith in g) in
    (omega arith, subst (λ (n : ℕ). 2 ^ n < 2 ^ 60) (sym e) low, subst (λ (n : ℕ). 0 < 2 ^ n) (sym e) (omega arith))

pub cap_small : (n : ℕ) → cap_of n ≤ 2 ^ 58
cap_small n = grind (arith, nat_tests)

pub mark_bits : (cap : ℕ) → cap ≤ 2 ^ 58 → 1 * 2 ^ (64 - count_leading_zeros 64 cap) % 18446744073709551616 ≡ ring_mark cap
unfolding ring_mark
mark_bits cap h = let w = width_small cap h in omega (arith, w.1)

pub mark_small : (cap : ℕ) → cap ≤ 2 ^ 58 → (ring_mark cap < 2 ^ 60) × (0 < ring_mark cap)
unfolding ring_mark
mark_small cap h = let w = width_small cap h in (w.1, w.2)

-- a lap less one is a mask
pub lap_masks : (cap m : ℕ) → m ≡ ring_mark cap → (n : ℕ) → bit_and n (2 * m - 1) ≡ n % (2 * m)
unfolding ring_mark
lap_masks cap m e n =
    let w = 64 - count_leading_zeros 64 cap in
    let lap : 2 ^ suc w ≡ 2 * m = pow-succ' 2 w ∙ ap (λ (k : ℕ). 2 * k) (sym e) in
    subst (λ (k : ℕ). bit_and n (k - 1) ≡ n % k) lap (and_mask n (suc w))

-- what the mark of a ring is
pub record IsMark (cap m : ℕ) : Type 0 where
  pub wide : cap < m
  pub near : m ≤ 2 * cap
  pub power : (k : ℕ) × (m ≡ 2 ^ k)

pub mark_is : (cap : ℕ) → 0 < cap → cap ≤ 2 ^ 58 → IsMark cap (ring_mark cap)
unfolding ring_mark
mark_is cap some h =
    let l = leading_top 64 cap some (omega arith) in
    let e : 64 - count_leading_zeros 64 cap ≡ suc l.0 = omega (arith, l.1) in
    record {
      wide = subst (λ (n : ℕ). cap < 2 ^ n) (sym e) l.3;
      near = subst (λ (n : ℕ). 2 ^ n ≤ 2 * cap) (sym e) (omega (arith, l.2));
      power = (64 - count_leading_zeros 64 cap, refl);
    }
