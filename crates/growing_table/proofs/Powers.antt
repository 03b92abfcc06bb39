-- Each number is at one place of the powers of two.
use Rattle.std.proofs.Common.{◌≡◌, ℕ, zero, suc, ◌+◌, ◌*◌, ◌^◌, ◌<◌, ◌≤◌, refl, ap, ◌∙◌, arith, pow-suc, pow_pos, pow_mono, ◌%◌, one-mul, mod-eq_of_lt}
use mathlib.Core.Logic.{dite}
use native.Mathlib.Decide.{dec_le}
use Rattle.growing_table.specs.Laid.{IsAt}

abbrev Located : ℕ → Type 0
Located k = (d : ℕ) × (j : ℕ) × IsAt k d j

next : (k d j : ℕ) → IsAt k d j → Located (suc k)
next k d j at = dite (dec_le (suc (suc j)) (2 ^ d))
    (λ h. let p : ℕ = 2 ^ d in let e : p + j ≡ k + 1 = at.0 in (d, suc j, ((let r : p + suc j ≡ suc k + 1 = omega arith in r), (let r : suc j < p = omega arith in r))))
    (λ h. let p : ℕ = 2 ^ d in let q : ℕ = 2 ^ suc d in let s : q ≡ p * 2 = pow-suc 2 d in let e : p + j ≡ k + 1 = at.0 in let l : j < p = at.1 in let b : 0 < q = pow_pos (suc d) in
    (suc d, 0, ((let r : q + 0 ≡ suc k + 1 = omega arith in r), b)))

pub located : (k : ℕ) → Located k
located zero = (0, 0, (refl, omega arith))
located (suc k) = let t = located k in next k t.0 t.1 t.2

below : (k d j d' j' : ℕ) → IsAt k d j → IsAt k d' j' → d < d' → ⊥
below k d j d' j' at at' h = let p : ℕ = 2 ^ d in let q : ℕ = 2 ^ d' in let s : 2 ^ suc d ≡ p * 2 = pow-suc 2 d in let m : 2 ^ suc d ≤ q = pow_mono h in
    let e : p + j ≡ k + 1 = at.0 in let e' : q + j' ≡ k + 1 = at'.0 in let l : j < p = at.1 in omega arith

same_power : (k d j d' j' : ℕ) → IsAt k d j → IsAt k d' j' → d ≡ d'
same_power k d j d' j' at at' = dite (dec_le d d')
    (λ h. dite (dec_le d' d) (λ h'. omega arith) (λ h'. absurd (below k d j d' j' at at' (omega arith))))
    (λ h. absurd (below k d' j' d j at' at (omega arith)))

-- there is one such place
pub same_spot : (k d j d' j' : ℕ) → IsAt k d j → IsAt k d' j' → (d ≡ d') × (j ≡ j')
same_spot k d j d' j' at at' = let e = same_power k d j d' j' at at' in
    let p : ℕ = 2 ^ d in let q : ℕ = 2 ^ d' in let s : p ≡ q = ap (λ (x : ℕ). 2 ^ x) e in let a : p + j ≡ k + 1 = at.0 in let b : q + j' ≡ k + 1 = at'.0 in (e, omega arith)

-- a shift of 1
pub shifted : (d : ℕ) → d < 64 → 1 * 2 ^ d % 18446744073709551616 ≡ 2 ^ d
shifted d h = let q : ℕ = 2 ^ d in let p : 2 ^ d ≤ 2 ^ 63 = pow_mono (let e : d ≤ 63 = omega arith in e) in let e : 1 * q ≡ q = one-mul q in
    ap (λ (x : ℕ). x % 18446744073709551616) e ∙ mod-eq_of_lt {m = 18446744073709551616} (omega arith)
