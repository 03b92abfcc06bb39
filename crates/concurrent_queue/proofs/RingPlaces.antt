-- Arithmetic of positions: each message has one, they grow, and a lap later the index is the same.
use Rattle.std.proofs.Common.{◌≡◌, ℕ, zero, suc, ◌+◌, ◌-◌, ◌*◌, ◌/◌, ◌%◌, ◌<◌, ◌≤◌, ◌⊎◌, ⊎_elim, if◌then◌else◌, nat_lt, ap, subst, arith}
use Rattle.std.proofs.lemmas.Nat.{div-mul-add, mod-mul-add, div-add-mod', mod_below}
use Rattle.std.proofs.lemmas.Bool.{cases_lt}
use Rattle.std.proofs.Math.Nat.{mul-le-mul_left}
use Rattle.std.proofs.lemmas.Bool.Decides.{nat_tests}
use Rattle.concurrent_queue.specs.machine.Positions.{pos}

module _ (cap : ℕ) where
  rows_apart : (a b : ℕ) → a < b → a * cap + cap ≤ b * cap
  rows_apart a b h = grind (arith, mul-le-mul_left cap (let g : a + 1 ≤ b = omega arith in g))

  split : (n : ℕ) → n / cap * cap + n % cap ≡ n
  split n = div-add-mod' n cap

  -- two numbers of one index that are less than a capacity apart are one
  pub near_same : (m n : ℕ) → m % cap ≡ n % cap → n ≤ m → m < n + cap → m ≡ n
  near_same m n e h g =
      let a = split m in let b = split n in
      ⊎_elim (λ l. absurd (let k : (m / cap) * cap + cap ≤ (n / cap) * cap = rows_apart (m / cap) (n / cap) l in omega arith))
      (λ l. ⊎_elim (λ l'. absurd (let k : (n / cap) * cap + cap ≤ (m / cap) * cap = rows_apart (n / cap) (m / cap) l' in omega arith))
      (λ l'. let q : m / cap ≡ n / cap = omega arith in omega (arith, ap (λ (x : ℕ). x * cap) q)) (cases_lt (n / cap) (m / cap))) (cases_lt (m / cap) (n / cap))

module _ (cap : ℕ) (some : 0 < cap) where
  -- the n-th item and the one a capacity later have one index
  pub turn-index : (n : ℕ) → (n + cap) % cap ≡ n % cap
  turn-index n =
      let e : (n / cap + 1) * cap + n % cap ≡ n + cap = omega (arith, split cap n) in
      subst (λ (m : ℕ). m % cap ≡ n % cap) e (mod-mul-add (n / cap + 1) cap (n % cap) (mod_below n cap some))

  turn-div : (n : ℕ) → (n + cap) / cap ≡ n / cap + 1
  turn-div n =
      let e : (n / cap + 1) * cap + n % cap ≡ n + cap = omega (arith, split cap n) in
      subst (λ (m : ℕ). m / cap ≡ n / cap + 1) e (div-mul-add (n / cap + 1) cap (n % cap) (mod_below n cap some))

  -- the next one
  inside : (n : ℕ) → n % cap + 1 < cap → ((n + 1) / cap ≡ n / cap) × ((n + 1) % cap ≡ n % cap + 1)
  inside n h =
      let e : n / cap * cap + (n % cap + 1) ≡ n + 1 = omega (arith, split cap n) in
      (subst (λ (m : ℕ). m / cap ≡ n / cap) e (div-mul-add (n / cap) cap (n % cap + 1) h), subst (λ (m : ℕ). m % cap ≡ n % cap + 1) e (mod-mul-add (n / cap) cap (n % cap + 1) h))

  at_end : (n : ℕ) → cap ≤ n % cap + 1 → ((n + 1) / cap ≡ n / cap + 1) × ((n + 1) % cap ≡ 0)
  at_end n h =
      let e : (n / cap + 1) * cap + 0 ≡ n + 1 = (let b = mod_below n cap some in omega (arith, split cap n)) in
      (subst (λ (m : ℕ). m / cap ≡ n / cap + 1) e (div-mul-add (n / cap + 1) cap 0 some), subst (λ (m : ℕ). m % cap ≡ 0) e (mod-mul-add (n / cap + 1) cap 0 some))

  or_at_end : (n : ℕ) → (n % cap + 1 < cap) ⊎ (cap ≤ n % cap + 1)
  or_at_end n = cases_lt (n % cap + 1) cap

  module _ (lap : ℕ) (wide : cap < lap) where
    pub pos-index : (n : ℕ) → pos cap lap n % lap ≡ n % cap
    unfolding pos
    pos-index n = mod-mul-add (n / cap) lap (n % cap) (let h = mod_below n cap some in omega arith)

    pub pos-turn : (n : ℕ) → pos cap lap (n + cap) ≡ pos cap lap n + lap
    unfolding pos
    pos-turn n = rw (turn-div n, turn-index n) (omega arith)

    pub pos-below : (n : ℕ) → pos cap lap n < pos cap lap (n + 1)
    unfolding pos
    pos-below n = ⊎_elim
        (λ h. let e = inside n h in rw (e.0, e.1) (omega arith))
        (λ h. let e = at_end n h in let b = mod_below n cap some in rw (e.0, e.1) (omega arith)) (or_at_end n)

    pub pos-more : (n k : ℕ) → pos cap lap n < pos cap lap (n + suc k)
    pos-more n zero = pos-below n
    pos-more n (suc k) = omega (arith, pos-more n k, pos-below (n + suc k), let e : n + suc k + 1 ≡ n + suc (suc k) = omega arith in ap (pos cap lap) e)

    pub pos-less : (m n : ℕ) → m < n → pos cap lap m < pos cap lap n
    pos-less m n h =
        let e : m + suc (n - m - 1) ≡ n = omega arith in
        subst (λ (x : ℕ). pos cap lap m < pos cap lap x) e (pos-more m (n - m - 1))

    pub pos-same : (m n : ℕ) → pos cap lap m ≡ pos cap lap n → m ≡ n
    pos-same m n e = ⊎_elim
        (λ h. absurd (omega (arith, pos-less m n h)))
        (λ h. ⊎_elim (λ g. absurd (omega (arith, pos-less n m g))) (λ g. omega arith) (cases_lt n m)) (cases_lt m n)

    pub pos-next : (n : ℕ) → pos cap lap n + (if nat_lt (pos cap lap n % lap + 1) cap then 1 else lap - pos cap lap n % lap) ≡ pos cap lap (n + 1)
    unfolding pos
    pos-next n = ⊎_elim
        (λ h. let e = inside n h in rw (pos-index n, e.0, e.1) (grind (arith, nat_tests)))
        (λ h. let e = at_end n h in let b = mod_below n cap some in rw (pos-index n, e.0, e.1) (grind (arith, nat_tests))) (or_at_end n)

    pub pos-div : (n : ℕ) → pos cap lap n / lap ≡ n / cap
    unfolding pos
    pos-div n = div-mul-add (n / cap) lap (n % cap) (let h = mod_below n cap some in omega arith)
