-- No more names in one list than in another: where all of the first, none of them twice, stand in the second.
use Rattle.std.specs.Prelude.{◌≡◌, ◌+◌, ◌≤◌, ◌∷◌}
use Rattle.channel_world_runs.proofs.Words.{arith, true, false, List, [], length, inl, inr, refl, among_counts, among_self, count_without_other, or_right, decided, times, same_waiter, is_among, without_waiter, Waiter}

taken_out : (w : Waiter) (ws : List Waiter) → length (without_waiter w ws) + times w ws ≡ length ws
taken_out w [] = refl
taken_out w (v ∷ vs) = elim (decided (same_waiter w v)) [
  | inl t ↦ rw t (let h = taken_out w vs in omega (arith, h))
  | inr f ↦ rw f (let h = taken_out w vs in omega (arith, h))
]

once_less : (w v : Waiter) (vs : List Waiter) → times w (v ∷ vs) ≤ 1 → times w vs ≤ 1
once_less w v vs h = elim (decided (same_waiter w v)) [
  | inl t ↦ let one = (rw t at h) in omega (arith, one)
  | inr f ↦ rw f at h
]

-- each that stands there once does not stand behind
not_behind : (v w : Waiter) (vs : List Waiter) → times w (v ∷ vs) ≤ 1 → is_among w vs ≡ true → same_waiter w v ≡ false
not_behind v w vs once i = elim (decided (same_waiter w v)) [
  | inl t ↦ absurd (let one = (rw t at once) in let there = among_counts w vs i in omega (arith, one, there))
  | inr f ↦ f
]

-- where all of the first, none of them twice, stand in the second, it has no more
pub no_longer : (vs ws : List Waiter) → ((w : Waiter) → times w vs ≤ 1) → ((w : Waiter) → is_among w vs ≡ true → 1 ≤ times w ws)
    → length vs ≤ length ws
no_longer [] ws once there = omega arith
no_longer (v ∷ vs) ws once there =
    let out = taken_out v ws in
    let mine = there v (among_self v vs) in
    let rest = no_longer vs (without_waiter v ws) (λ w. once_less w v vs (once w)) (λ w i.
    let other = not_behind v w vs (once w) i in
    let kept = count_without_other (same_waiter w) v other ws in
    let was = there w (or_right (same_waiter w v) (is_among w vs) i) in
    omega (arith, kept, was)) in
    omega (arith, out, mine, rest)
