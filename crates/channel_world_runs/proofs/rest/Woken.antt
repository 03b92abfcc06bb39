-- Those who were woken: how often they stand there.
use Rattle.std.specs.Prelude.{◌≡◌, ◌≤◌, ◌+◌, ◌∷◌}
use Rattle.channel_world_runs.proofs.Lemmas.{ℕ, true, false, List, [], Option, None, Some, IsSome, inl, inr, refl, subst, arith, false_from_ne_true, WaitList, Sends, Receives, Streams, Closings, same_sound, decided, absent_counts, same_refl, Kind, times, same_waiter, is_among, Waiter, NoneTwice, among_is}
use Rattle.channel_world_runs.specs.refinement.Refines.{of_line}

-- where none stands twice
pub none_twice_times : (w : Waiter) (ws : List Waiter) → NoneTwice ws → times w ws ≤ 1
none_twice_times w [] h = omega arith
none_twice_times w (v ∷ ws) h = elim (decided (same_waiter w v)) [
  | inl t ↦
      let out : is_among w ws ≡ false = false_from_ne_true (is_among w ws) (λ i.
      h.0 (among_is v ws (subst (λ (x : Waiter). is_among x ws ≡ true) (same_sound w v t) i))) in
      rw t (omega (arith, absent_counts w ws out))
  | inr t ↦ rw t (none_twice_times w ws h.1)
]

-- who stands how often: each belongs to one line
module _ (kind : Kind) where
  abbrev four : Waiter → List Waiter → ℕ
  four w ws =
      times w (of_line kind Sends ws) + times w (of_line kind Receives ws) + times w (of_line kind Streams ws) + times w
      (of_line kind Closings ws)

  by_line : (l : WaitList) (w v : Waiter) (ws : List Waiter) → kind v ≡ Some l → times w ws ≡ four w ws
      → times w (v ∷ ws) ≡ four w (v ∷ ws)
  by_line Sends w v ws e h = rw e (elim (decided (same_waiter w v)) [
    | inl t ↦ rw t (omega (arith, h))
    | inr f ↦ rw f h
  ])
  by_line l w v ws e h = rw e (elim (decided (same_waiter w v)) [
    | inl t ↦ rw t (omega (arith, h))
    | inr f ↦ rw f h
  ])

  pub by_lines : (w : Waiter) (ws : List Waiter) → ((v : Waiter) → is_among v ws ≡ true → IsSome (kind v))
      → times w ws ≡ four w ws
  by_lines w [] all = refl
  by_lines w (v ∷ ws) all = by (kind v) refl (all v (rw (same_refl v) refl)) (by_lines w ws (λ x i. all x (behind x i)))
    where
      behind : (x : Waiter) → is_among x ws ≡ true → is_among x (v ∷ ws) ≡ true
      behind x i = elim (decided (same_waiter x v)) [
        | inl t ↦ rw t refl
        | inr f ↦ rw f i
      ]

      by : (o : Option WaitList) → kind v ≡ o → IsSome o → times w ws ≡ four w ws → times w (v ∷ ws) ≡ four w (v ∷ ws)
      by None e h more = cc h
      by (Some l) e h more = by_line l w v ws e more
