-- Two clones of a sender, merged.
use Rattle.std.proofs.Common.{◌≡◌, ℕ, ◌==◌, ◌<◌, ◌^◌, Bool, true, false, [], None, Some, inr, refl, subst, arith}
use Rattle.channel_steps.proofs.every_run.Words.{QueueForm, up, Parts, new_wait_lists, with_count, with_wait_lists, nothing_kept, Senders, Working, Finished, Load, Raise, Made, Clone, Acts, own, opened_parts, InOneOrder, two_clones, parts_of_three, given_made, both_made, TwoClonesMerge}
use Rattle.concurrent_queue.proofs.Callers.{is_same}
use Rattle.channel_calls.specs.declared.mark.Mark.TheVariants.{Nothing}

module _ (T W : Type 0) (form : QueueForm) where
  first : Acts {T = T} {W = W} form None (own 1 two_clones) given_made
  first = (
    Working (Load Senders Clone),
    (refl, refl),
    (
      Nothing,
      Working (Raise Senders 1 Clone),
      None,
      (1, refl, (refl, (refl, refl))),
      (
        Nothing,
        Working (Load Senders Clone),
        None,
        (false, refl, (refl, (refl, refl))),
        (
          Nothing,
          Working (Raise Senders 2 Clone),
          None,
          (2, refl, (refl, (refl, refl))),
          (up Senders, Finished nothing_kept, Some Made, (true, refl, (refl, (refl, refl))), ([], refl, refl)),
        ),
      ),
    ),
  )

  second : Acts {T = T} {W = W} form None (own 2 two_clones) given_made
  second = (
    Working (Load Senders Clone),
    (refl, refl),
    (
      Nothing,
      Working (Raise Senders 1 Clone),
      None,
      (1, refl, (refl, (refl, refl))),
      (up Senders, Finished nothing_kept, Some Made, (true, refl, (refl, (refl, refl))), ([], refl, refl)),
    ),
  )

  each : (p : ℕ) (a b : Bool) → (1 == p) ≡ a → (2 == p) ≡ b → Acts {T = T} {W = W} form None (own p two_clones) (both_made p)
  each p true b e f = subst (λ (n : ℕ). Acts {T = T} {W = W} form None (own n two_clones) (both_made n)) (is_same 1 p e) first
  each p false true e f = subst (λ (n : ℕ). Acts {T = T} {W = W} form None (own n two_clones) (both_made n)) (is_same 2 p f) second
  each p false false e f = rw (e, f) refl

  abbrev new : Parts T W
  new = opened_parts form

  abbrev two : Parts T W
  two = with_wait_lists (with_count Senders 2 new_wait_lists) new

  in_turn : {S : Type 0} (wakes : S → W → S → Type 0) (sink : S) → InOneOrder {T = T} wakes two_clones (new, sink) (parts_of_three form, sink)
  in_turn wakes sink =
      let start : Parts T W × _ = (new, sink) in
      let counted_two : Parts T W × _ = (two, sink) in
      let end : Parts T W × _ = (parts_of_three form, sink) in (
        start,
        refl,
        (
          start,
          refl,
          (
            start,
            ((refl, refl), refl),
            (
              start,
              ((refl, refl), refl),
              (
                counted_two,
                ((refl, refl), refl),
                (counted_two, ((refl, refl), refl), (counted_two, ((refl, refl), refl), (end, ((refl, refl), refl), refl))),
              ),
            ),
          ),
        ),
      )

pub two_clones_merge : (T W S : Type 0) (wakes : S → W → S → Type 0) → TwoClonesMerge T W S wakes
two_clones_merge T W S wakes form sink =
    let few : 8 < 2 ^ 61 = omega arith in
    (inr few, λ p. each T W form p (1 == p) (2 == p) refl refl, in_turn T W form wakes sink)
