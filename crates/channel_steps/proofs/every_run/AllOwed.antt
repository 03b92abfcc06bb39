-- Where one call tells all of a list, one that waits there is owed no number: there is no cause, or a call is to tell. As numbers that is
-- the one law of `Owed`, in which such a call counts for one.
use Rattle.std.proofs.Common.{◌≡◌, ℕ, zero, suc, ◌≤◌, List, [], ◌∷◌, ◌⊎◌, ⊎_elim, inl, inr, refl, arith}
use Rattle.channel_steps.proofs.every_run.Words.{Phase, Key, Channel, ChannelAsk, Stage, ActiveCall, Configuration, Known, AllKnown, total, Any}
use Rattle.channel_steps.proofs.every_run.AnyFacts.{any_either, any_weaker}

module _ {T W : Type 0} (Free : Channel T W → Type 0) (Tells : ActiveCall T W → Type 0) (Holds : Key → Stage (Phase T) T W → Type 0)
    (weigh : ChannelAsk T W → Stage (Phase T) T W → ℕ) where
  abbrev pub FreeOrTold : Channel T W → ℕ → Type 0
  FreeOrTold c n = Free c ⊎ (1 ≤ n)

  pub free_more : (c : Channel T W) (m n : ℕ) → m ≤ n → FreeOrTold c m → FreeOrTold c n
  free_more c m n less h = ⊎_elim (λ k. inl k) (λ k. inr (omega (arith, less, k))) h

  any_counts : ((u : ActiveCall T W) → Tells u → 1 ≤ weigh u.ask u.at) → (us : List (ActiveCall T W)) → Any Tells us → 1 ≤ total weigh us
  any_counts f [] h = absurd h
  any_counts f (u ∷ us) (inl h) = let k = f u h in omega (arith, k)
  any_counts f (u ∷ us) (inr h) = let k = any_counts f us h in omega (arith, k)

  counts_any : (c : Channel T W) → ((u : ActiveCall T W) → Known c u → 1 ≤ weigh u.ask u.at → Tells u) → (us : List (ActiveCall T W)) → AllKnown c us
      → 1 ≤ total weigh us → Any Tells us
  counts_any c f [] known h = absurd (omega (arith, h))
  counts_any c f (u ∷ us) known h = by (weigh u.ask u.at) refl (λ k. counts_any c f us known.1 k)
    where
      by : (n : ℕ) → weigh u.ask u.at ≡ n → (1 ≤ total weigh us → Any Tells us) → Any Tells (u ∷ us)
      by zero e later = inr (later (omega (arith, h, e)))
      by (suc n) e later = inl (f u known.0 (omega (arith, e)))

  module _ (s : Configuration T W) (key : Key) where
    abbrev Counted : Type 0
    Counted = FreeOrTold s.now (total weigh s.under_way) ⊎ Any (λ u. Holds key u.at) s.under_way

    abbrev Answered : Type 0
    Answered = Free s.now ⊎ Any (λ u. Tells u ⊎ Holds key u.at) s.under_way

    pub as_counts : ((u : ActiveCall T W) → Tells u → 1 ≤ weigh u.ask u.at) → Answered → Counted
    as_counts f (inl h) = inl (inl h)
    as_counts f (inr h) =
        ⊎_elim (λ k. inl (inr (any_counts f s.under_way k))) (λ k. inr k) (any_either Tells (λ u. Holds key u.at) s.under_way h)

    pub as_calls : ((u : ActiveCall T W) → Known s.now u → 1 ≤ weigh u.ask u.at → Tells u) → AllKnown s.now s.under_way → Counted → Answered
    as_calls f known (inl (inl h)) = inl h
    as_calls f known (inl (inr h)) =
        inr (any_weaker Tells (λ u. Tells u ⊎ Holds key u.at) (λ u k. inl k) s.under_way (counts_any s.now f s.under_way known h))
    as_calls f known (inr h) = inr (any_weaker (λ u. Holds key u.at) (λ u. Tells u ⊎ Holds key u.at) (λ u k. inr k) s.under_way h)
