-- What the calls under way count for together, before and after one begins or makes a step.
use Rattle.std.proofs.Common.{◌≡◌, ℕ, ◌+◌, ◌≤◌, List, [], ◌∷◌, ◌++◌, map, Option, None, Some, refl, ap, arith}
use Rattle.channel_steps.proofs.every_run.Words.{Phase, Channel, ChannelAsk, Reply, Stage, ActiveCall, Configuration, Steps, sees, does, unless_ended, Begins, call_begun, Entry, total}

module _ {T W : Type 0} (weigh : ChannelAsk T W → Stage (Phase T) T W → ℕ) where
  -- what a call counts for after its step
  abbrev pub left_over : ChannelAsk T W → Option (Reply T) → Stage (Phase T) T W → ℕ
  left_over x None s = weigh x s
  left_over x (Some y) s = 0

  total_join : (us vs : List (ActiveCall T W)) → total weigh (us ++ vs) ≡ total weigh us + total weigh vs
  total_join [] vs = omega arith
  total_join (u ∷ us) vs = let h = total_join us vs in omega (arith, h)

  total_sees : (c : Channel T W) (us : List (ActiveCall T W)) → total weigh (map (sees c) us) ≡ total weigh us
  total_sees c [] = refl
  total_sees c (u ∷ us) = ap (λ (n : ℕ). weigh u.ask u.at + n) (total_sees c us)

  total_unless : (u : ActiveCall T W) (r : Option (Reply T)) → total weigh (unless_ended u r) ≡ left_over u.ask r u.at
  total_unless u None = omega arith
  total_unless u (Some y) = refl

  module _ (s t : Configuration T W) (p : ℕ) (e : Entry T) (names : List W) (st : Steps s p e names t) where
    abbrev pub of_others : ℕ
    of_others = total weigh st.before + total weigh st.behind

    pub total_before : total weigh s.under_way ≡ weigh st.mine.ask st.mine.at + of_others
    total_before =
        let all = ap (λ (us : List (ActiveCall T W)). total weigh us) st.there in
        let joined = total_join st.before (st.mine ∷ st.behind) in
        omega (arith, all, joined)

    pub total_after : total weigh t.under_way ≡ left_over st.mine.ask e.reply st.at_now + of_others
    total_after =
        let now : ActiveCall T W = does st.mine st.at_now e.mark s.now t.now in
        let all = ap (λ (us : List (ActiveCall T W)). total weigh us) st.left in
        let joined = total_join (map (sees t.now) st.before) (unless_ended now e.reply ++ map (sees t.now) st.behind) in
        let right = total_join (unless_ended now e.reply) (map (sees t.now) st.behind) in
        let before = total_sees t.now st.before in
        let behind = total_sees t.now st.behind in
        let mine = total_unless now e.reply in
        omega (arith, all, joined, right, before, behind, mine)

  -- who begins takes nothing away
  pub total_begins : (s t : Configuration T W) (p : ℕ) (ask : ChannelAsk T W) (e : Entry T) (b : Begins s p ask e t)
      → total weigh s.under_way ≤ total weigh t.under_way
  total_begins s t p ask e b =
      let all = ap (λ (us : List (ActiveCall T W)). total weigh us) b.under_way in
      let joined = total_join s.under_way (call_begun p ask b.at s.now ∷ []) in
      omega (arith, all, joined)
