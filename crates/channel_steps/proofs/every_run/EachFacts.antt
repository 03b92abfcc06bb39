-- What holds of each call under way, after a call begins or makes a step.
use Rattle.std.proofs.Common.{ℕ, List, [], ◌∷◌, ◌++◌, map, Option, None, Some, sym, subst}
use Rattle.channel_steps.proofs.every_run.Words.{Channel, ChannelAsk, Reply, ActiveCall, Configuration, Steps, Known, AllKnown, sees, does, unless_ended, Begins, call_begun, Entry}
use Rattle.channel_steps.specs.every_run.Ends.{Each}

module _ {T W : Type 0} where
  pub each_join : (P : ActiveCall T W → Type 0) (us vs : List (ActiveCall T W)) → Each P us → Each P vs → Each P (us ++ vs)
  each_join P [] vs h k = k
  each_join P (u ∷ us) vs h k = (h.0, each_join P us vs h.1 k)

  pub each_left : (P : ActiveCall T W → Type 0) (us vs : List (ActiveCall T W)) → Each P (us ++ vs) → Each P us
  each_left P [] vs h = tt
  each_left P (u ∷ us) vs h = (h.0, each_left P us vs h.1)

  pub each_right : (P : ActiveCall T W → Type 0) (us vs : List (ActiveCall T W)) → Each P (us ++ vs) → Each P vs
  each_right P [] vs h = h
  each_right P (u ∷ us) vs h = each_right P us vs h.1

  pub each_map : (P Q : ActiveCall T W → Type 0) (f : ActiveCall T W → ActiveCall T W) → ((u : ActiveCall T W) → P u → Q (f u)) → (us : List (ActiveCall T W)) → Each P us → Each Q (map f us)
  each_map P Q f g [] h = tt
  each_map P Q f g (u ∷ us) h = (g u h.0, each_map P Q f g us h.1)

  each_same : (P Q : ActiveCall T W → Type 0) → ((u : ActiveCall T W) → P u → Q u) → (us : List (ActiveCall T W)) → Each P us → Each Q us
  each_same P Q g [] h = tt
  each_same P Q g (u ∷ us) h = (g u h.0, each_same P Q g us h.1)

  each_unless : (P : ActiveCall T W → Type 0) (u : ActiveCall T W) (r : Option (Reply T)) → P u → Each P (unless_ended u r)
  each_unless P u None h = (h, tt)
  each_unless P u (Some r) h = tt

  -- what holds of the call that makes the step
  pub of_mine : (P : ActiveCall T W → Type 0) (s t : Configuration T W) (p : ℕ) (e : Entry T) (names : List W) (st : Steps s p e names t) → Each P s.under_way → P st.mine
  of_mine P s t p e names st h =
      let k = each_right P st.before (st.mine ∷ st.behind) (subst (λ (us : List (ActiveCall T W)). Each P us) st.there h) in k.0

  -- the others only see the step; the one that makes it does it
  pub each_steps : (P Q : ActiveCall T W → Type 0) (s t : Configuration T W) (p : ℕ) (e : Entry T) (names : List W) (st : Steps s p e names t)
      → ((u : ActiveCall T W) → P u → Q (sees t.now u)) → (P st.mine → Q (does st.mine st.at_now e.mark s.now t.now)) → Each P s.under_way → Each Q t.under_way
  each_steps P Q s t p e names st others mine h =
      let all = subst (λ (us : List (ActiveCall T W)). Each P us) st.there h in
      let right = each_right P st.before (st.mine ∷ st.behind) all in
      let now : ActiveCall T W = does st.mine st.at_now e.mark s.now t.now in
      subst (λ (us : List (ActiveCall T W)). Each Q us) (sym st.left) (
      each_join Q (map (sees t.now) st.before) (unless_ended now e.reply ++ map (sees t.now) st.behind)
      (each_map P Q (sees t.now) others st.before (each_left P st.before (st.mine ∷ st.behind) all))
      (each_join Q (unless_ended now e.reply) (map (sees t.now) st.behind)
      (each_unless Q now e.reply (mine right.0))
      (each_map P Q (sees t.now) others st.behind right.1))
      )

  -- a call that begins comes in beside the others
  pub each_begins : (P Q : ActiveCall T W → Type 0) (s t : Configuration T W) (p : ℕ) (ask : ChannelAsk T W) (e : Entry T) (b : Begins s p ask e t)
      → ((u : ActiveCall T W) → P u → Q u) → Q (call_begun p ask b.at s.now) → Each P s.under_way → Each Q t.under_way
  each_begins P Q s t p ask e b others mine h =
      subst (λ (us : List (ActiveCall T W)). Each Q us) (sym b.under_way) (each_join Q s.under_way (call_begun p ask b.at s.now ∷ []) (each_same P Q others s.under_way h) (mine, tt))

  pub each_known : (c : Channel T W) (us : List (ActiveCall T W)) → AllKnown c us → Each (Known c) us
  each_known c [] h = tt
  each_known c (u ∷ us) h = (h.0, each_known c us h.1)
