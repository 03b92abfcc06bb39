-- One of the calls under way, before and after a step.
use Rattle.std.proofs.Common.{◌≡◌, ℕ, List, [], ◌∷◌, ◌++◌, map, Option, None, Some, ◌⊎◌, ⊎_elim, inl, inr, sym, subst}
use Rattle.channel_steps.proofs.every_run.Words.{ChannelAsk, Reply, ActiveCall, Configuration, Steps, sees, does, unless_ended, Begins, call_begun, Entry, Any}
use Rattle.channel_steps.specs.every_run.Ends.{Each}

module _ {T W : Type 0} where
  -- one of them is so, and none is
  pub any_none : (P : ActiveCall T W → Type 0) (us : List (ActiveCall T W)) → Any P us → Each (λ u. P u → ⊥) us → ⊥
  any_none P [] h none = h
  any_none P (u ∷ us) (inl h) none = none.0 h
  any_none P (u ∷ us) (inr h) none = any_none P us h none.1

  pub any_either : (P Q : ActiveCall T W → Type 0) (us : List (ActiveCall T W)) → Any (λ u. P u ⊎ Q u) us → Any P us ⊎ Any Q us
  any_either P Q [] h = absurd h
  any_either P Q (u ∷ us) (inl (inl h)) = inl (inl h)
  any_either P Q (u ∷ us) (inl (inr h)) = inr (inl h)
  any_either P Q (u ∷ us) (inr h) = ⊎_elim (λ k. inl (inr k)) (λ k. inr (inr k)) (any_either P Q us h)

  -- one of them is so or so, and none is so
  pub any_but : (P Q : ActiveCall T W → Type 0) (us : List (ActiveCall T W)) → Any (λ u. P u ⊎ Q u) us → Each (λ u. Q u → ⊥) us → Any P us
  any_but P Q us h none = ⊎_elim (λ k. k) (λ k. absurd (any_none Q us k none)) (any_either P Q us h)

  pub any_weaker : (P Q : ActiveCall T W → Type 0) → ((u : ActiveCall T W) → P u → Q u) → (us : List (ActiveCall T W)) → Any P us → Any Q us
  any_weaker P Q f [] h = h
  any_weaker P Q f (u ∷ us) (inl h) = inl (f u h)
  any_weaker P Q f (u ∷ us) (inr h) = inr (any_weaker P Q f us h)

module _ {T W : Type 0} (P : ActiveCall T W → Type 0) where
  pub any_left : (us vs : List (ActiveCall T W)) → Any P us → Any P (us ++ vs)
  any_left [] vs h = absurd h
  any_left (u ∷ us) vs (inl h) = inl h
  any_left (u ∷ us) vs (inr h) = inr (any_left us vs h)

  pub any_right : (us vs : List (ActiveCall T W)) → Any P vs → Any P (us ++ vs)
  any_right [] vs h = h
  any_right (u ∷ us) vs h = inr (any_right us vs h)

  any_of : (us vs : List (ActiveCall T W)) → Any P (us ++ vs) → Any P us ⊎ Any P vs
  any_of [] vs h = inr h
  any_of (u ∷ us) vs (inl h) = inl (inl h)
  any_of (u ∷ us) vs (inr h) = ⊎_elim (λ k. inl (inr k)) (λ k. inr k) (any_of us vs h)

  any_map : (f : ActiveCall T W → ActiveCall T W) → ((u : ActiveCall T W) → P u → P (f u)) → (us : List (ActiveCall T W)) → Any P us → Any P (map f us)
  any_map f g [] h = h
  any_map f g (u ∷ us) (inl h) = inl (g u h)
  any_map f g (u ∷ us) (inr h) = inr (any_map f g us h)

  any_unless : (u : ActiveCall T W) (r : Option (Reply T)) → r ≡ None → P u → Any P (unless_ended u r)
  any_unless u None e h = inl h
  any_unless u (Some r) e h = absurd (let never : Some r ≡ None = e in cc)

  module _ (s t : Configuration T W) (p : ℕ) (e : Entry T) (names : List W) (st : Steps s p e names t) (others : (u : ActiveCall T W) → P u → P (sees t.now u)) where
    abbrev after : ActiveCall T W
    after = does st.mine st.at_now e.mark s.now t.now

    -- the call that made the step and goes on
    pub any_mine : e.reply ≡ None → P after → Any P t.under_way
    any_mine none h =
        subst (λ (us : List (ActiveCall T W)). Any P us) (sym st.left) (
        any_right (map (sees t.now) st.before) (unless_ended after e.reply ++ map (sees t.now) st.behind)
        (any_left (unless_ended after e.reply) (map (sees t.now) st.behind) (any_unless after e.reply none h))
        )

    from_before : Any P st.before → Any P t.under_way
    from_before h =
        subst (λ (us : List (ActiveCall T W)). Any P us) (sym st.left) (any_left (map (sees t.now) st.before) (unless_ended after e.reply ++ map (sees t.now) st.behind) (any_map (sees t.now) others st.before h))

    from_behind : Any P st.behind → Any P t.under_way
    from_behind h =
        subst (λ (us : List (ActiveCall T W)). Any P us) (sym st.left) (
        any_right (map (sees t.now) st.before) (unless_ended after e.reply ++ map (sees t.now) st.behind)
        (any_right (unless_ended after e.reply) (map (sees t.now) st.behind) (any_map (sees t.now) others st.behind h))
        )

    -- one of the others, or the call that makes the step
    pub any_steps : Any P s.under_way → Any P t.under_way ⊎ P st.mine
    any_steps h =
        ⊎_elim (λ k. inl (from_before k)) (λ k. ⊎_elim (λ m. inr m) (λ m. inl (from_behind m)) k)
        (any_of st.before (st.mine ∷ st.behind) (subst (λ (us : List (ActiveCall T W)). Any P us) st.there h))

  pub any_begins : (s t : Configuration T W) (p : ℕ) (ask : ChannelAsk T W) (e : Entry T) (b : Begins s p ask e t) → Any P s.under_way → Any P t.under_way
  any_begins s t p ask e b h = subst (λ (us : List (ActiveCall T W)). Any P us) (sym b.under_way) (any_left s.under_way (call_begun p ask b.at s.now ∷ []) h)
