-- Who waits on a list, over one step of a run: one law, for whatever list, whatever is enough for those who wait on it, and whatever
-- the calls under way count for. On a list that is notified one at a time a call counts for each that it is to notify, or for one that it
-- tries as. On a list that is notified at once, the call that is to notify it counts for one.
use Rattle.std.proofs.Common.{◌≡◌, ℕ, ◌+◌, ◌≤◌, List, Option, None, ◌⊎◌, ⊎_elim, inl, inr, sym, subst}
use Rattle.channel_steps.proofs.every_run.Words.{Phase, Key, Channel, Effect, Moves, ChannelAsk, Reply, WaitList, Stage, StageAt, MarkedMoment, Next, Begins, Configuration, Steps, Known, AllKnown, Entry, Step, total, AreOwed, PendingAreOwed, Waits, WaitApart, Any}
use Rattle.channel_steps.specs.declared.run.Step.TheVariants as step
use Rattle.channel_steps.proofs.every_run.AnyFacts.{any_none, any_mine, any_steps, any_begins}
use Rattle.channel_steps.proofs.every_run.EachFacts.{of_mine, each_known}
use Rattle.channel_steps.proofs.every_run.ListMoves.{Tries, moved_lists, waited}
use Rattle.channel_steps.proofs.every_run.TotalFacts.{left_over, of_others, total_before, total_after, total_begins}

module _ {T W : Type 0} (line : WaitList) (Enough : Channel T W → ℕ → Type 0) (weigh : ChannelAsk T W → Stage (Phase T) T W → ℕ)
    (Holds : Key → Stage (Phase T) T W → Type 0) (Defaulted : Channel T W → Type 0) where
  -- what is enough with so much beside it stays so over a step of this call, whatever is beside it
  abbrev pub Pays : Channel T W → ChannelAsk T W → Stage (Phase T) T W → Effect T W → Option (Reply T) → Stage (Phase T) T W
      → Type 0
  Pays c x at e r s = (n : ℕ) → Enough c (weigh x at + n) → Enough e.channel (left_over weigh x r s + n)

  -- the call goes on with the listener in hand
  abbrev pub GoesOn : Key → Option (Reply T) → Stage (Phase T) T W → Type 0
  GoesOn key r s = (r ≡ None) × Holds key s

  -- or what it waits for is not there
  abbrev pub GoesOnOr : Key → ChannelAsk T W → Effect T W → Option (Reply T) → Stage (Phase T) T W → Type 0
  GoesOnOr key x e r s = GoesOn key r s ⊎ ((n : ℕ) → Enough e.channel (left_over weigh x r s + n))

  -- a property of one step of a call that is under way, on a channel where one waits after it
  abbrev pub OfStep : (Channel T W → ChannelAsk T W → Stage (Phase T) T W → Effect T W → Option (Reply T) → Stage (Phase T) T W → Key → Type 0) → Type 0
  OfStep P =
      (c : Channel T W) (x : ChannelAsk T W) (at : Stage (Phase T) T W) (ds : List (MarkedMoment T W)) (seen : List (Channel T W))
      (e : Effect T W) (r : Option (Reply T)) (s : Stage (Phase T) T W) (key : Key)
      → StageAt c x at ds seen → Moves c at e r s → Waits line key e.channel → P c x at e r s key

  -- what has to hold of a list: more is enough too; one that comes in is in the hand of his poll; a poll keeps him so, or there is no
  -- cause for it; and each step pays, unless one was told by the default
  pub record Ledger : Type 0 where
    pub more : (c : Channel T W) (m n : ℕ) → m ≤ n → Enough c m → Enough c n
    pub comes : (c : Channel T W) (e : Effect T W) (r : Option (Reply T)) (s : Stage (Phase T) T W) (key : Key) → Tries line c e r s key → GoesOn key r s
    pub keeps : OfStep (λ c x at e r s key. WaitApart line c → Holds key at → GoesOnOr key x e r s)
    pub pays : OfStep (λ c x at e r s key. Pays c x at e r s ⊎ Defaulted c)

  -- where one was told by the default whoever waits is in hand
  abbrev pub AreHeldIf : Configuration T W → Type 0
  AreHeldIf s = Defaulted s.now → (key : Key) → Waits line key s.now → Any (λ u. Holds key u.at) s.under_way

  module _ (ledger : Ledger) where
    module _ (s t : Configuration T W) (p : ℕ) (e : Entry T) (names : List W) (st : Steps s p e names t) (known : AllKnown s.now s.under_way) (apart : WaitApart line s.now) (held_if : AreHeldIf s) where
      abbrev effect : Effect T W
      effect = record { channel = t.now; mark = e.mark; woken = names }

      mine_known : Known s.now st.mine
      mine_known = of_mine (Known s.now) s t p e names st (each_known s.now s.under_way known)

      module _ (key : Key) (w : Waits line key t.now) where
        abbrev Owed : Type 0
        Owed = Enough t.now (total weigh t.under_way) ⊎ Any (λ u. Holds key u.at) t.under_way

        goes_on : GoesOn key e.reply st.at_now → Owed
        goes_on h = inr (any_mine (λ u. Holds key u.at) s t p e names st (λ u h. h) h.0 h.1)

        with_others : Enough t.now (left_over weigh st.mine.ask e.reply st.at_now + of_others weigh s t p e names st) → Owed
        with_others h = inl (subst (λ (n : ℕ). Enough t.now n) (sym (total_after weigh s t p e names st)) h)

        was_held : Any (λ u. Holds key u.at) s.under_way → Owed
        was_held h =
            ⊎_elim (λ k. inr k)
            (λ m. let k = mine_known in ⊎_elim (λ g. goes_on g) (λ f. with_others (f (of_others weigh s t p e names st)))
            (ledger.keeps s.now st.mine.ask st.mine.at st.mine.marks st.mine.seen effect e.reply st.at_now key k.stands st.moves w apart m))
            (any_steps (λ u. Holds key u.at) s t p e names st (λ u h. h) h)

        was_owed : Waits line key s.now → Enough s.now (total weigh s.under_way) ⊎ Any (λ u. Holds key u.at) s.under_way → Owed
        was_owed before (inl h) =
            let k = mine_known in
            ⊎_elim
            (λ f. with_others (f (of_others weigh s t p e names st) (subst (λ (n : ℕ). Enough s.now n) (total_before weigh s t p e names st) h)))
            (λ d. was_held (held_if d key before))
            (ledger.pays s.now st.mine.ask st.mine.at st.mine.marks st.mine.seen effect e.reply st.at_now key k.stands st.moves w)
        was_owed before (inr h) = was_held h

        owed_after : AreOwed line Enough weigh Holds s → Owed
        owed_after owed =
            ⊎_elim (λ h. was_owed h (owed key h)) (λ h. goes_on (ledger.comes s.now effect e.reply st.at_now key h))
            (waited line s.now effect e.reply st.at_now key
            (moved_lists line s.now st.mine.at effect e.reply st.at_now st.moves) w)

    begun_owed : (s t : Configuration T W) (p : ℕ) (ask : ChannelAsk T W) (e : Entry T) (b : Begins s p ask e t) (key : Key)
        → Enough s.now (total weigh s.under_way) ⊎ Any (λ u. Holds key u.at) s.under_way
        → Enough t.now (total weigh t.under_way) ⊎ Any (λ u. Holds key u.at) t.under_way
    begun_owed s t p ask e b key (inl h) =
        inl (subst (λ (c : Channel T W). Enough c (total weigh t.under_way)) (sym b.now)
        (ledger.more s.now (total weigh s.under_way) (total weigh t.under_way) (total_begins weigh s t p ask e b) h))
    begun_owed s t p ask e b key (inr h) = inr (any_begins (λ u. Holds key u.at) s t p ask e b h)

    -- one entry of a run
    pub owed_next : (s : Configuration T W) (x : Step T W) (e : Entry T) (names : List W) (t : Configuration T W) → Next s x e names t
        → AllKnown s.now s.under_way → WaitApart line s.now → AreHeldIf s → AreOwed line Enough weigh Holds s → AreOwed line Enough weigh Holds t
    owed_next s (step.Begin p ask) e names t n known apart held_if owed key w =
        let b = n.0 in begun_owed s t p ask e b key (owed key (subst (λ (c : Channel T W). Waits line key c) b.now w))
    owed_next s (step.Step p) e names t n known apart held_if owed key w = owed_after s t p e names n known apart held_if key w owed

  pub pending_owed : (s : Configuration T W) → AreOwed line Enough weigh Holds s → PendingAreOwed line Enough weigh Holds s
  pending_owed s owed key w none = ⊎_elim (λ h. h) (λ h. absurd (any_none (λ u. Holds key u.at) s.under_way h none)) (owed key w)
