-- What a step does to those that wait on a list.
use Rattle.std.proofs.Common.{◌≡◌, List, Option, None, Some, ◌⊎◌, ⊎_elim, inl, inr, sym, subst}
use Rattle.channel_steps.proofs.every_run.Words.{Phase, listened, Key, Channel, Effect, queued, Turned, Moves, Listeners, listeners, line_of, again, Reply, WaitList, Stage, Trying, Working, Finished, Waiting, ListStep, TellReceive, TellStreams, TellSend, TellSends, TellAll, Insert, Register, Leave, Next, Configuration, Entry, Step, IsIn, Apart, Waits, WaitApart}
use Rattle.channel_steps.specs.declared.run.Step.TheVariants as step
use Rattle.channel_steps.proofs.every_run.Sections.{Touched, section}
use Rattle.channel_steps.proofs.every_run.ListFacts.{Thinner, thin_same, thin_told_one, thin_told_more, thin_told_all, thin_registration, thin_removed, newcomer, in_more, apart_more}

module _ {T W : Type 0} where
  -- nobody came in on this list
  abbrev pub Thins : WaitList → Channel T W → Effect T W → Type 0
  Thins line c e = Thinner (listeners line c.wait_lists).waiting (listeners line e.channel.wait_lists).waiting

  -- a poll came in on this list under a new key, and tries again next
  abbrev pub ComesIn : WaitList → Channel T W → Effect T W → Option (Reply T) → Stage (Phase T) T W → Type 0
  ComesIn line c e r s =
      (w : Waiting T) × (task : W) × (key : Key)
      × (line_of w ≡ line)
      × (IsIn key (listeners line c.wait_lists).waiting → ⊥)
      × (listeners line e.channel.wait_lists ≡ listened key (listeners line c.wait_lists))
      × Turned (again w (Some key) task) r s

  abbrev pub Either : WaitList → Channel T W → Option (Reply T) → Stage (Phase T) T W → Effect T W → Type 0
  Either line c r s e = Thins line c e ⊎ ComesIn line c e r s

  module _ (line : WaitList) (c : Channel T W) (e : Effect T W) (r : Option (Reply T)) (s : Stage (Phase T) T W) where
    thins_to : (l : Listeners W) → listeners line e.channel.wait_lists ≡ l → Thinner (listeners line c.wait_lists).waiting l.waiting → Either line c r s e
    thins_to l is h = inl (subst (λ (z : Listeners W). Thinner (listeners line c.wait_lists).waiting z.waiting) (sym is) h)

    touched_lists : (w : ListStep T W) → Touched w r s line (listeners line c.wait_lists) (listeners line e.channel.wait_lists) → Either line c r s e
    touched_lists (TellReceive x) (at, is) = thins_to _ is (thin_told_one (listeners line c.wait_lists))
    touched_lists (TellStreams x) (at, is) = thins_to _ is (thin_told_all (listeners line c.wait_lists))
    touched_lists (TellSend x) (at, is) = thins_to _ is (thin_told_one (listeners line c.wait_lists))
    touched_lists (TellSends n x) (at, is) = thins_to _ is (thin_told_more n (listeners line c.wait_lists))
    touched_lists (TellAll to closer) (at, is) = thins_to _ is (thin_told_all (listeners line c.wait_lists))
    touched_lists (Insert w task) (at, key, new, is, turned) = inr (w, task, key, sym at, newcomer key (listeners line c.wait_lists) new, is, turned)
    touched_lists (Register w key task) (at, is, turned) = thins_to _ is (thin_registration key task (listeners line c.wait_lists))
    touched_lists (Leave x) (h, at, is) = thins_to _ is (thin_removed h.key (listeners line c.wait_lists))
    touched_lists w h = absurd h

  thins_as : (line : WaitList) (c : Channel T W) (e e' : Effect T W) → e ≡ e' → Thins line c e' → Thins line c e
  thins_as line c e e' same h = subst (λ (x : Effect T W). Thins line c x) (sym same) h

  -- any step
  pub moved_lists : (line : WaitList) (c : Channel T W) (at : Stage (Phase T) T W) (e : Effect T W) (r : Option (Reply T)) (s : Stage (Phase T) T W) → Moves c at e r s → Either line c r s e
  moved_lists line c (Trying f purpose) e r s h = inl (thins_as line c e (queued f h.mark c) h.effect (thin_same _))
  moved_lists line c (Working w) e r s h =
      ⊎_elim (λ k. thins_to line c e r s _ k.0 (thin_same _)) (λ k. touched_lists line c e r s w k) (section line c e r s w h)
  moved_lists line c (Finished kept) e r s h = inl (thins_as line c e _ h.0 (thin_same _))

  -- ---- who waits after it

  module _ (line : WaitList) (c : Channel T W) (e : Effect T W) (r : Option (Reply T)) (s : Stage (Phase T) T W) where
    -- the poll that came in under this key tries again next
    abbrev pub Tries : Key → Type 0
    Tries key = (w : Waiting T) × (task : W) × (line_of w ≡ line) × Turned (again w (Some key) task) r s

    pub waited : (key : Key) → Either line c r s e → Waits line key e.channel → Waits line key c ⊎ Tries key
    waited key (inl h) w = inl (h.0 key w)
    waited key (inr (wait, task, key', at, new, there, turned)) w =
        ⊎_elim
        (λ k. inl k)
        (λ k. inr (wait, task, at, subst (λ (z : Key). Turned (again wait (Some z) task) r s) k turned))
        (in_more key (key', None) (listeners line c.wait_lists).waiting (subst (λ (l : Listeners W). IsIn key l.waiting) there w))

    pub stays_apart : Either line c r s e → WaitApart line c → WaitApart line e.channel
    stays_apart (inl h) apart = h.1 apart
    stays_apart (inr (wait, task, key', at, new, there, turned)) apart =
        subst (λ (l : Listeners W). Apart l.waiting) (sym there) (apart_more (key', None) (listeners line c.wait_lists).waiting new apart)

  -- nobody stands twice on a list after one entry of a run
  pub apart_next : (line : WaitList) (s : Configuration T W) (x : Step T W) (e : Entry T) (names : List W) (t : Configuration T W) → Next s x e names t → WaitApart line s.now → WaitApart line t.now
  apart_next line s (step.Begin p ask) e names t n apart = let b = n.0 in subst (λ (c : Channel T W). WaitApart line c) (sym b.now) apart
  apart_next line s (step.Step p) e names t st apart =
      let now : Effect T W = record { channel = t.now; mark = e.mark; woken = names } in
      stays_apart line s.now now e.reply st.at_now (moved_lists line s.now st.mine.at now e.reply st.at_now st.moves) apart
