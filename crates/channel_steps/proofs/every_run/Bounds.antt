-- Over runs: no more messages than fit, never full without a bound, and closed once.
use Rattle.std.proofs.Common.{arith, ◌≡◌, ℕ, true, false, List, [], ◌∷◌, ◌++◌, Option, None, Some, Err, inl, inr, refl, sym, ap, ◌∙◌, subst}
use Rattle.channel_steps.proofs.every_run.Words.{is_filled, is_full_at, Channel, ChannelAsk, Mark, Reply, Returned, MarkedMoment, Once, Next, IsRun, NextConfiguration, new_configuration, ActiveCall, Configuration, Steps, MayFinish, does, Entry, Step, Crowded, IsDisplacing, SaysFull, NoneFull, IsWithinBound, AllOf, BoundSound, BoundsStay, NeverOverfull, EachUnboundedRunIsNeverFull, Replies}
use Rattle.channel_calls.specs.declared.ask.ChannelAsk.TheVariants as ask
use Rattle.channel_calls.specs.declared.error.Refused.TheVariants as refused
use Rattle.channel_calls.specs.declared.error.TrySendError.TheVariants as try_send_error
use Rattle.channel_calls.specs.declared.mark.Mark.TheVariants as mark
use Rattle.channel_calls.specs.declared.reply.Reply.TheVariants as reply
use Rattle.channel_steps.specs.declared.run.Step.TheVariants as step
use Rattle.channel_steps.proofs.every_run.BoundMoves.{Bounded, SaysOf, moves_bounded}
use Rattle.channel_steps.proofs.every_run.EachFacts.{of_mine, each_steps, each_begins}
use Rattle.channel_steps.proofs.Interface.{run_so}
use Rattle.channel_steps.proofs.every_run.ReplyFacts.{Spoken, spoken}
use Rattle.channel_steps.proofs.every_run.RunFacts.{kept_long}

module _ {T W : Type 0} where
  pub step_bounded : (s t : Configuration T W) (p : ℕ) (e : Entry T) (names : List W) → Steps s p e names t → Bounded s.now t.now e.mark
  step_bounded s t p e names st = moves_bounded s.now st.mine.at (record { channel = t.now; mark = e.mark; woken = names }) e.reply st.at_now st.moves

  all_moved : (cs : List (Channel T W)) (a b : Option ℕ) → b ≡ a → AllOf a cs → AllOf b cs
  all_moved cs a b e h = subst (λ (o : Option ℕ). AllOf o cs) (sym e) h

  pub bound_new : (capacity : Option ℕ) → BoundSound (new_configuration {T = T} {W = W} capacity)
  bound_new capacity = record { fits = λ most e. omega arith; alike = tt }

  pub bound_next : (s : Configuration T W) (x : Step T W) (e : Entry T) (names : List W) (t : Configuration T W) → Next s x e names t → BoundSound s → BoundSound t
  bound_next s (step.Begin p a) e names t n h =
      let same : t.now.queue.capacity ≡ s.now.queue.capacity = ap (λ (c : Channel T W). c.queue.capacity) n.0.now in
      record {
        fits = subst (λ (c : Channel T W). IsWithinBound c) (sym n.0.now) h.fits;
        alike = each_begins (λ u. AllOf s.now.queue.capacity u.seen) (λ u. AllOf t.now.queue.capacity u.seen) s t p a e n.0
            (λ u k. all_moved u.seen s.now.queue.capacity t.now.queue.capacity same k) (sym same, tt) h.alike;
      }
  bound_next s (step.Step p) e names t n h =
      let b = step_bounded s t p e names n in
      record {
        fits = b.fits h.fits;
        alike = each_steps (λ u. AllOf s.now.queue.capacity u.seen) (λ u. AllOf t.now.queue.capacity u.seen) s t p e names n
            (λ u k. (refl, all_moved u.seen s.now.queue.capacity t.now.queue.capacity b.capacity k))
            (λ k. (refl, all_moved n.mine.seen s.now.queue.capacity t.now.queue.capacity b.capacity k)) h.alike;
      }

  pub capacity_next : (s : Configuration T W) (x : Step T W) (e : Entry T) (names : List W) (t : Configuration T W) → Next s x e names t → t.now.queue.capacity ≡ s.now.queue.capacity
  capacity_next s (step.Begin p a) e names t n = ap (λ (c : Channel T W). c.queue.capacity) n.0.now
  capacity_next s (step.Step p) e names t n = let b = step_bounded s t p e names n in b.capacity

  -- ---- without a bound

  -- without a bound it is full at no moment
  pub never_crowded : (cs : List (Channel T W)) → AllOf None cs → Once Crowded cs → ⊥
  never_crowded [] all h = h
  never_crowded (c ∷ cs) all (inl h) =
      let filled : false ≡ true = subst (λ (o : Option ℕ). is_full_at o c.queue.items ≡ true) all.0 h.1 in cc filled
  never_crowded (c ∷ cs) all (inr h) = never_crowded cs all.1 h

  older_all : (capacity : Option ℕ) (newer older : List (Channel T W)) → AllOf capacity (newer ++ older) → AllOf capacity older
  older_all capacity [] older all = all
  older_all capacity (c ∷ newer) older all = older_all capacity newer older all.1

  row_full : (a : ChannelAsk T W) (ds : List (MarkedMoment T W)) (seen : List (Channel T W)) (m : T)
      → Spoken ds seen a (reply.TrySend (Err (refused.Plain (try_send_error.Full m)))) → Once Crowded seen
  row_full (ask.TrySend v) ds seen m h = h.2
  row_full a ds seen m h = absurd h

  finish_full : (u : ActiveCall T W) (r : Option (Reply T)) (left : Option (Returned T)) → MayFinish u r left → AllOf None u.seen → Replies SaysFull r → ⊥
  finish_full u None left h all full = full
  finish_full u (Some (reply.TrySend (Err (refused.Plain (try_send_error.Full m))))) left h all full =
      let met = h.met in
      let seen = subst (λ (cs : List (Channel T W)). AllOf None cs) met.2 all in
      never_crowded met.1 (older_all None met.0 met.1 seen) (row_full u.ask u.marks met.1 m (spoken u.marks met.1 u.ask _ met.3))
  finish_full u (Some r) left h all full = absurd full

  displaces_full : (m : Mark) (c : Channel T W) → SaysOf m c → IsDisplacing m → is_filled c.queue ≡ true
  displaces_full mark.TakeDisplaced c h k = h
  displaces_full mark.Replace c h k = h
  displaces_full m c h k = absurd k

  unfilled : (c : Channel T W) → c.queue.capacity ≡ None → is_filled c.queue ≡ true → ⊥
  unfilled c none e = let filled : false ≡ true = subst (λ (o : Option ℕ). is_full_at o c.queue.items ≡ true) none e in cc filled

  step_never_full : (s t : Configuration T W) (p : ℕ) (e : Entry T) (names : List W) (st : Steps s p e names t) → BoundSound s → s.now.queue.capacity ≡ None
      → (Replies SaysFull e.reply → ⊥) × (IsDisplacing e.mark → ⊥)
  step_never_full s t p e names st h none =
      let b = step_bounded s t p e names st in
      let mine = of_mine (λ u. AllOf s.now.queue.capacity u.seen) s t p e names st h.alike in
      let seen : AllOf None (t.now ∷ st.mine.seen) = (b.capacity ∙ none, subst (λ (o : Option ℕ). AllOf o st.mine.seen) none mine) in (
        finish_full (does st.mine st.at_now e.mark s.now t.now) e.reply e.kept st.finishes seen,
        λ k. unfilled s.now none (displaces_full e.mark s.now b.says k),
      )

  next_never_full : (s : Configuration T W) (x : Step T W) (e : Entry T) (names : List W) (t : Configuration T W) → Next s x e names t → BoundSound s → s.now.queue.capacity ≡ None
      → (Replies SaysFull e.reply → ⊥) × (IsDisplacing e.mark → ⊥)
  next_never_full s (step.Begin p a) e names t n h none =
      let entry = n.0.entry in
      (λ k. subst (λ (f : Entry T). Replies SaysFull f.reply) entry k, λ k. subst (λ (f : Entry T). IsDisplacing f.mark) entry k)
  next_never_full s (step.Step p) e names t n h none = step_never_full s t p e names n h none

  run_never_full : (s t : Configuration T W) (xs : List (Step T W)) (es : List (Entry T)) → BoundSound s → s.now.queue.capacity ≡ None
      → IsRun NextConfiguration s xs es t → NoneFull es
  run_never_full s t xs es h none run =
      run_so NextConfiguration (λ a xs es b. BoundSound a → a.now.queue.capacity ≡ None → NoneFull es) (λ a k o. tt)
      (λ a x e b xs es c n rest k o.
      let now = next_never_full a x e n.0 b n.1 k o in
      (now.0, now.1, rest (bound_next a x e n.0 b n.1 k) (capacity_next a x e n.0 b n.1 ∙ o)))
      s xs es t run h none

  run_capacity : (s t : Configuration T W) (xs : List (Step T W)) (es : List (Entry T)) → IsRun NextConfiguration s xs es t
      → t.now.queue.capacity ≡ s.now.queue.capacity
  run_capacity s t xs es run =
      kept_long (λ (x : Configuration T W). x.now.queue.capacity ≡ s.now.queue.capacity) (λ y x e names z n h. capacity_next y x e names z n ∙ h)
      s t xs es refl run

module _ (T W : Type 0) where
  pub bounds_stay : BoundsStay T W
  bounds_stay s t steps trace h run = kept_long (λ (x : Configuration T W). BoundSound x) bound_next s t steps trace h run

  pub never_overfull : NeverOverfull T W
  never_overfull capacity t steps trace run =
      let k = bounds_stay (new_configuration capacity) t steps trace (bound_new capacity) run in
      (run_capacity (new_configuration capacity) t steps trace run, k.fits)

  pub never_full : EachUnboundedRunIsNeverFull T W
  never_full s t steps trace h none run = run_never_full s t steps trace h none run
