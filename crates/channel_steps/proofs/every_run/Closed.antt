-- A closed channel over runs.
use Rattle.std.proofs.Common.{◌≡◌, ℕ, ◌≤◌, Bool, false, if◌then◌else◌, List, Option, refl, sym, ap, subst, arith, length-append}
use Rattle.channel_steps.proofs.every_run.Words.{Queue, Phase, IsShut, message, is_displaced, QueueMark, Channel, Effect, Moves, Mark, Append, Replace, Close, Reply, Purpose, Stage, Trying, Shut, Configuration, Steps, Next, IsRun, NextConfiguration, Entry, Step, after, IsStill, within, MayStillDo, ClosingIsForGood, mark_of_queue}
use Rattle.concurrent_queue.specs.declared.call.QueueMark.TheVariants as queue
use Rattle.channel_steps.specs.declared.run.Step.TheVariants as step
use Rattle.channel_steps.specs.every_run.Closed.{one_if}
use Rattle.channel_steps.proofs.Interface.{run_so}
use Rattle.channel_steps.proofs.QueueFacts.{moves_by, one_fewer, one_message}
use Rattle.channel_steps.proofs.every_run.ClosedMoves.{MayMark, may}

module _ {T : Type 0} where
  -- the queue keeps its flag, and holds no more
  abbrev pub Keeps : Queue T → Queue T → Type 0
  Keeps q q' = IsShut q' × (within q' ≤ within q)

  keeps_same : (q q' : Queue T) → q' ≡ q → IsShut q → Keeps q q'
  keeps_same q q' e shut = subst (λ (x : Queue T). Keeps q x) (sym e) (shut, omega arith)

  keeps_marked : (q : Queue T) (f : Phase T) (m : QueueMark) → IsShut q → MayMark m f.stage q → Keeps q (after f m q)
  keeps_marked q f queue.Nothing shut h = (shut, omega arith)
  keeps_marked q f queue.Append shut h =
      let n = length-append q.items (message f.ask) in
      let k = one_message f.ask in
      let before : one_if q.coming ≡ 1 = ap one_if h.0 in
      let now : one_if (if is_displaced f.stage then false else q.coming) ≡ 0 = ap (λ (b : Bool). one_if (if b then false else q.coming)) h.1 in
      (shut, omega (arith, n, k, before, now))
  keeps_marked q f queue.Take shut h = let n = one_fewer q h.0 h.1 in (shut, omega (arith, n))
  keeps_marked q f queue.TakeDisplaced shut h =
      let n = one_fewer q h.0 h.1 in
      let before : one_if q.coming ≡ 0 = ap one_if h.2 in
      (shut, omega (arith, n, before))
  keeps_marked q f x shut h = absurd h

module _ {T W : Type 0} where
  -- what a step does to a closed channel
  abbrev pub Does : Channel T W → Stage (Phase T) T W → Effect T W → Type 0
  Does c at e = Keeps c.queue e.channel.queue × MayStillDo e.mark c at

  may_mark : (c : Channel T W) (f : Phase T) (purpose : Purpose T W) (m : QueueMark) → MayMark m f.stage c.queue → MayStillDo (mark_of_queue m) c (Trying f purpose)
  may_mark c f purpose queue.Append h = h
  may_mark c f purpose queue.Replace h = h
  may_mark c f purpose queue.Close h = h
  may_mark c f purpose w h = tt

  still_may : (c : Channel T W) (at : Stage (Phase T) T W) (m : Mark) → IsStill m → MayStillDo m c at
  still_may c at Append h = absurd h
  still_may c at Replace h = absurd h
  still_may c at Close h = absurd h
  still_may c at m h = tt

  pub shut_does : (c : Channel T W) (at : Stage (Phase T) T W) (e : Effect T W) (r : Option (Reply T)) (s : Stage (Phase T) T W) → Shut c → Moves c at e r s → Does c at e
  shut_does c at e r s shut h =
      moves_by c at (λ m q. Keeps c.queue q × MayStillDo m c at)
      (λ f y m is says. let k = may c.queue shut f.ask f.stage m says in
      (keeps_marked c.queue f m shut k, subst (λ (z : Stage (Phase T) T W). MayStillDo (mark_of_queue m) c z) (sym is) (may_mark c f y m k)))
      (λ m still. (keeps_same c.queue c.queue refl shut, still_may c at m still)) e r s h

  steps_does : (s : Configuration T W) (p : ℕ) (e : Entry T) (names : List W) (t : Configuration T W) (st : Steps s p e names t) → Shut s.now → Keeps s.now.queue t.now.queue × MayStillDo e.mark s.now st.mine.at
  steps_does s p e names t st shut =
      let h = shut_does s.now st.mine.at (record { channel = t.now; mark = e.mark; woken = names }) e.reply st.at_now shut st.moves in
      (h.0, h.1)

  pub next_keeps : (s : Configuration T W) (x : Step T W) (e : Entry T) (names : List W) (t : Configuration T W) → Next s x e names t → Shut s.now → Keeps s.now.queue t.now.queue
  next_keeps s (step.Begin p ask) e names t n shut = keeps_same s.now.queue t.now.queue (ap (λ (c : Channel T W). c.queue) n.0.now) shut
  next_keeps s (step.Step p) e names t n shut = let h = steps_does s p e names t n shut in h.0

  keeps_long : (s t : Configuration T W) (xs : List (Step T W)) (es : List (Entry T)) → Shut s.now → IsRun NextConfiguration s xs es t
      → Keeps s.now.queue t.now.queue
  keeps_long s t xs es shut run =
      run_so NextConfiguration (λ a xs es b. Shut a.now → Keeps a.now.queue b.now.queue) (λ a h. keeps_same a.now.queue a.now.queue refl h)
      (λ a x e b xs es c n rest h.
      let now = next_keeps a x e n.0 b n.1 h in
      let k = rest now.0 in
      let first = now.1 in
      let later = k.1 in
      (k.0, omega (arith, first, later)))
      s xs es t run shut

module _ (T W : Type 0) where
  pub closing_is_for_good : ClosingIsForGood T W
  closing_is_for_good s t steps trace shut run =
      let k = keeps_long s t steps trace shut run in
      record { closed = k.0; no_more = k.1; next = λ p e names u st. (let h = steps_does t p e names u st k.0 in h.1) }
