-- What a step of a call does to the queue: what its mark says, or nothing.
use Rattle.std.proofs.Common.{⊎_elim, ◌≡◌, ◌+◌, ◌≤◌, Bool, true, false, List, [], ◌∷◌, length, drop, Option, Some, ◌⊎◌, inl, inr, refl, sym, ap, subst, arith}
use Rattle.channel_steps.proofs.Words.{Queue, Phase, displaced, trying, after, marked, message, is_filled, is_displaced, IsOpen, IsOldest, ContinuesBy, AnswersTo, QueueAsk, QueueMark, Nothing, Append, Take, TakeDisplaced, Replace, Close, QueueReply, mark_of_queue, Channel, Effect, Tried, Moves, Mark, Reply, Purpose, Stage, Trying, Working, Finished}
use Rattle.concurrent_queue.specs.Queue as queue
use Rattle.concurrent_queue.specs.declared.call.QueueAsk.TheVariants as ask
use Rattle.concurrent_queue.specs.declared.call.QueueReply.TheVariants as answer
use Rattle.channel_calls.specs.declared.mark.Mark.TheVariants as mark
use Rattle.channel_steps.specs.every_run.Ends.{IsStill}
use Rattle.channel_steps.proofs.MoveFacts.{worked_spares}

module _ {T : Type 0} where
  -- What is so of the queue before a step with this mark of a call at this stage: there is room for the message that comes, or it was
  -- made; the oldest leaves, where it makes room a full queue's; both at once, where there is one place; or it is open, and closes.
  abbrev pub Says : QueueAsk T → queue.Stage T → QueueMark → Queue T → Type 0
  Says a s Nothing q = Unit {0}
  Says a s Append q = ((v : T) × (message a ≡ v ∷ [])) × (is_filled q ≡ false) × (IsOpen q ⊎ ((q.coming ≡ true) × (is_displaced s ≡ true)))
  Says a s Take q = (v : T) × IsOldest v q
  Says a s TakeDisplaced q = ((v : T) × IsOldest v q) × (is_filled q ≡ true) × (q.coming ≡ false)
  Says a s Replace q = ((v : T) × (message a ≡ v ∷ [])) × ((w : T) × IsOldest w q) × (is_filled q ≡ true) × IsOpen q × (q.capacity ≡ Some 1)
  Says a s Close q = IsOpen q

  module _ (q : Queue T) where
    goes_says : (a : QueueAsk T) (m : QueueMark) (s t : queue.Stage T) → ContinuesBy q a m s t → Says a s m q
    goes_says (ask.Push v) Append (trying b) t g = ((v, refl), g.1, inl g.0)
    goes_says (ask.ForcePush v) Append (trying b) t g = ((v, refl), g.1, inl g.0)
    goes_says (ask.ForcePush v) Append (displaced d) t g = ((v, refl), g.1, inr (g.0, refl))
    goes_says (ask.ForcePush v) Replace (trying b) t g = ((v, refl), (g.0, g.1), g.3, g.2, g.4)
    goes_says (ask.ForcePush v) TakeDisplaced (trying b) t g = ((g.0, g.1), g.3, g.4)
    goes_says ask.Pop Take (trying b) t g = (g.0, g.1)
    goes_says a Nothing s t g = tt
    goes_says a m s t g = absurd g

    -- an answer comes by a step with no mark, or it is that of a call that has closed
    pub answer_marks : (a : QueueAsk T) (m : QueueMark) (r : QueueReply T) (s : queue.Stage T) → AnswersTo q a m r s
        → (m ≡ Nothing) ⊎ ((m ≡ Close) × (a ≡ ask.Close) × (r ≡ answer.Close true) × IsOpen q)
    answer_marks a Nothing r s h = inl refl
    answer_marks ask.Close Close (answer.Close true) (trying b) h = inr (refl, refl, refl, h)
    answer_marks (ask.Push v) m r s h = absurd h
    answer_marks a m r s h = absurd h

    -- so what holds of both holds of it
    pub answered_by : (P : QueueMark → Type 0) → P Nothing → (IsOpen q → P Close) → (a : QueueAsk T) (m : QueueMark) (r : QueueReply T) (s : queue.Stage T) → AnswersTo q a m r s → P m
    answered_by P f g a m r s h = by (answer_marks a m r s h) where
      by : (m ≡ Nothing) ⊎ ((m ≡ Close) × (a ≡ ask.Close) × (r ≡ answer.Close true) × IsOpen q) → P m
      by (inl e) = subst P (sym e) f
      by (inr (e, asks, says, was)) = subst P (sym e) (g was)

    -- one fewer is there without the oldest
    pub one_fewer : (v : T) → IsOldest v q → length (drop 1 q.items) + 1 ≡ length q.items
    one_fewer v (rest, e) =
        let n : length q.items ≡ length (v ∷ rest) = ap length e in
        let k : length (drop 1 q.items) ≡ length rest = ap (λ (xs : List T). length (drop 1 xs)) e in
        omega (arith, n, k)

  pub same_capacity : (q : Queue T) (a : QueueAsk T) (b : Bool) (m : QueueMark) → (marked a b m q).capacity ≡ q.capacity
  same_capacity q a b Nothing = refl
  same_capacity q a b m = refl

  pub one_message : (a : QueueAsk T) → length (message a) ≤ 1
  one_message (ask.Push v) = omega arith
  one_message a = omega arith

module _ {T W : Type 0} (c : Channel T W) where
  tried_says : (f : Phase T) (y : Purpose T W) (e : Effect T W) (r : Option (Reply T)) (s : Stage (Phase T) T W) (h : Tried c f y e r s) → Says f.ask f.stage h.mark c.queue
  tried_says f y e r s h =
      ⊎_elim (λ k. goes_says c.queue f.ask h.mark f.stage k.0.stage k.1.1)
      (λ k. answered_by c.queue (λ z. Says f.ask f.stage z c.queue) tt (λ was. was) f.ask h.mark k.0 f.stage k.1) h.how

  -- what holds of each mark of a step of the queue's call, and where the queue is as it was, holds of any step
  pub moves_by : (at : Stage (Phase T) T W) (P : Mark → Queue T → Type 0)
      → ((f : Phase T) (y : Purpose T W) (m : QueueMark) → at ≡ Trying f y → Says f.ask f.stage m c.queue → P (mark_of_queue m) (after f m c.queue))
      → ((m : Mark) → IsStill m → P m c.queue)
      → (e : Effect T W) (r : Option (Reply T)) (s : Stage (Phase T) T W) → Moves c at e r s → P e.mark e.channel.queue
  moves_by (Trying f y) P tried still e r s h =
      subst (λ (z : Effect T W). P z.mark z.channel.queue) (sym h.effect) (tried f y h.mark refl (tried_says f y e r s h))
  moves_by (Working w) P tried still e r s h =
      let k = worked_spares c w e r s h in subst (λ (q : Queue T). P e.mark q) (sym k.0) (still e.mark k.1)
  moves_by (Finished kept) P tried still e r s h = subst (λ (z : Effect T W). P z.mark z.channel.queue) (sym h.0) (still mark.Nothing tt)

  -- ---- the queue's bounds

  abbrev pub Grows : Queue T → Queue T → Type 0
  Grows q q' = (q'.capacity ≡ q.capacity) × (q'.accepted ≤ q.accepted + 1) × (q.removed ≤ q'.removed)

  marked_grows : (f : Phase T) (m : QueueMark) (q : Queue T) → Grows q (after f m q)
  marked_grows f Nothing q = (refl, omega arith, omega arith)
  marked_grows f m q = (refl, omega arith, omega arith)

  pub grows : (at : Stage (Phase T) T W) (e : Effect T W) (r : Option (Reply T)) (s : Stage (Phase T) T W) → Moves c at e r s → Grows c.queue e.channel.queue
  grows at e r s h =
      moves_by at (λ m q. Grows c.queue q) (λ f y m is says. marked_grows f m c.queue) (λ m still. (refl, omega arith, omega arith)) e r s h
