-- How far a call has come that is stepped with no other beside it, from the contract of a step alone.
use Rattle.std.proofs.Common.{◌≡◌, ℕ, ◌+◌, true, false, ◌++◌, [], ◌∷◌, length, drop, None, Some, Bool, refl, sym, ap, subst}
use Rattle.concurrent_queue.specs.Queue.{Queue, Stage, trying, displaced, appended, taken, read, measured, is_filled, may_refuse, IsOpen, IsOldest, message, marked, is_displaced, seen_after, ContinuesPush, ContinuesForce, ContinuesPop, ContinuesBy}
use Rattle.concurrent_queue.specs.declared.call.QueueAsk.{QueueAsk}
use Rattle.concurrent_queue.specs.declared.call.QueueAsk.TheVariants as ask
use Rattle.concurrent_queue.specs.declared.call.QueueMark.{QueueMark}
use Rattle.concurrent_queue.specs.declared.call.QueueMark.TheVariants.{Nothing, Append, Take, TakeDisplaced, Replace}
use Rattle.concurrent_queue.proofs.Evidence.{IsStuck}
use Rattle.concurrent_queue.proofs.Refusing.{refuses_open}

module _ {T : Type 0} where
  abbrev pub ReadOf : QueueAsk T → ℕ → Queue T → Type 0
  ReadOf ask.IsEmpty n q = n ≡ q.removed
  ReadOf ask.IsFull n q = n ≡ q.accepted
  ReadOf _ n q = Unit {0}

  -- where a call that began at q0 has come this far with nobody beside it, the queue is this one
  abbrev pub So : Queue T → QueueAsk T → Stage T → Queue T → Type 0
  So q0 a (trying b) q = (q ≡ q0) × (b ≡ true → may_refuse q0 ≡ true)
  So q0 a (displaced d) q = IsOldest d q0 × IsStuck q0 × (q ≡ marked a false TakeDisplaced q0)
  So q0 a (appended None) q = IsOpen q0 × (is_filled q0 ≡ false) × (q ≡ marked a false Append q0)
  So q0 a (appended (Some d)) q =
      IsOldest d q0 × IsStuck q0 × (q.items ≡ drop 1 q0.items ++ message a) × (q.closed ≡ q0.closed) × (q.capacity ≡ q0.capacity) × (q.accepted ≡ q0.accepted + 1)
  So q0 a (taken v) q = IsOldest v q0 × (q ≡ marked a false Take q0)
  So q0 a (read n) q = (q ≡ q0) × ReadOf a n q0
  So q0 a (measured n k) q = (q ≡ q0) × (k ≡ length q0.items)

  refuses_from : (b : Bool) (q q0 : Queue T) → q ≡ q0 → (b ≡ true → may_refuse q0 ≡ true) → seen_after b q ≡ true → may_refuse q0 ≡ true
  refuses_from true q q0 e f h = f refl
  refuses_from false q q0 e f h = subst (λ (x : Queue T). may_refuse x ≡ true) e h

  -- it was open where it might refuse
  pub open_from : (b : Bool) (q q0 : Queue T) → q ≡ q0 → (b ≡ true → may_refuse q0 ≡ true) → seen_after b q ≡ true → IsOpen q0
  open_from b q q0 e f h = refuses_open q0 (refuses_from b q q0 e f h)

  pub filled_at : (q q0 : Queue T) → q ≡ q0 → is_filled q ≡ true → is_filled q0 ≡ true
  filled_at q q0 e h = subst (λ (x : Queue T). is_filled x ≡ true) e h

  module _ (q0 : Queue T) where
    next_so : (a : QueueAsk T) (t s : Stage T) (q : Queue T) → t ≡ s → So q0 a s q → So q0 a t q
    next_so a t s q e h = subst (λ (x : Stage T). So q0 a x q) (sym e) h

    so_push : (q : Queue T) (v : T) (m : QueueMark) (s t : Stage T) → ContinuesPush q m s t → So q0 (ask.Push v) s q → So q0 (ask.Push v) t (marked (ask.Push v) (is_displaced s) m q)
    so_push q v Nothing (trying b) t g h = next_so (ask.Push v) t _ q g (h.0, λ e. refuses_from b q q0 h.0 h.1 e)
    so_push q v Nothing (appended None) t g h = next_so (ask.Push v) t _ q g h
    so_push q v Append (trying b) t g h =
        next_so (ask.Push v) t _ _ g.2
        (subst (λ (x : Queue T). IsOpen x) h.0 g.0, subst (λ (x : Queue T). is_filled x ≡ false) h.0 g.1, ap (λ (x : Queue T). marked (ask.Push v) false Append x) h.0)
    so_push q v m s t g h = absurd g

    so_force : (q : Queue T) (v : T) (m : QueueMark) (s t : Stage T) → ContinuesForce q m s t → So q0 (ask.ForcePush v) s q → So q0 (ask.ForcePush v) t (marked (ask.ForcePush v) (is_displaced s) m q)
    so_force q v Nothing (trying b) t g h = next_so (ask.ForcePush v) t _ q g (h.0, λ e. refuses_from b q q0 h.0 h.1 e)
    so_force q v Nothing (displaced d) t g h = next_so (ask.ForcePush v) t _ q g h
    so_force q v Nothing (appended None) t g h = next_so (ask.ForcePush v) t _ q g h
    so_force q v Nothing (appended (Some d)) t g h = next_so (ask.ForcePush v) t _ q g h
    so_force q v Append (trying b) t g h =
        next_so (ask.ForcePush v) t _ _ g.2
        (subst (λ (x : Queue T). IsOpen x) h.0 g.0, subst (λ (x : Queue T). is_filled x ≡ false) h.0 g.1, ap (λ (x : Queue T). marked (ask.ForcePush v) false Append x) h.0)
    so_force q v Append (displaced d) t g h =
        next_so (ask.ForcePush v) t _ _ g.2
        (h.0, h.1, ap (λ (x : Queue T). x.items ++ v ∷ []) h.2, ap (λ (x : Queue T). x.closed) h.2, ap (λ (x : Queue T). x.capacity) h.2, ap (λ (x : Queue T). x.accepted + 1) h.2)
    so_force q v Replace (trying b) t g h =
        next_so (ask.ForcePush v) t _ _ g.5 (
          subst (λ (x : Queue T). IsOldest g.0 x) h.0 g.1,
          subst (λ (x : Queue T). IsStuck x) h.0 (g.2, g.3),
          ap (λ (x : Queue T). drop 1 x.items ++ v ∷ []) h.0,
          ap (λ (x : Queue T). x.closed) h.0,
          ap (λ (x : Queue T). x.capacity) h.0,
          ap (λ (x : Queue T). x.accepted + 1) h.0,
        )
    so_force q v TakeDisplaced (trying b) t g h =
        next_so (ask.ForcePush v) t _ _ g.5
        (subst (λ (x : Queue T). IsOldest g.0 x) h.0 g.1, (open_from b q q0 h.0 h.1 g.2, filled_at q q0 h.0 g.3), ap (λ (x : Queue T). marked (ask.ForcePush v) false TakeDisplaced x) h.0)
    so_force q v m s t g h = absurd g

    so_pop : (q : Queue T) (m : QueueMark) (s t : Stage T) → ContinuesPop q m s t → So q0 ask.Pop s q → So q0 ask.Pop t (marked ask.Pop (is_displaced s) m q)
    so_pop q Nothing (trying b) t g h = next_so ask.Pop t _ q g (h.0, λ e. refuses_from b q q0 h.0 h.1 e)
    so_pop q Nothing (taken v) t g h = next_so ask.Pop t _ q g h
    so_pop q Take (trying b) t g h =
        next_so ask.Pop t _ _ g.2 (subst (λ (x : Queue T). IsOldest g.0 x) h.0 g.1, ap (λ (x : Queue T). marked ask.Pop false Take x) h.0)
    so_pop q m s t g h = absurd g

    so_empty : (q : Queue T) (m : QueueMark) (s t : Stage T) → ContinuesBy q ask.IsEmpty m s t → So q0 ask.IsEmpty s q → So q0 ask.IsEmpty t (marked ask.IsEmpty (is_displaced s) m q)
    so_empty q Nothing (trying b) t g h = next_so ask.IsEmpty t _ q g (h.0, ap (λ (x : Queue T). x.removed) h.0)
    so_empty q m s t g h = absurd g

    so_full : (q : Queue T) (m : QueueMark) (s t : Stage T) → ContinuesBy q ask.IsFull m s t → So q0 ask.IsFull s q → So q0 ask.IsFull t (marked ask.IsFull (is_displaced s) m q)
    so_full q Nothing (trying b) t g h = next_so ask.IsFull t _ q g.0 (h.0, ap (λ (x : Queue T). x.accepted) h.0)
    so_full q m s t g h = absurd g

    so_len : (q : Queue T) (m : QueueMark) (s t : Stage T) → ContinuesBy q ask.Len m s t → So q0 ask.Len s q → So q0 ask.Len t (marked ask.Len (is_displaced s) m q)
    so_len q Nothing (trying b) t g h = next_so ask.Len t _ q g (h.0, tt)
    so_len q Nothing (read n) t g h = next_so ask.Len t _ q g (h.0, ap (λ (x : Queue T). length x.items) h.0)
    so_len q Nothing (measured n k) t g h = next_so ask.Len t _ q g (h.0, λ e. absurd cc)
    so_len q m s t g h = absurd g

    pub so_goes : (q : Queue T) (a : QueueAsk T) (m : QueueMark) (s t : Stage T) → ContinuesBy q a m s t → So q0 a s q → So q0 a t (marked a (is_displaced s) m q)
    so_goes q (ask.Push v) m s t g h = so_push q v m s t g h
    so_goes q (ask.ForcePush v) m s t g h = so_force q v m s t g h
    so_goes q ask.Pop m s t g h = so_pop q m s t g h
    so_goes q ask.Close m s t g h = absurd g
    so_goes q ask.IsClosed m s t g h = absurd g
    so_goes q ask.IsEmpty m s t g h = so_empty q m s t g h
    so_goes q ask.IsFull m s t g h = so_full q m s t g h
    so_goes q ask.Len m s t g h = so_len q m s t g h
    so_goes q ask.Capacity m s t g h = absurd g
