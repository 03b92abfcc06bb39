-- What every step keeps of a queue, in every form: the messages held and the removed ones are the accepted ones.
use Rattle.std.proofs.Common.{◌≡◌, ◌+◌, List, [], ◌∷◌, length, drop, Some, refl, ap, arith, length-append}
use Rattle.concurrent_queue.specs.Queue.{Queue, Stage, trying, displaced, appended, taken, read, measured, Phase, IsOldest, message, after, Continues, ContinuesBy, Answers, AnswersTo}
use Rattle.concurrent_queue.specs.declared.call.QueueAsk.{QueueAsk}
use Rattle.concurrent_queue.specs.declared.call.QueueAsk.TheVariants as ask
use Rattle.concurrent_queue.specs.declared.call.QueueMark.{QueueMark}
use Rattle.concurrent_queue.specs.declared.call.QueueMark.TheVariants.{Nothing, Append, Take, TakeDisplaced, Replace, Close}
use Rattle.concurrent_queue.specs.declared.call.QueueReply.{QueueReply}

module _ {T : Type 0} where
  abbrev pub IsBalanced : Queue T → Type 0
  IsBalanced q = length q.items + q.removed ≡ q.accepted

  -- an appending step brings one message, a removing one finds one
  abbrev pub IsFair : Queue T → QueueAsk T → QueueMark → Type 0
  IsFair q a Nothing = Unit {0}
  IsFair q a Append = (v : T) × (message a ≡ v ∷ [])
  IsFair q a Take = (v : T) × IsOldest v q
  IsFair q a TakeDisplaced = (v : T) × IsOldest v q
  IsFair q a Replace = ((v : T) × (message a ≡ v ∷ [])) × ((v : T) × IsOldest v q) × (q.capacity ≡ Some 1)
  IsFair q a Close = Unit {0}

  fair_push : (q : Queue T) (v : T) (m : QueueMark) (s t : Stage T) → ContinuesBy q (ask.Push v) m s t → IsFair q (ask.Push v) m
  fair_push q v Nothing s t g = tt
  fair_push q v Append s t g = (v, refl)
  fair_push q v Take s t g = absurd g
  fair_push q v TakeDisplaced s t g = absurd g
  fair_push q v Replace s t g = absurd g
  fair_push q v Close s t g = tt

  fair_force : (q : Queue T) (v : T) (m : QueueMark) (s t : Stage T) → ContinuesBy q (ask.ForcePush v) m s t → IsFair q (ask.ForcePush v) m
  fair_force q v Nothing s t g = tt
  fair_force q v Append s t g = (v, refl)
  fair_force q v Take s t g = absurd g
  fair_force q v TakeDisplaced (trying seen) t g = (g.0, g.1)
  fair_force q v TakeDisplaced (displaced d) t g = absurd g
  fair_force q v TakeDisplaced (appended o) t g = absurd g
  fair_force q v TakeDisplaced (taken w) t g = absurd g
  fair_force q v TakeDisplaced (read n) t g = absurd g
  fair_force q v TakeDisplaced (measured n k) t g = absurd g
  fair_force q v Replace (trying seen) t g = ((v, refl), (g.0, g.1), g.4)
  fair_force q v Replace (displaced d) t g = absurd g
  fair_force q v Replace (appended o) t g = absurd g
  fair_force q v Replace (taken w) t g = absurd g
  fair_force q v Replace (read n) t g = absurd g
  fair_force q v Replace (measured n k) t g = absurd g
  fair_force q v Close s t g = tt

  fair_pop : (q : Queue T) (m : QueueMark) (s t : Stage T) → ContinuesBy q ask.Pop m s t → IsFair q ask.Pop m
  fair_pop q Nothing s t g = tt
  fair_pop q Append s t g = absurd g
  fair_pop q Take (trying seen) t g = (g.0, g.1)
  fair_pop q Take (displaced d) t g = absurd g
  fair_pop q Take (appended o) t g = absurd g
  fair_pop q Take (taken w) t g = absurd g
  fair_pop q Take (read n) t g = absurd g
  fair_pop q Take (measured n k) t g = absurd g
  fair_pop q TakeDisplaced s t g = absurd g
  fair_pop q Replace s t g = absurd g
  fair_pop q Close s t g = tt

  fair_empty : (q : Queue T) (m : QueueMark) (s t : Stage T) → ContinuesBy q ask.IsEmpty m s t → IsFair q ask.IsEmpty m
  fair_empty q Nothing s t g = tt
  fair_empty q Append s t g = absurd g
  fair_empty q Take s t g = absurd g
  fair_empty q TakeDisplaced s t g = absurd g
  fair_empty q Replace s t g = absurd g
  fair_empty q Close s t g = tt

  fair_full : (q : Queue T) (m : QueueMark) (s t : Stage T) → ContinuesBy q ask.IsFull m s t → IsFair q ask.IsFull m
  fair_full q Nothing s t g = tt
  fair_full q Append s t g = absurd g
  fair_full q Take s t g = absurd g
  fair_full q TakeDisplaced s t g = absurd g
  fair_full q Replace s t g = absurd g
  fair_full q Close s t g = tt

  fair_len : (q : Queue T) (m : QueueMark) (s t : Stage T) → ContinuesBy q ask.Len m s t → IsFair q ask.Len m
  fair_len q Nothing s t g = tt
  fair_len q Append s t g = absurd g
  fair_len q Take s t g = absurd g
  fair_len q TakeDisplaced s t g = absurd g
  fair_len q Replace s t g = absurd g
  fair_len q Close s t g = tt

  fair_on : (q : Queue T) (a : QueueAsk T) (m : QueueMark) (s t : Stage T) → ContinuesBy q a m s t → IsFair q a m
  fair_on q (ask.Push v) m s t g = fair_push q v m s t g
  fair_on q (ask.ForcePush v) m s t g = fair_force q v m s t g
  fair_on q ask.Pop m s t g = fair_pop q m s t g
  fair_on q ask.Close m s t g = absurd g
  fair_on q ask.IsClosed m s t g = absurd g
  fair_on q ask.IsEmpty m s t g = fair_empty q m s t g
  fair_on q ask.IsFull m s t g = fair_full q m s t g
  fair_on q ask.Len m s t g = fair_len q m s t g
  fair_on q ask.Capacity m s t g = absurd g

  pub fair_goes : (q : Queue T) (p : Phase T) (m : QueueMark) (p' : Phase T) → Continues q p m p' → IsFair q p.ask m
  fair_goes q p m p' g = fair_on q p.ask m p.stage p'.stage g.1

  -- an answer comes by a step with no mark, or by a closing one
  fair_to : (q : Queue T) (a : QueueAsk T) (m : QueueMark) (r : QueueReply T) (s : Stage T) → AnswersTo q a m r s → IsFair q a m
  fair_to q a Nothing r s h = tt
  fair_to q a Close r s h = tt
  fair_to q (ask.Push v) Append r s h = absurd h
  fair_to q (ask.Push v) Take r s h = absurd h
  fair_to q (ask.Push v) TakeDisplaced r s h = absurd h
  fair_to q (ask.Push v) Replace r s h = absurd h
  fair_to q (ask.ForcePush v) Append r s h = absurd h
  fair_to q (ask.ForcePush v) Take r s h = absurd h
  fair_to q (ask.ForcePush v) TakeDisplaced r s h = absurd h
  fair_to q (ask.ForcePush v) Replace r s h = absurd h
  fair_to q ask.Pop Append r s h = absurd h
  fair_to q ask.Pop Take r s h = absurd h
  fair_to q ask.Pop TakeDisplaced r s h = absurd h
  fair_to q ask.Pop Replace r s h = absurd h
  fair_to q ask.Close Append r s h = absurd h
  fair_to q ask.Close Take r s h = absurd h
  fair_to q ask.Close TakeDisplaced r s h = absurd h
  fair_to q ask.Close Replace r s h = absurd h
  fair_to q ask.IsClosed Append r s h = absurd h
  fair_to q ask.IsClosed Take r s h = absurd h
  fair_to q ask.IsClosed TakeDisplaced r s h = absurd h
  fair_to q ask.IsClosed Replace r s h = absurd h
  fair_to q ask.IsEmpty Append r s h = absurd h
  fair_to q ask.IsEmpty Take r s h = absurd h
  fair_to q ask.IsEmpty TakeDisplaced r s h = absurd h
  fair_to q ask.IsEmpty Replace r s h = absurd h
  fair_to q ask.IsFull Append r s h = absurd h
  fair_to q ask.IsFull Take r s h = absurd h
  fair_to q ask.IsFull TakeDisplaced r s h = absurd h
  fair_to q ask.IsFull Replace r s h = absurd h
  fair_to q ask.Len Append r s h = absurd h
  fair_to q ask.Len Take r s h = absurd h
  fair_to q ask.Len TakeDisplaced r s h = absurd h
  fair_to q ask.Len Replace r s h = absurd h
  fair_to q ask.Capacity Append r s h = absurd h
  fair_to q ask.Capacity Take r s h = absurd h
  fair_to q ask.Capacity TakeDisplaced r s h = absurd h
  fair_to q ask.Capacity Replace r s h = absurd h

  pub fair_answers : (q : Queue T) (p : Phase T) (m : QueueMark) (r : QueueReply T) → Answers q p m r → IsFair q p.ask m
  fair_answers q p m r h = fair_to q p.ask m r p.stage h

  pub balance : (q : Queue T) (p : Phase T) (m : QueueMark) → IsFair q p.ask m → IsBalanced q → IsBalanced (after p m q)
  balance q p Nothing f h = h
  balance q p Append f h =
      let n : length (message p.ask) ≡ 1 = ap length f.1 in let k = length-append q.items (message p.ask) in let h' : length q.items + q.removed ≡ q.accepted = h in omega arith
  balance q p Take f h =
      let n : length q.items ≡ length (f.0 ∷ f.1.0) = ap length f.1.1 in let k : length (drop 1 q.items) ≡ length f.1.0 = ap (λ (xs : List T). length (drop 1 xs)) f.1.1 in
      let h' : length q.items + q.removed ≡ q.accepted = h in omega arith
  balance q p TakeDisplaced f h =
      let n : length q.items ≡ length (f.0 ∷ f.1.0) = ap length f.1.1 in let k : length (drop 1 q.items) ≡ length f.1.0 = ap (λ (xs : List T). length (drop 1 xs)) f.1.1 in
      let h' : length q.items + q.removed ≡ q.accepted = h in omega arith
  balance q p Replace f h =
      let n : length (message p.ask) ≡ 1 = ap length f.0.1 in let k = length-append (drop 1 q.items) (message p.ask) in
      let o = f.1 in let n' : length q.items ≡ length (o.0 ∷ o.1.0) = ap length o.1.1 in let k' : length (drop 1 q.items) ≡ length o.1.0 = ap (λ (xs : List T). length (drop 1 xs)) o.1.1 in
      let h' : length q.items + q.removed ≡ q.accepted = h in omega arith
  balance q p Close f h = h

  -- no mark changes the capacity
  pub same_capacity : (q : Queue T) (p : Phase T) (m : QueueMark) → (after p m q).capacity ≡ q.capacity
  same_capacity q p Nothing = refl
  same_capacity q p Append = refl
  same_capacity q p Take = refl
  same_capacity q p TakeDisplaced = refl
  same_capacity q p Replace = refl
  same_capacity q p Close = refl
