-- A queue that can be closed, while calls are under way, and what each call's next step may do. There are no words or
-- slots here, and no retries.
use Rattle.std.specs.Prelude.{◌≡◌, ℕ, ◌+◌, ◌<◌, ◌≤◌, ◌^◌, ◌==◌, ◌⊎◌, Bool, true, false, List, [], ◌∷◌, ◌++◌, length, drop, Option, None, Some, Ok, Err, if◌then◌else◌}
use Rattle.concurrent_queue.specs.declared.call.QueueAsk.{QueueAsk}
use Rattle.concurrent_queue.specs.declared.call.QueueAsk.TheVariants as ask
use Rattle.concurrent_queue.specs.declared.call.QueueMark.{QueueMark}
use Rattle.concurrent_queue.specs.declared.call.QueueMark.TheVariants.{Nothing, Append, Take, TakeDisplaced, Replace, Close}
use Rattle.concurrent_queue.specs.declared.call.QueueReply.{QueueReply}
use Rattle.concurrent_queue.specs.declared.call.QueueReply.TheVariants as reply
use Rattle.concurrent_queue.specs.declared.error.PushError.TheVariants as push_error
use Rattle.concurrent_queue.specs.declared.error.ForcePushError.TheVariants as force_error
use Rattle.concurrent_queue.specs.declared.error.PopError.TheVariants as pop_error

-- a queue at one moment: its messages, oldest first; whether it is closed; whether a message that displaced another is
-- still on its way; how many messages were appended and removed since it was made; how many fit
pub record Queue (T : Type 0) : Type 0 where
  pub items : List T
  pub closed : Bool
  pub coming : Bool
  pub accepted : ℕ
  pub removed : ℕ
  pub capacity : Option ℕ

-- whether at a step of its own a call saw the queue open and such that it might refuse a message
abbrev pub MightHaveRefused : Type 0
MightHaveRefused = Bool

-- how far a call has come. `trying seen`: it has no mark, and `seen` says whether the queue might have refused a message at a step of
-- the call's own; `displaced d`: it took d out, and its own message is on its way; `appended o`: its message is in, in place of o;
-- `taken v`: it took v; `read n`: a question that read a count; `measured n k`: one that read a count and then a length
pub data Stage (T : Type 0) : Type 0 where
  trying : MightHaveRefused → Stage T
  displaced : T → Stage T
  appended : Option T → Stage T
  taken : T → Stage T
  read : ℕ → Stage T
  measured : ℕ → ℕ → Stage T

-- a call under way: what it asks, and how far it has come
pub record Phase (T : Type 0) : Type 0 where
  pub ask : QueueAsk T
  pub stage : Stage T

module _ {T : Type 0} where
  abbrev pub is_full_at : Option ℕ → List T → Bool
  is_full_at None items = false
  is_full_at (Some cap) items = length items == cap

  -- a queue is full where its length is its capacity
  abbrev pub is_filled : Queue T → Bool
  is_filled q = is_full_at q.capacity q.items

  abbrev pub IsOpen : Queue T → Type 0
  IsOpen q = q.closed ≡ false

  abbrev pub IsShut : Queue T → Type 0
  IsShut q = q.closed ≡ true

  -- nothing there and nothing on its way
  abbrev pub IsDrained : Queue T → Type 0
  IsDrained q = (q.items ≡ []) × (q.coming ≡ false)

  -- what might keep a message out of an open queue: one with a bound is full, one without lacks memory
  abbrev pub may_refuse_at : Option ℕ → List T → Bool
  may_refuse_at None items = true
  may_refuse_at (Some cap) items = length items == cap

  -- open, and may refuse a message, at this moment
  abbrev pub may_refuse : Queue T → Bool
  may_refuse q = if q.closed then false else may_refuse_at q.capacity q.items

  -- v is the oldest message
  abbrev pub IsOldest : T → Queue T → Type 0
  IsOldest v q = (rest : List T) × (q.items ≡ v ∷ rest)

  -- positions are counted up to here; a queue of one slot counts none
  abbrev pub IsInRange : Queue T → Type 0
  IsInRange q = (q.capacity ≡ Some 1) ⊎ (q.accepted ≤ 2 ^ 61)

  -- a queue that was just made
  abbrev pub opened : Option ℕ → Queue T
  opened cap = record { items = []; closed = false; coming = false; accepted = 0; removed = 0; capacity = cap }

  -- a call that has made no step
  abbrev pub asked : QueueAsk T → Phase T
  asked a = record { ask = a; stage = trying false }

  -- the message that a call brings
  abbrev pub message : QueueAsk T → List T
  message (ask.Push v) = v ∷ []
  message (ask.ForcePush v) = v ∷ []
  message _ = []

  -- ---- what a mark does

  -- `making_room`: the call that makes the step took a message out at an earlier one, to make room
  abbrev pub marked : QueueAsk T → Bool → QueueMark → Queue T → Queue T
  marked a making_room Nothing q = q
  marked a making_room Append q =
      record q { items = q.items ++ message a; coming = if making_room then false else q.coming; accepted = q.accepted + 1 }
  marked a making_room Take q = record q { items = drop 1 q.items; removed = q.removed + 1 }
  marked a making_room TakeDisplaced q = record q { items = drop 1 q.items; coming = true; removed = q.removed + 1 }
  marked a making_room Replace q =
      record q { items = drop 1 q.items ++ message a; accepted = q.accepted + 1; removed = q.removed + 1 }
  marked a making_room Close q = record q { closed = true }

  abbrev pub is_displaced : Stage T → Bool
  is_displaced (displaced d) = true
  is_displaced _ = false

  -- the queue after a step of the call p with this mark
  abbrev pub after : Phase T → QueueMark → Queue T → Queue T
  after p mark q = marked p.ask (is_displaced p.stage) mark q

  -- whether a try has found the queue open and one that may refuse, with a step here
  abbrev pub seen_after : MightHaveRefused → Queue T → MightHaveRefused
  seen_after seen q = if seen then true else may_refuse q

  -- ---- a step that does not end its call: over the queue q, by this mark, from one stage to the next

  abbrev pub ContinuesPush : Queue T → QueueMark → Stage T → Stage T → Type 0
  ContinuesPush q Nothing (trying seen) s = s ≡ trying (seen_after seen q)
  ContinuesPush q Nothing (appended None) s = s ≡ appended None
  ContinuesPush q Append (trying seen) s = IsOpen q × (is_filled q ≡ false) × (s ≡ appended None)
  ContinuesPush q _ _ s = ⊥

  -- the oldest of a full queue leaves at one step, and the message comes at a later one; on one slot, and there alone, both
  -- are one step
  abbrev pub ContinuesForce : Queue T → QueueMark → Stage T → Stage T → Type 0
  ContinuesForce q Nothing (trying seen) s = s ≡ trying (seen_after seen q)
  ContinuesForce q Nothing (displaced d) s = s ≡ displaced d
  ContinuesForce q Nothing (appended o) s = s ≡ appended o
  ContinuesForce q Append (trying seen) s = IsOpen q × (is_filled q ≡ false) × (s ≡ appended None)
  ContinuesForce q Append (displaced d) s = (q.coming ≡ true) × (is_filled q ≡ false) × (s ≡ appended (Some d))
  ContinuesForce q Replace (trying seen) s =
      (d : T) × IsOldest d q × IsOpen q × (is_filled q ≡ true) × (q.capacity ≡ Some 1) × (s ≡ appended (Some d))
  ContinuesForce q TakeDisplaced (trying seen) s =
      (d : T) × IsOldest d q × (seen_after seen q ≡ true) × (is_filled q ≡ true) × (q.coming ≡ false) × (s ≡ displaced d) × (q.capacity ≡ Some 1 → ⊥)
  ContinuesForce q _ _ s = ⊥

  abbrev pub ContinuesPop : Queue T → QueueMark → Stage T → Stage T → Type 0
  ContinuesPop q Nothing (trying seen) s = s ≡ trying (seen_after seen q)
  ContinuesPop q Nothing (taken v) s = s ≡ taken v
  ContinuesPop q Take (trying seen) s = (v : T) × IsOldest v q × (s ≡ taken v)
  ContinuesPop q _ _ s = ⊥

  -- a question reads how many were removed
  abbrev pub ContinuesEmpty : Queue T → QueueMark → Stage T → Stage T → Type 0
  ContinuesEmpty q Nothing (trying seen) s = s ≡ read q.removed
  ContinuesEmpty q _ _ s = ⊥

  -- or how many were appended; a queue of one slot answers at once
  abbrev pub ContinuesFull : Queue T → QueueMark → Stage T → Stage T → Type 0
  ContinuesFull q Nothing (trying seen) s = (s ≡ read q.accepted) × (q.capacity ≡ Some 1 → ⊥)
  ContinuesFull q _ _ s = ⊥

  -- or how many were appended and then the length, and perhaps begins again
  abbrev pub ContinuesLen : Queue T → QueueMark → Stage T → Stage T → Type 0
  ContinuesLen q Nothing (trying seen) s = s ≡ read q.accepted
  ContinuesLen q Nothing (read n) s = s ≡ measured n (length q.items)
  ContinuesLen q Nothing (measured n k) s = s ≡ trying false
  ContinuesLen q _ _ s = ⊥

  abbrev pub ContinuesBy : Queue T → QueueAsk T → QueueMark → Stage T → Stage T → Type 0
  ContinuesBy q (ask.Push v) m s t = ContinuesPush q m s t
  ContinuesBy q (ask.ForcePush v) m s t = ContinuesForce q m s t
  ContinuesBy q ask.Pop m s t = ContinuesPop q m s t
  ContinuesBy q ask.Close m s t = ⊥
  ContinuesBy q ask.IsClosed m s t = ⊥
  ContinuesBy q ask.IsEmpty m s t = ContinuesEmpty q m s t
  ContinuesBy q ask.IsFull m s t = ContinuesFull q m s t
  ContinuesBy q ask.Len m s t = ContinuesLen q m s t
  ContinuesBy q ask.Capacity m s t = ⊥

  abbrev pub Continues : Queue T → Phase T → QueueMark → Phase T → Type 0
  Continues q p m p' = (p'.ask ≡ p.ask) × ContinuesBy q p.ask m p.stage p'.stage

  -- ---- a step that ends its call: what a refusal says holds at this very step. That the queue was open where it was found
  -- full, or if memory was refused, was so at a step of the call's own: another may have closed it since

  abbrev pub AnswersPush : Queue T → T → QueueMark → QueueReply T → Stage T → Type 0
  AnswersPush q v Nothing (reply.Push (Ok u)) (appended None) = Unit {0}
  AnswersPush q v Nothing (reply.Push (Err (push_error.Full w))) (trying seen) = (w ≡ v) × (is_filled q ≡ true) × (seen_after seen q ≡ true)
  AnswersPush q v Nothing (reply.Push (Err (push_error.Closed w))) (trying seen) = (w ≡ v) × IsShut q
  AnswersPush q v Nothing (reply.Push (Err (push_error.NoMemory w))) (trying seen) = (w ≡ v) × (q.capacity ≡ None) × (seen_after seen q ≡ true)
  AnswersPush q v _ _ _ = ⊥

  abbrev pub AnswersForce : Queue T → T → QueueMark → QueueReply T → Stage T → Type 0
  AnswersForce q v Nothing (reply.Force (Ok d)) (appended o) = d ≡ o
  AnswersForce q v Nothing (reply.Force (Err (force_error.Closed w))) (trying seen) = (w ≡ v) × IsShut q
  AnswersForce q v Nothing (reply.Force (Err (force_error.NoMemory w))) (trying seen) = (w ≡ v) × (q.capacity ≡ None) × (seen_after seen q ≡ true)
  AnswersForce q v _ _ _ = ⊥

  abbrev pub AnswersPop : Queue T → QueueMark → QueueReply T → Stage T → Type 0
  AnswersPop q Nothing (reply.Pop (Ok w)) (taken v) = w ≡ v
  AnswersPop q Nothing (reply.Pop (Err pop_error.Empty)) (trying seen) = IsOpen q × IsDrained q
  AnswersPop q Nothing (reply.Pop (Err pop_error.Closed)) (trying seen) = IsShut q × IsDrained q
  AnswersPop q _ _ _ = ⊥

  abbrev pub AnswersClose : Queue T → QueueMark → QueueReply T → Stage T → Type 0
  AnswersClose q Close (reply.Close true) (trying seen) = IsOpen q
  AnswersClose q Nothing (reply.Close false) (trying seen) = IsShut q
  AnswersClose q _ _ _ = ⊥

  abbrev pub AnswersShut : Queue T → QueueMark → QueueReply T → Stage T → Type 0
  AnswersShut q Nothing (reply.Flag b) (trying seen) = q.closed ≡ b
  AnswersShut q _ _ _ = ⊥

  -- a count that was read at an earlier step only grows: so there was a moment in between with a message
  abbrev pub AnswersEmpty : Queue T → QueueMark → QueueReply T → Stage T → Type 0
  AnswersEmpty q Nothing (reply.Flag b) (trying seen) = (length q.items == 0) ≡ b
  AnswersEmpty q Nothing (reply.Flag true) (read n) = q.items ≡ []
  AnswersEmpty q Nothing (reply.Flag false) (read n) = n < q.accepted
  AnswersEmpty q _ _ _ = ⊥

  -- and here one with a free place
  abbrev pub AnswersFull : Queue T → QueueMark → QueueReply T → Stage T → Type 0
  AnswersFull q Nothing (reply.Flag b) (trying seen) = is_filled q ≡ b
  AnswersFull q Nothing (reply.Flag true) (read n) = is_filled q ≡ true
  AnswersFull q Nothing (reply.Flag false) (read n) = (cap : ℕ) × (q.capacity ≡ Some cap) × (n < q.removed + cap)
  AnswersFull q _ _ _ = ⊥

  -- nothing was appended since the count was read, so the length between was that of its moment
  abbrev pub AnswersLen : Queue T → QueueMark → QueueReply T → Stage T → Type 0
  AnswersLen q Nothing (reply.Count n) (trying seen) = length q.items ≡ n
  AnswersLen q Nothing (reply.Count n) (measured m k) = (n ≡ k) × (q.accepted ≡ m)
  AnswersLen q _ _ _ = ⊥

  abbrev pub AnswersCapacity : Queue T → QueueMark → QueueReply T → Stage T → Type 0
  AnswersCapacity q Nothing (reply.Cap c) (trying seen) = c ≡ q.capacity
  AnswersCapacity q _ _ _ = ⊥

  abbrev pub AnswersTo : Queue T → QueueAsk T → QueueMark → QueueReply T → Stage T → Type 0
  AnswersTo q (ask.Push v) m r s = AnswersPush q v m r s
  AnswersTo q (ask.ForcePush v) m r s = AnswersForce q v m r s
  AnswersTo q ask.Pop m r s = AnswersPop q m r s
  AnswersTo q ask.Close m r s = AnswersClose q m r s
  AnswersTo q ask.IsClosed m r s = AnswersShut q m r s
  AnswersTo q ask.IsEmpty m r s = AnswersEmpty q m r s
  AnswersTo q ask.IsFull m r s = AnswersFull q m r s
  AnswersTo q ask.Len m r s = AnswersLen q m r s
  AnswersTo q ask.Capacity m r s = AnswersCapacity q m r s

  abbrev pub Answers : Queue T → Phase T → QueueMark → QueueReply T → Type 0
  Answers q p m r = AnswersTo q p.ask m r p.stage
