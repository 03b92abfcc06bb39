-- The calls of a ring. Here an action goes by the numbers of messages, where the code's has their positions: n is the
-- number of the message that a call is about, c that of the one which a displacing push takes out.
use Rattle.std.specs.Prelude.{◌≡◌, ℕ, ◌+◌, ◌%◌, ◌<◌, ◌≤◌, Bool, true, false, Option, None, Some, slice_get, if◌then◌else◌, ◌==◌, ◌⊎◌}
use Rattle.concurrent_queue.specs.Queue.{Phase, Stage, trying, displaced, appended, taken, read, measured}
use Rattle.concurrent_queue.specs.machine.RingState.{Ring, busy, the_place, reach}
use Rattle.concurrent_queue.specs.declared.call.QueueAsk.{QueueAsk}
use Rattle.concurrent_queue.specs.declared.call.QueueAsk.TheVariants as ask
use Rattle.concurrent_queue.specs.declared.bounded.WhenFull.{WhenFull}
use Rattle.concurrent_queue.specs.declared.bounded.WhenFull.TheVariants.{Refuse, Displace}
use Rattle.concurrent_queue.specs.declared.bounded.RingAction.{RingAction}
use Rattle.concurrent_queue.specs.declared.bounded.RingAction.TheVariants as act

-- what a call may have to do before others can go on: to give a place back, or to bring a message that displaced another
pub data Duty : Type 0 where
  hold : ℕ → Duty
  bring : Duty

-- the ring has no other duties than these
abbrev pub IsDuty : ℕ → Duty → Type 0
IsDuty cap (hold i) = i < cap
IsDuty cap bring = Unit {0}

-- whether the place of index i is the one held
abbrev pub holds : ℕ → ℕ → Option ℕ → ℕ
holds cap i None = 0
holds cap i (Some n) = if (n % cap) == i then 1 else 0

module _ {T : Type 0} where
  -- what a push asks for
  abbrev pub ask_of : WhenFull → T → QueueAsk T
  ask_of Refuse v = ask.Push v
  ask_of Displace v = ask.ForcePush v

  abbrev pub at_stage : QueueAsk T → Stage T → Phase T
  at_stage a s = record { ask = a; stage = s }

  -- the place of the n-th message has come to this number, this far, and holds this
  abbrev pub StandsRing : ℕ → Ring T → ℕ → Bool → Option T → Type 0
  StandsRing cap r n w slot = ((the_place cap r n).round ≡ n) × ((the_place cap r n).written ≡ w) × ((the_place cap r n).slot ≡ slot)

  -- the n-th message was appended and is v
  abbrev pub IsItem : Ring T → ℕ → T → Type 0
  IsItem r n v = (n < r.tail) × (slice_get r.all n ≡ Some v)

  -- the place of the n-th message has come to that number, and to that message being in
  abbrev pub Reached : ℕ → Ring T → ℕ → Type 0
  Reached cap r n = (n ≤ (the_place cap r n).round) × ((the_place cap r n).round ≡ n → (the_place cap r n).written ≡ true)

  -- a push that read the tail at n found the queue open then: also full, or it has had room for n ever since
  abbrev pub Saw : ℕ → Ring T → ℕ → Bool → Type 0
  Saw cap r n seen = (n ≤ r.tail) × ((seen ≡ true) ⊎ (n < r.head + cap))

  -- what closing, or a question, knows at an action; at no other is one under way
  abbrev pub KnowsRingQuestion : ℕ → Ring T → RingAction T → Phase T → Type 0
  KnowsRingQuestion cap r act.Close p = (seen : Bool) × (p ≡ at_stage ask.Close (trying seen))
  KnowsRingQuestion cap r act.IsClosed p = (seen : Bool) × (p ≡ at_stage ask.IsClosed (trying seen))
  KnowsRingQuestion cap r act.IsEmpty p = (seen : Bool) × (p ≡ at_stage ask.IsEmpty (trying seen))
  KnowsRingQuestion cap r (act.IsEmptyTail n) p = (p ≡ at_stage ask.IsEmpty (read n)) × (n ≤ r.head)
  KnowsRingQuestion cap r act.IsFull p = (seen : Bool) × (p ≡ at_stage ask.IsFull (trying seen))
  KnowsRingQuestion cap r (act.IsFullHead n) p = (p ≡ at_stage ask.IsFull (read n)) × (n ≤ r.tail)
  KnowsRingQuestion cap r act.Len p = (seen : Bool) × (p ≡ at_stage ask.Len (trying seen))
  KnowsRingQuestion cap r (act.LenHead n b) p = (p ≡ at_stage ask.Len (read n)) × (n ≤ r.tail)
  KnowsRingQuestion cap r (act.LenTail n b h) p = (k : ℕ) × (p ≡ at_stage ask.Len (measured n k)) × (n ≤ r.tail) × (h ≤ r.head) × (r.tail ≡ n → k + h ≡ n)
  KnowsRingQuestion cap r act.Capacity p = (seen : Bool) × (p ≡ at_stage ask.Capacity (trying seen))
  KnowsRingQuestion cap r _ p = ⊥

  abbrev pub KnowsRingPop : ℕ → Ring T → RingAction T → Phase T → Type 0
  KnowsRingPop cap r act.Pop p = (seen : Bool) × (p ≡ at_stage ask.Pop (trying seen))
  KnowsRingPop cap r (act.PopStamp n) p = (seen : Bool) × (p ≡ at_stage ask.Pop (trying seen)) × (n ≤ r.head)
  KnowsRingPop cap r (act.PopSwap n) p = (seen : Bool) × (p ≡ at_stage ask.Pop (trying seen)) × Reached cap r n
  KnowsRingPop cap r (act.PopTail n) p = (seen : Bool) × (p ≡ at_stage ask.Pop (trying seen)) × (n ≤ r.head) × (n ≤ (the_place cap r n).round)
  KnowsRingPop cap r (act.PopTake n) p = (d : T) × (p ≡ at_stage ask.Pop (taken d)) × StandsRing cap r n true (Some d) × (n < r.head) × (reach r ≤ n + cap)
  KnowsRingPop cap r (act.PopStore n d) p = (p ≡ at_stage ask.Pop (taken d)) × StandsRing cap r n true None × (n < r.head) × (reach r ≤ n + cap)
  KnowsRingPop cap r a p = KnowsRingQuestion cap r a p

  -- what a call at an action knows of the ring, and how far it has come
  abbrev pub KnowsRing : ℕ → Ring T → RingAction T → Phase T → Type 0
  KnowsRing cap r (act.Push k v) p = (seen : Bool) × (p ≡ at_stage (ask_of k v) (trying seen))
  KnowsRing cap r (act.PushShut k v) p = ⊥
  KnowsRing cap r (act.PushStamp k v n) p = (seen : Bool) × (p ≡ at_stage (ask_of k v) (trying seen)) × Saw cap r n seen
  KnowsRing cap r (act.PushSwap k v n) p = (seen : Bool) × (p ≡ at_stage (ask_of k v) (trying seen)) × (n ≤ (the_place cap r n).round)
  KnowsRing cap r (act.PushPut k v n) p = (p ≡ at_stage (ask_of k v) (appended None)) × StandsRing cap r n false None × IsItem r n v
  KnowsRing cap r (act.PushStore k n) p = (v : T) × (p ≡ at_stage (ask_of k v) (appended None)) × StandsRing cap r n false (Some v) × IsItem r n v
  KnowsRing cap r (act.PushHead v c) p = (seen : Bool) × (p ≡ at_stage (ask.Push v) (trying seen)) × Saw cap r (c + cap) seen
  KnowsRing cap r (act.ForceHead v c) p = (seen : Bool) × (p ≡ at_stage (ask.ForcePush v) (trying seen)) × Saw cap r (c + cap) seen × Reached cap r c
  KnowsRing cap r (act.ForceAdd v c) p =
      (d : T) × (p ≡ at_stage (ask.ForcePush v) (displaced d)) × StandsRing cap r c true (Some d) × (c < r.head) × (r.tail ≡ c + cap) × (r.coming ≡ true)
  KnowsRing cap r (act.ForceTake v c) p =
      (d : T) × (p ≡ at_stage (ask.ForcePush v) (appended (Some d))) × StandsRing cap r c true (Some d) × (c < r.head) × IsItem r (c + cap) v
  KnowsRing cap r (act.ForcePut v c d) p = (p ≡ at_stage (ask.ForcePush v) (appended (Some d))) × StandsRing cap r c true None × (c < r.head) × IsItem r (c + cap) v
  KnowsRing cap r (act.ForceStore c d) p =
      (v : T) × (p ≡ at_stage (ask.ForcePush v) (appended (Some d))) × StandsRing cap r c true (Some v) × (c < r.head) × IsItem r (c + cap) v
  KnowsRing cap r a p = KnowsRingPop cap r a p

  -- the number whose place a call at this action holds
  abbrev pub held : RingAction T → Option ℕ
  held (act.PushPut k v n) = Some n
  held (act.PushStore k n) = Some n
  held (act.ForceAdd v c) = Some c
  held (act.ForceTake v c) = Some c
  held (act.ForcePut v c d) = Some c
  held (act.ForceStore c d) = Some c
  held (act.PopTake n) = Some n
  held (act.PopStore n d) = Some n
  held _ = None

  abbrev pub brings : RingAction T → ℕ
  brings (act.ForceAdd v c) = 1
  brings _ = 0

  -- whether a call at this action owes the duty, and whether the ring waits for it
  abbrev pub owes : ℕ → RingAction T → Duty → ℕ
  owes cap a (hold i) = holds cap i (held a)
  owes cap a bring = brings a

  abbrev pub owed : Ring T → Duty → ℕ
  owed r (hold i) = if busy r i then 1 else 0
  owed r bring = if r.coming then 1 else 0

  -- the action as the code has it
  abbrev pub placed : (ℕ → ℕ) → RingAction T → RingAction T
  placed at (act.PushStamp k v n) = act.PushStamp k v (at n)
  placed at (act.PushSwap k v n) = act.PushSwap k v (at n)
  placed at (act.PushPut k v n) = act.PushPut k v (at n)
  placed at (act.PushStore k n) = act.PushStore k (at n)
  placed at (act.PushHead v c) = act.PushHead v (at c)
  placed at (act.ForceHead v c) = act.ForceHead v (at c)
  placed at (act.ForceAdd v c) = act.ForceAdd v (at c)
  placed at (act.ForceTake v c) = act.ForceTake v (at c)
  placed at (act.ForcePut v c d) = act.ForcePut v (at c) d
  placed at (act.ForceStore c d) = act.ForceStore (at c) d
  placed at (act.PopStamp n) = act.PopStamp (at n)
  placed at (act.PopSwap n) = act.PopSwap (at n)
  placed at (act.PopTail n) = act.PopTail (at n)
  placed at (act.PopTake n) = act.PopTake (at n)
  placed at (act.PopStore n d) = act.PopStore (at n) d
  placed at (act.IsEmptyTail n) = act.IsEmptyTail (at n)
  placed at (act.IsFullHead n) = act.IsFullHead (at n)
  placed at (act.LenHead n b) = act.LenHead (at n) b
  placed at (act.LenTail n b h) = act.LenTail (at n) b (at h)
  placed at a = a
