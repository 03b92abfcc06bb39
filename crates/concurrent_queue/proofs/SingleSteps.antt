-- One step of one call on one slot keeps what the cells mean, at each of the few states of the slot.
use Rattle.std.proofs.Common.{◌≡◌, ◌+◌, Bool, true, false, [], ◌∷◌, Option, None, Some, is_some, option_to_list, if◌then◌else◌, MatchOption, refl, rules}
use Rattle.concurrent_queue.specs.Contents.{Contents}
use Rattle.concurrent_queue.specs.Queue.{Queue, Stage, trying, appended, taken, Phase, after, seen_after, Continues, Answers}
use Rattle.concurrent_queue.specs.machine.Single.{single_step}
use Rattle.concurrent_queue.specs.machine.SingleState.{word_of, holds, KnowsSingle}
use Rattle.concurrent_queue.specs.declared.call.QueueAsk.{QueueAsk}
use Rattle.concurrent_queue.specs.declared.call.QueueAsk.TheVariants as ask
use Rattle.concurrent_queue.specs.declared.call.Stepped.{Stepped}
use Rattle.concurrent_queue.specs.declared.single.SingleAction.{SingleAction}
use Rattle.concurrent_queue.specs.declared.single.SingleAction.TheVariants.{Push, PushPut, PushUnlock, Force, ForceTake, ForcePut, ForceUnlock, Pop, PopTake, PopUnlock, Close, IsClosed, IsEmpty, IsFull, Len, Capacity, Finished}

-- what holds after a step of a call p that stood at a, which left d
pub record Kept {T : Type 0} (locked : Bool) (item slot : Option T) (q : Queue T) (a : SingleAction T) (p : Phase T) (d : Contents T) (s : Stepped (SingleAction T) T) (locked' : Bool) (item' slot' : Option T) (p' : Phase T) : Type 0 where
  pub state : d.state ≡ word_of locked' (is_some item') (after p s.mark q).closed
  pub slots : d.slots ≡ slot' ∷ []
  pub items : (after p s.mark q).items ≡ option_to_list item'
  pub coming : (after p s.mark q).coming ≡ false
  pub holding : holds s.action + (if locked then 1 else 0) ≡ holds a + (if locked' then 1 else 0)
  pub same : locked ≡ true → holds a ≡ 0 → (slot' ≡ slot) × (item' ≡ item)
  pub at_rest : locked' ≡ false → item' ≡ slot'
  pub effect : MatchOption s.reply (Continues q p s.mark p' × KnowsSingle slot' item' s.action p') (λ y. Answers q p s.mark y × (s.action ≡ Finished))

abbrev pub cells : {T : Type 0} → Contents T → Bool → Option T → Option T → Bool → Contents T
cells c locked item slot closed = record c { state = word_of locked (is_some item) closed; slots = slot ∷ [] }

abbrev pub queue_of : {T : Type 0} → Queue T → Option T → Bool → Queue T
queue_of q item closed = record q { items = option_to_list item; closed = closed; coming = false; capacity = Some 1 }

abbrev pub call_of : {T : Type 0} → QueueAsk T → Stage T → Phase T
call_of a s = record { ask = a; stage = s }

abbrev pub Stays : {T : Type 0} → Contents T → Queue T → Bool → Option T → Option T → Bool → SingleAction T → Phase T → Type 0
Stays {T} c q locked item slot closed a p =
    let r = single_step (cells c locked item slot closed) a in
    (locked' : Bool) × (item' : Option T) × (slot' : Option T) × (p' : Phase T) × Kept locked item slot (queue_of q item closed) a p r.0 r.1 locked' item' slot' p'

-- a try that finds the queue open and full has seen it so
or_true : (b : Bool) → (if b then true else true) ≡ true
or_true false = refl
or_true true = refl

module _ {T : Type 0} (c : Contents T) (q : Queue T) (seen : Bool) where
  pub push : (locked : Bool) (item slot : Option T) (closed : Bool) (v : T) → (locked ≡ false → item ≡ slot) → Stays c q locked item slot closed (Push v) (call_of (ask.Push v) (trying seen))
  push false None slot false v rest = (true, Some v, slot, call_of (ask.Push v) (appended None), let e = rest refl in let w = or_true seen in search rules)
  push false None slot true v rest = (false, None, slot, call_of (ask.Push v) (trying seen), let e = rest refl in let w = or_true seen in search rules)
  push false (Some x) slot false v rest = (false, Some x, slot, call_of (ask.Push v) (trying seen), let e = rest refl in let w = or_true seen in search rules)
  push false (Some x) slot true v rest = (false, Some x, slot, call_of (ask.Push v) (trying seen), let e = rest refl in let w = or_true seen in search rules)
  push true None slot false v rest = (true, None, slot, call_of (ask.Push v) (trying (seen_after seen (queue_of q (None) false))), let w = or_true seen in search rules)
  push true None slot true v rest = (true, None, slot, call_of (ask.Push v) (trying seen), let w = or_true seen in search rules)
  push true (Some x) slot false v rest = (true, Some x, slot, call_of (ask.Push v) (trying seen), let w = or_true seen in search rules)
  push true (Some x) slot true v rest = (true, Some x, slot, call_of (ask.Push v) (trying seen), let w = or_true seen in search rules)

  pub force-0 : (locked : Bool) (item slot : Option T) (closed : Bool) (v : T) → (locked ≡ false → item ≡ slot) → Stays c q locked item slot closed (Force v 0) (call_of (ask.ForcePush v) (trying seen))
  force-0 false None slot false v rest = (true, Some v, slot, call_of (ask.ForcePush v) (appended None), let e = rest refl in let w = or_true seen in search rules)
  force-0 false None slot true v rest = (false, None, slot, call_of (ask.ForcePush v) (trying seen), let e = rest refl in let w = or_true seen in search rules)
  force-0 false (Some x) slot false v rest = (false, Some x, slot, call_of (ask.ForcePush v) (trying (seen_after seen (queue_of q (Some x) false))), let e = rest refl in let w = or_true seen in search rules)
  force-0 false (Some x) slot true v rest = (false, Some x, slot, call_of (ask.ForcePush v) (trying seen), let e = rest refl in let w = or_true seen in search rules)
  force-0 true None slot false v rest = (true, None, slot, call_of (ask.ForcePush v) (trying (seen_after seen (queue_of q (None) false))), let w = or_true seen in search rules)
  force-0 true None slot true v rest = (true, None, slot, call_of (ask.ForcePush v) (trying seen), let w = or_true seen in search rules)
  force-0 true (Some x) slot false v rest = (true, Some x, slot, call_of (ask.ForcePush v) (trying (seen_after seen (queue_of q (Some x) false))), let w = or_true seen in search rules)
  force-0 true (Some x) slot true v rest = (true, Some x, slot, call_of (ask.ForcePush v) (trying seen), let w = or_true seen in search rules)

  pub force-2 : (locked : Bool) (item slot : Option T) (closed : Bool) (v : T) → (locked ≡ false → item ≡ slot) → Stays c q locked item slot closed (Force v 2) (call_of (ask.ForcePush v) (trying seen))
  force-2 false None slot false v rest = (false, None, slot, call_of (ask.ForcePush v) (trying (seen_after seen (queue_of q (None) false))), let e = rest refl in let w = or_true seen in search rules)
  force-2 false None slot true v rest = (false, None, slot, call_of (ask.ForcePush v) (trying seen), let e = rest refl in let w = or_true seen in search rules)
  force-2 false (Some x) slot false v rest = (true, Some v, slot, call_of (ask.ForcePush v) (appended (Some x)), let e = rest refl in let w = or_true seen in search rules)
  force-2 false (Some x) slot true v rest = (false, Some x, slot, call_of (ask.ForcePush v) (trying seen), let e = rest refl in let w = or_true seen in search rules)
  force-2 true None slot false v rest = (true, None, slot, call_of (ask.ForcePush v) (trying (seen_after seen (queue_of q (None) false))), let w = or_true seen in search rules)
  force-2 true None slot true v rest = (true, None, slot, call_of (ask.ForcePush v) (trying seen), let w = or_true seen in search rules)
  force-2 true (Some x) slot false v rest = (true, Some x, slot, call_of (ask.ForcePush v) (trying (seen_after seen (queue_of q (Some x) false))), let w = or_true seen in search rules)
  force-2 true (Some x) slot true v rest = (true, Some x, slot, call_of (ask.ForcePush v) (trying seen), let w = or_true seen in search rules)

  pub pop-2 : (locked : Bool) (item slot : Option T) (closed : Bool) → (locked ≡ false → item ≡ slot) → Stays c q locked item slot closed (Pop 2) (call_of ask.Pop (trying seen))
  pop-2 false None slot false rest = (false, None, slot, call_of ask.Pop (trying seen), let e = rest refl in let w = or_true seen in search rules)
  pop-2 false None slot true rest = (false, None, slot, call_of ask.Pop (trying seen), let e = rest refl in let w = or_true seen in search rules)
  pop-2 false (Some x) slot false rest = (true, None, slot, call_of ask.Pop (taken x), let e = rest refl in let w = or_true seen in search rules)
  pop-2 false (Some x) slot true rest = (false, Some x, slot, call_of ask.Pop (trying (seen_after seen (queue_of q (Some x) true))), let e = rest refl in let w = or_true seen in search rules)
  pop-2 true None slot false rest = (true, None, slot, call_of ask.Pop (trying seen), let w = or_true seen in search rules)
  pop-2 true None slot true rest = (true, None, slot, call_of ask.Pop (trying seen), let w = or_true seen in search rules)
  pop-2 true (Some x) slot false rest = (true, Some x, slot, call_of ask.Pop (trying (seen_after seen (queue_of q (Some x) false))), let w = or_true seen in search rules)
  pop-2 true (Some x) slot true rest = (true, Some x, slot, call_of ask.Pop (trying (seen_after seen (queue_of q (Some x) true))), let w = or_true seen in search rules)

  pub pop-6 : (locked : Bool) (item slot : Option T) (closed : Bool) → (locked ≡ false → item ≡ slot) → Stays c q locked item slot closed (Pop 6) (call_of ask.Pop (trying seen))
  pop-6 false None slot false rest = (false, None, slot, call_of ask.Pop (trying seen), let e = rest refl in let w = or_true seen in search rules)
  pop-6 false None slot true rest = (false, None, slot, call_of ask.Pop (trying seen), let e = rest refl in let w = or_true seen in search rules)
  pop-6 false (Some x) slot false rest = (false, Some x, slot, call_of ask.Pop (trying (seen_after seen (queue_of q (Some x) false))), let e = rest refl in let w = or_true seen in search rules)
  pop-6 false (Some x) slot true rest = (true, None, slot, call_of ask.Pop (taken x), let e = rest refl in let w = or_true seen in search rules)
  pop-6 true None slot false rest = (true, None, slot, call_of ask.Pop (trying seen), let w = or_true seen in search rules)
  pop-6 true None slot true rest = (true, None, slot, call_of ask.Pop (trying seen), let w = or_true seen in search rules)
  pop-6 true (Some x) slot false rest = (true, Some x, slot, call_of ask.Pop (trying (seen_after seen (queue_of q (Some x) false))), let w = or_true seen in search rules)
  pop-6 true (Some x) slot true rest = (true, Some x, slot, call_of ask.Pop (trying (seen_after seen (queue_of q (Some x) true))), let w = or_true seen in search rules)

  pub close : (locked : Bool) (item slot : Option T) (closed : Bool) → (locked ≡ false → item ≡ slot) → Stays c q locked item slot closed Close (call_of ask.Close (trying seen))
  close false None slot false rest = (false, None, slot, call_of ask.Close (trying seen), search rules)
  close false None slot true rest = (false, None, slot, call_of ask.Close (trying seen), search rules)
  close false (Some x) slot false rest = (false, Some x, slot, call_of ask.Close (trying seen), search rules)
  close false (Some x) slot true rest = (false, Some x, slot, call_of ask.Close (trying seen), search rules)
  close true None slot false rest = (true, None, slot, call_of ask.Close (trying seen), search rules)
  close true None slot true rest = (true, None, slot, call_of ask.Close (trying seen), search rules)
  close true (Some x) slot false rest = (true, Some x, slot, call_of ask.Close (trying seen), search rules)
  close true (Some x) slot true rest = (true, Some x, slot, call_of ask.Close (trying seen), search rules)

  pub is_closed : (locked : Bool) (item slot : Option T) (closed : Bool) → (locked ≡ false → item ≡ slot) → Stays c q locked item slot closed IsClosed (call_of ask.IsClosed (trying seen))
  is_closed false None slot false rest = (false, None, slot, call_of ask.IsClosed (trying seen), search rules)
  is_closed false None slot true rest = (false, None, slot, call_of ask.IsClosed (trying seen), search rules)
  is_closed false (Some x) slot false rest = (false, Some x, slot, call_of ask.IsClosed (trying seen), search rules)
  is_closed false (Some x) slot true rest = (false, Some x, slot, call_of ask.IsClosed (trying seen), search rules)
  is_closed true None slot false rest = (true, None, slot, call_of ask.IsClosed (trying seen), search rules)
  is_closed true None slot true rest = (true, None, slot, call_of ask.IsClosed (trying seen), search rules)
  is_closed true (Some x) slot false rest = (true, Some x, slot, call_of ask.IsClosed (trying seen), search rules)
  is_closed true (Some x) slot true rest = (true, Some x, slot, call_of ask.IsClosed (trying seen), search rules)

  pub is_empty : (locked : Bool) (item slot : Option T) (closed : Bool) → (locked ≡ false → item ≡ slot) → Stays c q locked item slot closed IsEmpty (call_of ask.IsEmpty (trying seen))
  is_empty false None slot false rest = (false, None, slot, call_of ask.IsEmpty (trying seen), search rules)
  is_empty false None slot true rest = (false, None, slot, call_of ask.IsEmpty (trying seen), search rules)
  is_empty false (Some x) slot false rest = (false, Some x, slot, call_of ask.IsEmpty (trying seen), search rules)
  is_empty false (Some x) slot true rest = (false, Some x, slot, call_of ask.IsEmpty (trying seen), search rules)
  is_empty true None slot false rest = (true, None, slot, call_of ask.IsEmpty (trying seen), search rules)
  is_empty true None slot true rest = (true, None, slot, call_of ask.IsEmpty (trying seen), search rules)
  is_empty true (Some x) slot false rest = (true, Some x, slot, call_of ask.IsEmpty (trying seen), search rules)
  is_empty true (Some x) slot true rest = (true, Some x, slot, call_of ask.IsEmpty (trying seen), search rules)

  pub is_full : (locked : Bool) (item slot : Option T) (closed : Bool) → (locked ≡ false → item ≡ slot) → Stays c q locked item slot closed IsFull (call_of ask.IsFull (trying seen))
  is_full false None slot false rest = (false, None, slot, call_of ask.IsFull (trying seen), search rules)
  is_full false None slot true rest = (false, None, slot, call_of ask.IsFull (trying seen), search rules)
  is_full false (Some x) slot false rest = (false, Some x, slot, call_of ask.IsFull (trying seen), search rules)
  is_full false (Some x) slot true rest = (false, Some x, slot, call_of ask.IsFull (trying seen), search rules)
  is_full true None slot false rest = (true, None, slot, call_of ask.IsFull (trying seen), search rules)
  is_full true None slot true rest = (true, None, slot, call_of ask.IsFull (trying seen), search rules)
  is_full true (Some x) slot false rest = (true, Some x, slot, call_of ask.IsFull (trying seen), search rules)
  is_full true (Some x) slot true rest = (true, Some x, slot, call_of ask.IsFull (trying seen), search rules)

  pub len : (locked : Bool) (item slot : Option T) (closed : Bool) → (locked ≡ false → item ≡ slot) → Stays c q locked item slot closed Len (call_of ask.Len (trying seen))
  len false None slot false rest = (false, None, slot, call_of ask.Len (trying seen), search rules)
  len false None slot true rest = (false, None, slot, call_of ask.Len (trying seen), search rules)
  len false (Some x) slot false rest = (false, Some x, slot, call_of ask.Len (trying seen), search rules)
  len false (Some x) slot true rest = (false, Some x, slot, call_of ask.Len (trying seen), search rules)
  len true None slot false rest = (true, None, slot, call_of ask.Len (trying seen), search rules)
  len true None slot true rest = (true, None, slot, call_of ask.Len (trying seen), search rules)
  len true (Some x) slot false rest = (true, Some x, slot, call_of ask.Len (trying seen), search rules)
  len true (Some x) slot true rest = (true, Some x, slot, call_of ask.Len (trying seen), search rules)

  pub capacity : (locked : Bool) (item slot : Option T) (closed : Bool) → (locked ≡ false → item ≡ slot) → Stays c q locked item slot closed Capacity (call_of ask.Capacity (trying seen))
  capacity false None slot false rest = (false, None, slot, call_of ask.Capacity (trying seen), search rules)
  capacity false None slot true rest = (false, None, slot, call_of ask.Capacity (trying seen), search rules)
  capacity false (Some x) slot false rest = (false, Some x, slot, call_of ask.Capacity (trying seen), search rules)
  capacity false (Some x) slot true rest = (false, Some x, slot, call_of ask.Capacity (trying seen), search rules)
  capacity true None slot false rest = (true, None, slot, call_of ask.Capacity (trying seen), search rules)
  capacity true None slot true rest = (true, None, slot, call_of ask.Capacity (trying seen), search rules)
  capacity true (Some x) slot false rest = (true, Some x, slot, call_of ask.Capacity (trying seen), search rules)
  capacity true (Some x) slot true rest = (true, Some x, slot, call_of ask.Capacity (trying seen), search rules)

module _ {T : Type 0} (c : Contents T) (q : Queue T) where
  pub push_put : (closed : Bool) (v : T) → Stays c q true (Some v) None closed (PushPut v) (call_of (ask.Push v) (appended None))
  push_put closed v = (true, Some v, Some v, call_of (ask.Push v) (appended None), search rules)

  pub push_unlock : (closed : Bool) (v : T) → Stays c q true (Some v) (Some v) closed PushUnlock (call_of (ask.Push v) (appended None))
  push_unlock false v = (false, Some v, Some v, call_of (ask.Push v) (appended None), search rules)
  push_unlock true v = (false, Some v, Some v, call_of (ask.Push v) (appended None), search rules)

  pub force_take : (closed : Bool) (v d : T) → Stays c q true (Some v) (Some d) closed (ForceTake v) (call_of (ask.ForcePush v) (appended (Some d)))
  force_take closed v d = (true, Some v, None, call_of (ask.ForcePush v) (appended (Some d)), search rules)

  pub force_put : (closed : Bool) (v : T) (o : Option T) → Stays c q true (Some v) None closed (ForcePut v o) (call_of (ask.ForcePush v) (appended o))
  force_put closed v o = (true, Some v, Some v, call_of (ask.ForcePush v) (appended o), search rules)

  pub force_unlock : (closed : Bool) (v : T) (o : Option T) → Stays c q true (Some v) (Some v) closed (ForceUnlock o) (call_of (ask.ForcePush v) (appended o))
  force_unlock false v o = (false, Some v, Some v, call_of (ask.ForcePush v) (appended o), search rules)
  force_unlock true v o = (false, Some v, Some v, call_of (ask.ForcePush v) (appended o), search rules)

  pub pop_take : (closed : Bool) (d : T) → Stays c q true None (Some d) closed PopTake (call_of ask.Pop (taken d))
  pop_take closed d = (true, None, None, call_of ask.Pop (taken d), search rules)

  pub pop_unlock : (closed : Bool) (d : T) → Stays c q true None None closed (PopUnlock d) (call_of ask.Pop (taken d))
  pop_unlock false d = (false, None, None, call_of ask.Pop (taken d), search rules)
  pop_unlock true d = (false, None, None, call_of ask.Pop (taken d), search rules)
