-- On one slot a call that meets nobody's hold comes nearer to its end at each step.
use Rattle.std.proofs.Common.{◌≡◌, ◌<◌, Bool, true, false, [], ◌∷◌, Option, None, Some, is_some, if◌then◌else◌, MatchOption, ⊎_elim, refl, subst, rules}
use Rattle.concurrent_queue.specs.Contents.{Contents}
use Rattle.concurrent_queue.specs.Queue.{Phase}
use Rattle.concurrent_queue.specs.machine.Single.{single_step, clear}
use Rattle.concurrent_queue.specs.machine.SingleState.{word_of, holds, KnowsSingle, single_rank}
use Rattle.concurrent_queue.specs.declared.call.Stepped.{Stepped}
use Rattle.concurrent_queue.specs.declared.single.SingleAction.{SingleAction}
use Rattle.concurrent_queue.specs.declared.single.SingleAction.TheVariants.{Push, PushPut, PushUnlock, Force, ForceTake, ForcePut, ForceUnlock, Pop, PopTake, PopUnlock, Close, IsClosed, IsEmpty, IsFull, Len, Capacity, Finished}
use Rattle.concurrent_queue.proofs.SingleSteps.{cells}
use Rattle.concurrent_queue.proofs.SingleKeeps.{same_cells}

-- a step ends the call or brings it nearer to its end
abbrev pub Nearer : {T : Type 0} → Contents T → SingleAction T → Contents T → Stepped (SingleAction T) T → Type 0
Nearer c a d s = MatchOption s.reply (single_rank d s.action < single_rank c a) (λ r. Unit {0})

abbrev pub Comes : {T : Type 0} → Contents T → SingleAction T → Type 0
Comes c a = Nearer c a (single_step c a).0 (single_step c a).1

module _ {T : Type 0} (c : Contents T) where
  push : (item slot : Option T) (closed : Bool) (v : T) → Comes (cells c false item slot closed) (Push v)
  push None slot false v = search rules
  push None slot true v = search rules
  push (Some x) slot false v = search rules
  push (Some x) slot true v = search rules

  force-0 : (item slot : Option T) (closed : Bool) (v : T) → Comes (cells c false item slot closed) (Force v 0)
  force-0 None slot false v = search rules
  force-0 None slot true v = search rules
  force-0 (Some x) slot false v = search rules
  force-0 (Some x) slot true v = search rules

  force-2 : (item slot : Option T) (closed : Bool) (v : T) → Comes (cells c false item slot closed) (Force v 2)
  force-2 None slot false v = search rules
  force-2 None slot true v = search rules
  force-2 (Some x) slot false v = search rules
  force-2 (Some x) slot true v = search rules

  pop-2 : (item slot : Option T) (closed : Bool) → Comes (cells c false item slot closed) (Pop 2)
  pop-2 None slot false = search rules
  pop-2 None slot true = search rules
  pop-2 (Some x) slot false = search rules
  pop-2 (Some x) slot true = search rules

  pop-6 : (item slot : Option T) (closed : Bool) → Comes (cells c false item slot closed) (Pop 6)
  pop-6 None slot false = search rules
  pop-6 None slot true = search rules
  pop-6 (Some x) slot false = search rules
  pop-6 (Some x) slot true = search rules

either : {T : Type 0} (c d : Contents T) (a : SingleAction T) (b : Bool) (x y : Stepped (SingleAction T) T) → Nearer c a d x → Nearer c a d y → Nearer c a d (if b then x else y)
either c d a true x y f g = f
either c d a false x y f g = g

module _ {T : Type 0} (c : Contents T) (locked : Bool) (item slot : Option T) (closed : Bool) (p : Phase T) (state : c.state ≡ word_of locked (is_some item) closed) (slots : c.slots ≡ slot ∷ []) where
  free : (a : SingleAction T) → locked ≡ false → Comes (cells c false item slot closed) a → Comes c a
  free a e n =
      let state' : c.state ≡ word_of false (is_some item) closed = subst (λ (b : Bool). c.state ≡ word_of b (is_some item) closed) e state in
      subst (λ (d : Contents T). Comes d a) (same_cells c _ _ state' slots) n

  pub nearer : (a : SingleAction T) → (holds a ≡ 0 → locked ≡ false) → KnowsSingle slot item a p → Comes c a
  nearer (Push v) lock f = free (Push v) (lock refl) (push c item slot closed v)
  nearer (PushPut v) lock f = rw (slots, f.1) (search rules)
  nearer PushUnlock lock f = tt
  nearer (Force v x) lock f = ⊎_elim
      (λ e. rw e (free (Force v 0) (lock refl) (force-0 c item slot closed v)))
      (λ e. rw e (free (Force v 2) (lock refl) (force-2 c item slot closed v))) f.1
  nearer (ForceTake v) lock f = rw (slots, f.2) (search rules)
  nearer (ForcePut v d) lock f = rw (slots, f.1) (search rules)
  nearer (ForceUnlock d) lock f = tt
  nearer (Pop x) lock f = ⊎_elim
      (λ e. rw e (free (Pop 2) (lock refl) (pop-2 c item slot closed)))
      (λ e. rw e (free (Pop 6) (lock refl) (pop-6 c item slot closed))) f.1
  nearer PopTake lock f = rw (slots, f.2) (search rules)
  nearer (PopUnlock d) lock f = tt
  nearer Close lock f = either c (single_step c Close).0 Close (clear c.state 4) _ _ tt tt
  nearer IsClosed lock f = tt
  nearer IsEmpty lock f = tt
  nearer IsFull lock f = tt
  nearer Len lock f = tt
  nearer Capacity lock f = tt
  nearer Finished lock f = absurd f
