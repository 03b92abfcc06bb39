-- A step of the ring's machine touches at most one word or slot, and never the form.
use Rattle.std.proofs.Common.{◌≡◌, ℕ, ◌*◌, ◌==◌, Bool, true, false, if◌then◌else◌, Option, slice_get, bit_or, refl, inl, inr}
use Rattle.concurrent_queue.specs.Contents.{Contents, write_slot, is_vacant}
use Rattle.concurrent_queue.specs.Step.{OneCell}
use Rattle.concurrent_queue.specs.machine.RingWords as word
use Rattle.concurrent_queue.specs.machine.RingWords.{ring_step, index, put_step, took}
use Rattle.concurrent_queue.proofs.RingSteps.{pick}
use Rattle.concurrent_queue.specs.declared.call.Stepped.{Stepped}
use Rattle.concurrent_queue.specs.declared.cells.Slot.TheVariants.{At}
use Rattle.concurrent_queue.specs.declared.cells.Word.TheVariants.{Head, Tail, Stamp}
use Rattle.concurrent_queue.specs.declared.bounded.RingAction.{RingAction}
use Rattle.concurrent_queue.specs.declared.bounded.RingAction.TheVariants as act

module _ {T : Type 0} (cap m : ℕ) (c : Contents T) where
  none : OneCell c c
  unfolding OneCell
  none = inl refl

  tail : (x : ℕ) → OneCell c (word.set_tail c x)
  unfolding OneCell
  tail x = inr (inl (Tail, x, refl))

  head : (x : ℕ) → OneCell c (word.set_head c x)
  unfolding OneCell
  head x = inr (inl (Head, x, refl))

  stamp : (i x : ℕ) → OneCell c (word.set_stamp c i x)
  unfolding OneCell
  stamp i x = inr (inl (Stamp i, x, refl))

  slot : (i : ℕ) (o : Option T) → OneCell c (write_slot c (At i) o)
  unfolding OneCell
  slot i o = inr (inr (inl (At i, o, refl)))

  abbrev Fine : Contents T × Stepped (RingAction T) T → Type 0
  Fine x = OneCell c x.0 × (x.0.form ≡ c.form)

  put : (i : ℕ) (v : T) (next again : RingAction T) → Fine (put_step c i v next again)
  put i v next again = pick (λ (x : Contents T × Stepped (RingAction T) T). Fine x) (is_vacant (slice_get c.slots i)) _ _ (λ e. (slot i (Rattle.std.proofs.Common.Some v), refl)) (λ e. (none, refl))

  fine : (a : RingAction T) → Fine (ring_step cap m c a)
  fine (act.Push k v) = (none, refl)
  fine (act.PushShut k v) = (tail (bit_or c.tail m), refl)
  fine (act.PushStamp k v t) = (none, refl)
  fine (act.PushSwap k v t) = pick (λ (x : Contents T × Stepped (RingAction T) T). Fine x) (c.tail == t) _ _ (λ e. (tail (word.next_word cap m t), refl)) (λ e. (none, refl))
  fine (act.PushPut k v t) = put (index m t) v (act.PushStore k t) (act.PushPut k v t)
  fine (act.PushStore k t) = (stamp (index m t) _, refl)
  fine (act.PushHead v h) = (none, refl)
  fine (act.ForceHead v h) = pick (λ (x : Contents T × Stepped (RingAction T) T). Fine x) (c.head == h) _ _ (λ e. (head (word.next_word cap m h), refl)) (λ e. (none, refl))
  fine (act.ForceAdd v h) = (tail _, refl)
  fine (act.ForceTake v h) = (slot (index m h) _, refl)
  fine (act.ForcePut v h d) = put (index m h) v (act.ForceStore h d) (act.ForcePut v h d)
  fine (act.ForceStore h d) = (stamp (index m h) _, refl)
  fine act.Pop = (none, refl)
  fine (act.PopStamp h) = (none, refl)
  fine (act.PopSwap h) = pick (λ (x : Contents T × Stepped (RingAction T) T). Fine x) (c.head == h) _ _ (λ e. (head (word.next_word cap m h), refl)) (λ e. (none, refl))
  fine (act.PopTail h) = (none, refl)
  fine (act.PopTake h) = (slot (index m h) _, refl)
  fine (act.PopStore h v) = (stamp (index m h) _, refl)
  fine act.Close = (tail (bit_or c.tail m), refl)
  fine act.IsClosed = (none, refl)
  fine act.IsEmpty = (none, refl)
  fine (act.IsEmptyTail h) = (none, refl)
  fine act.IsFull = (none, refl)
  fine (act.IsFullHead t) = (none, refl)
  fine act.Len = (none, refl)
  fine (act.LenHead t b) = (none, refl)
  fine (act.LenTail t b h) = (none, refl)
  fine act.Capacity = (none, refl)
  fine act.Finished = (none, refl)

  pub ring_one_cell : (a : RingAction T) → OneCell c (ring_step cap m c a).0
  ring_one_cell a = (fine a).0

  pub ring_same_form : (a : RingAction T) → (ring_step cap m c a).0.form ≡ c.form
  ring_same_form a = (fine a).1
