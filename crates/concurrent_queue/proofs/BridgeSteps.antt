-- A step of a machine over cells that do just what is asked of them is the step of the contract.
use Rattle.std.proofs.Common.{◌≡◌, inl, inr, ℕ, ◌+◌, ◌%◌, ◌^◌, ◌<◌, ◌==◌, Bool, true, false, length, Option, None, Some, Result, Ok, Err, if◌then◌else◌, bit_or, bit_and, refl, sym, subst, ap, ◌∙◌, arith}
use Rattle.std.proofs.lemmas.Bool.Decides.{nat_tests}
use Rattle.concurrent_queue.specs.Contents.{Contents, read, write, slot_at, write_slot, can_put, SpareGives, with_retired}
use Rattle.concurrent_queue.specs.Deeds.{Move, loads, stores, exchanges, adds, sets_bits, keeps_bits, puts, takes, spares, retires, rests, Makes}
use Rattle.concurrent_queue.specs.Effects.{Does}
use Rattle.concurrent_queue.specs.Walked.{MakesBlocks, MakesBounded, MakesFirst, StateMakes}
use Rattle.concurrent_queue.specs.machine.Single.{SingleMakes, single_moves, single_step, start}
use Rattle.concurrent_queue.specs.machine.Single as one
use Rattle.concurrent_queue.specs.machine.RingWords.{cap_of, ring_mark, ring_step, ring_start}
use Rattle.concurrent_queue.specs.machine.RingWords as many
use Rattle.concurrent_queue.specs.machine.RingMoves.{RingMakes, ring_moves, emptied}
use Rattle.concurrent_queue.specs.machine.BlocksWords.{IsUnboundedStep, Obtains, begin}
use Rattle.concurrent_queue.specs.machine.BlocksMakes.{ProgressMakes, blocks_moves, obtained}
use Rattle.concurrent_queue.specs.machine.Dispatch.{ring_cap, IsStateStep, IsFirstStep, IsBoundedFirst, ByBlocks}
use Rattle.concurrent_queue.specs.declared.call.QueueAsk.{QueueAsk}
use Rattle.concurrent_queue.specs.declared.call.Stepped.{Stepped}
use Rattle.concurrent_queue.specs.declared.cells.QueueForm.{QueueForm}
use Rattle.concurrent_queue.specs.declared.cells.QueueForm.TheVariants.{Bounded, Unbounded}
use Rattle.concurrent_queue.specs.declared.cells.Slot.TheVariants.{At}
use Rattle.concurrent_queue.specs.declared.error.NoMemory.{NoMemory}
use Rattle.concurrent_queue.specs.declared.queue_call.CallState.{CallState}
use Rattle.concurrent_queue.specs.declared.queue_call.CallState.TheVariants.{Asked, Single, Ring, Blocks, Finished}
use Rattle.concurrent_queue.specs.declared.single.SingleAction.{SingleAction}
use Rattle.concurrent_queue.specs.declared.single.SingleAction.TheVariants as slot
use Rattle.concurrent_queue.specs.declared.bounded.RingAction.{RingAction}
use Rattle.concurrent_queue.specs.declared.bounded.RingAction.TheVariants as ring
use Rattle.concurrent_queue.specs.declared.unbounded.action.Progress.{Progress}
use Rattle.concurrent_queue.specs.declared.unbounded.action.UnboundedAction.{UnboundedAction}
use Rattle.concurrent_queue.specs.declared.unbounded.action.UnboundedAction.TheVariants as act
use Rattle.concurrent_queue.specs.declared.unbounded.action.UnboundedCall.{UnboundedCall}

same : (m n : ℕ) → m ≡ n → (m == n) ≡ true
same m n e = grind (arith, nat_tests, e)

other : (m n : ℕ) → (m ≡ n → ⊥) → (m == n) ≡ false
other m n e = grind (arith, nat_tests, e)

-- ---- what an operation leaves, and what follows it

module _ {T A : Type 0} (c : Contents T) where
  abbrev Gives : Move T A → Contents T × A → Type 0
  Gives (loads w k) x = x ≡ (c, k (read c w))
  Gives (stores w y a) x = x ≡ (write c w y, a)
  Gives (exchanges w y z k) x = x ≡ (if read c w == y then (write c w z, k (Ok y)) else (c, k (Err (read c w))))
  Gives (adds w y k) x = x ≡ (write c w ((read c w + y) % 2 ^ 64), k (read c w))
  Gives (sets_bits w y k) x = x ≡ (write c w (bit_or (read c w) y), k (read c w))
  Gives (keeps_bits w y k) x = x ≡ (write c w (bit_and (read c w) y), k (read c w))
  Gives (puts at v k) x = x ≡ (if can_put c at then (write_slot c at (Some v), k (Ok tt)) else (c, k (Err v)))
  Gives (takes at k) x = x ≡ (write_slot c at None, k (slot_at c at))
  Gives (spares k) x = (o : Result ℕ NoMemory) × SpareGives c o x.0 × (x.1 ≡ k o)
  Gives (retires b a) x = x ≡ (with_retired c b, a)
  Gives (rests a) x = x ≡ (c, a)

  given : (d : Contents T) (r : A) (m : Move T A) → Makes Does m c r d → Gives m (d, r)
  given d r (loads w k) (x, h, e) = rw (e, h.0, h.1) refl
  given d r (stores w x a) (h, e) = rw (e, h) refl
  given d r (exchanges w x y k) (Ok v, h, e) = rw (e, same (read c w) x h.1, h.0, h.2) refl
  given d r (exchanges w x y k) (Err v, h, e) = rw (e, other (read c w) x (λ f. h.1 (h.0 ∙ f)), h.0, h.2) refl
  given d r (adds w x k) (o, h, e) = rw (e, h.0, h.1) refl
  given d r (sets_bits w x k) (o, h, e) = rw (e, h.0, h.1) refl
  given d r (keeps_bits w x k) (o, h, e) = rw (e, h.0, h.1) refl
  given d r (puts at v k) (Ok u, h, e) = rw (e, h.0, h.1) refl
  given d r (puts at v k) (Err w, h, e) = rw (e, h.0, h.1, h.2) refl
  given d r (takes at k) (o, h, e) = rw (e, h.0, h.1) refl
  given d r (spares k) h = h
  given d r (retires b a) (h, e) = rw (e, h) refl
  given d r (rests a) (h, e) = rw (e, h) refl

-- ---- one slot

module _ {T : Type 0} (c d : Contents T) (r : Stepped (SingleAction T) T) where
  taken : (next : T → SingleAction T) (again : SingleAction T) (o : Option T) → one.after_take next again o ≡ elim o [ Some v ↦ one.stays (next v) | None ↦ one.stays again ]
  taken next again (Some v) = refl
  taken next again None = refl

  took : (next : T → SingleAction T) (again : SingleAction T) → Makes Does (takes (At 0) (one.after_take next again)) c r d → (d, r) ≡ (one.take_step c next again)
  took next again h = given c d r (takes (At 0) (one.after_take next again)) h ∙ ap (λ (x : Stepped (SingleAction T) T). (write_slot c (At 0) None, x)) (taken next again (slot_at c (At 0)))

  pub single_exact : (a : SingleAction T) → SingleMakes Does c a d r → (d, r) ≡ single_step c a
  single_exact (slot.Push v) h = given c d r (single_moves (slot.Push v)) h
  single_exact (slot.PushPut v) h = given c d r (single_moves (slot.PushPut v)) h
  single_exact slot.PushUnlock h = given c d r (single_moves slot.PushUnlock) h
  single_exact (slot.Force v x) h = given c d r (single_moves (slot.Force v x)) h
  single_exact (slot.ForceTake v) h = took (λ w. slot.ForcePut v (Some w)) (slot.ForceTake v) h
  single_exact (slot.ForcePut v old) h = given c d r (single_moves (slot.ForcePut v old)) h
  single_exact (slot.ForceUnlock old) h = given c d r (single_moves (slot.ForceUnlock old)) h
  single_exact (slot.Pop x) h = given c d r (single_moves (slot.Pop x)) h
  single_exact slot.PopTake h = took slot.PopUnlock slot.PopTake h
  single_exact (slot.PopUnlock v) h = given c d r (single_moves (slot.PopUnlock v)) h
  single_exact slot.Close h = given c d r (single_moves slot.Close) h
  single_exact slot.IsClosed h = given c d r (single_moves slot.IsClosed) h
  single_exact slot.IsEmpty h = given c d r (single_moves slot.IsEmpty) h
  single_exact slot.IsFull h = given c d r (single_moves slot.IsFull) h
  single_exact slot.Len h = given c d r (single_moves slot.Len) h
  single_exact slot.Capacity h = given c d r (single_moves slot.Capacity) h
  single_exact slot.Finished h = given c d r (single_moves slot.Finished) h

-- ---- a ring

module _ {T : Type 0} (cap m : ℕ) (c d : Contents T) (r : Stepped (RingAction T) T) where
  out : (next : T → RingAction T) (again : RingAction T) (o : Option T) → emptied next again o ≡ many.took o next again
  out next again (Some v) = refl
  out next again None = refl

  took_out : (i : ℕ) (next : T → RingAction T) (again : RingAction T) → Makes Does (takes (At i) (emptied next again)) c r d → (d, r) ≡ (many.take_step c i next again)
  took_out i next again h = given c d r (takes (At i) (emptied next again)) h ∙ ap (λ (x : Stepped (RingAction T) T). (write_slot c (At i) None, x)) (out next again (slot_at c (At i)))

  pub ring_exact : (a : RingAction T) → RingMakes cap m Does c a d r → (d, r) ≡ ring_step cap m c a
  ring_exact (ring.Push k v) h = given c d r (ring_moves cap m (ring.Push k v)) h
  ring_exact (ring.PushShut k v) h = given c d r (ring_moves cap m (ring.PushShut k v)) h
  ring_exact (ring.PushStamp k v t) h = given c d r (ring_moves cap m (ring.PushStamp k v t)) h
  ring_exact (ring.PushSwap k v t) h = given c d r (ring_moves cap m (ring.PushSwap k v t)) h
  ring_exact (ring.PushPut k v t) h = given c d r (ring_moves cap m (ring.PushPut k v t)) h
  ring_exact (ring.PushStore k t) h = given c d r (ring_moves cap m (ring.PushStore k t)) h
  ring_exact (ring.PushHead v h') h = given c d r (ring_moves cap m (ring.PushHead v h')) h
  ring_exact (ring.ForceHead v h') h = given c d r (ring_moves cap m (ring.ForceHead v h')) h
  ring_exact (ring.ForceAdd v h') h = given c d r (ring_moves cap m (ring.ForceAdd v h')) h
  ring_exact (ring.ForceTake v h') h = took_out _ (λ w. ring.ForcePut v h' w) (ring.ForceTake v h') h
  ring_exact (ring.ForcePut v h' w) h = given c d r (ring_moves cap m (ring.ForcePut v h' w)) h
  ring_exact (ring.ForceStore h' w) h = given c d r (ring_moves cap m (ring.ForceStore h' w)) h
  ring_exact ring.Pop h = given c d r (ring_moves cap m ring.Pop) h
  ring_exact (ring.PopStamp h') h = given c d r (ring_moves cap m (ring.PopStamp h')) h
  ring_exact (ring.PopSwap h') h = given c d r (ring_moves cap m (ring.PopSwap h')) h
  ring_exact (ring.PopTail h') h = given c d r (ring_moves cap m (ring.PopTail h')) h
  ring_exact (ring.PopTake h') h = took_out _ (λ w. ring.PopStore h' w) (ring.PopTake h') h
  ring_exact (ring.PopStore h' v) h = given c d r (ring_moves cap m (ring.PopStore h' v)) h
  ring_exact ring.Close h = given c d r (ring_moves cap m ring.Close) h
  ring_exact ring.IsClosed h = given c d r (ring_moves cap m ring.IsClosed) h
  ring_exact ring.IsEmpty h = given c d r (ring_moves cap m ring.IsEmpty) h
  ring_exact (ring.IsEmptyTail h') h = given c d r (ring_moves cap m (ring.IsEmptyTail h')) h
  ring_exact ring.IsFull h = given c d r (ring_moves cap m ring.IsFull) h
  ring_exact (ring.IsFullHead t) h = given c d r (ring_moves cap m (ring.IsFullHead t)) h
  ring_exact ring.Len h = given c d r (ring_moves cap m ring.Len) h
  ring_exact (ring.LenHead t b) h = given c d r (ring_moves cap m (ring.LenHead t b)) h
  ring_exact (ring.LenTail t b h') h = given c d r (ring_moves cap m (ring.LenTail t b h')) h
  ring_exact ring.Capacity h = given c d r (ring_moves cap m ring.Capacity) h
  ring_exact ring.Finished h = given c d r (ring_moves cap m ring.Finished) h

-- ---- blocks

module _ {T : Type 0} (c d : Contents T) (r : Progress T) where
  obtain : (v : T) (next : ℕ → UnboundedAction T) → Makes Does (spares (obtained v next)) c r d → Obtains c v next (d, r)
  obtain v next (Ok b, h, e) = inl (rw (e, h.0, h.1) refl, subst (λ (x : Contents T). length x.blocks < 2 ^ 64) h.1 h.2)
  obtain v next (Err e', h, e) = inr (h.0, rw (e, h.1) refl)

  pub progress_exact : (a : UnboundedAction T) → ProgressMakes Does c a d r → IsUnboundedStep c a (d, r)
  progress_exact (act.Push v h') h = given c d r (blocks_moves (act.Push v h')) h
  progress_exact (act.PushShut v h') h = given c d r (blocks_moves (act.PushShut v h')) h
  progress_exact (act.PushReturn v h') h = given c d r (blocks_moves (act.PushReturn v h')) h
  progress_exact (act.PushLook v t h') h = given c d r (blocks_moves (act.PushLook v t h')) h
  progress_exact (act.PushMake v t) h = obtain v (λ b. act.PushFirst v t b) h
  progress_exact (act.PushFirst v t h') h = given c d r (blocks_moves (act.PushFirst v t h')) h
  progress_exact (act.PushStart v t b) h = given c d r (blocks_moves (act.PushStart v t b)) h
  progress_exact (act.PushMore v t b) h = obtain v (λ b'. act.PushSwap v t b (Some b')) h
  progress_exact (act.PushSwap v t b h') h = given c d r (blocks_moves (act.PushSwap v t b h')) h
  progress_exact (act.PushTurn v t b h') h = given c d r (blocks_moves (act.PushTurn v t b h')) h
  progress_exact (act.PushAdd v t b h') h = given c d r (blocks_moves (act.PushAdd v t b h')) h
  progress_exact (act.PushLink v t b h') h = given c d r (blocks_moves (act.PushLink v t b h')) h
  progress_exact (act.PushPut v t b h') h = given c d r (blocks_moves (act.PushPut v t b h')) h
  progress_exact (act.PushStore t b h') h = given c d r (blocks_moves (act.PushStore t b h')) h
  progress_exact (act.PushGive h') h = given c d r (blocks_moves (act.PushGive h')) h
  progress_exact act.Pop h = given c d r (blocks_moves act.Pop) h
  progress_exact (act.PopLook p) h = given c d r (blocks_moves (act.PopLook p)) h
  progress_exact (act.PopTail p b) h = given c d r (blocks_moves (act.PopTail p b)) h
  progress_exact (act.PopSwap p b) h = given c d r (blocks_moves (act.PopSwap p b)) h
  progress_exact (act.PopNext p b) h = given c d r (blocks_moves (act.PopNext p b)) h
  progress_exact (act.PopBlock p b n) h = given c d r (blocks_moves (act.PopBlock p b n)) h
  progress_exact (act.PopHead p b) h = given c d r (blocks_moves (act.PopHead p b)) h
  progress_exact (act.PopWait p b) h = given c d r (blocks_moves (act.PopWait p b)) h
  progress_exact (act.PopTake p b) h = given c d r (blocks_moves (act.PopTake p b)) h
  progress_exact (act.PopCount p b w) h = given c d r (blocks_moves (act.PopCount p b w)) h
  progress_exact (act.PopRetire p b w) h = given c d r (blocks_moves (act.PopRetire p b w)) h
  progress_exact act.Close h = given c d r (blocks_moves act.Close) h
  progress_exact act.AskClosed h = given c d r (blocks_moves act.AskClosed) h
  progress_exact act.AskEmpty h = given c d r (blocks_moves act.AskEmpty) h
  progress_exact (act.EmptyTail p) h = given c d r (blocks_moves (act.EmptyTail p)) h
  progress_exact act.AskFull h = given c d r (blocks_moves act.AskFull) h
  progress_exact act.AskLen h = given c d r (blocks_moves act.AskLen) h
  progress_exact (act.LenHead t) h = given c d r (blocks_moves (act.LenHead t)) h
  progress_exact (act.LenTail t p) h = given c d r (blocks_moves (act.LenTail t p)) h
  progress_exact act.AskCapacity h = given c d r (blocks_moves act.AskCapacity) h
  progress_exact act.Finished h = given c d r (blocks_moves act.Finished) h

-- ---- by the form of the queue

module _ {T : Type 0} (c d : Contents T) (r : Stepped (CallState T) T) where
  blocks_made : (a : UnboundedCall T) → MakesBlocks Does c a d r → ByBlocks c a d r
  blocks_made a (x, (p, h, f), e) = (x, (p, progress_exact c d p a.action h, f), e)

  bounded_made : (b : Bool) (cap : ℕ) (a : QueueAsk T) → MakesBounded Does b cap c a d r → IsBoundedFirst b cap c a d r
  bounded_made true cap a (x, h, e) = (x, single_exact c d x (start a) h, e)
  bounded_made false cap a (x, h, e) = (x, ring_exact cap (ring_mark cap) c d x (ring_start a) h, e)

  first_made : (form : QueueForm) (a : QueueAsk T) → MakesFirst Does form c a d r → IsFirstStep form c a d r
  first_made (Bounded cap) a h = bounded_made (cap == 1) (cap_of cap) a h
  first_made Unbounded a h = blocks_made (begin a) h

  -- a call's step over such cells is that of the contract
  pub state_made : (form : QueueForm) (at : CallState T) → c.form ≡ form → StateMakes Does form c at d r → IsStateStep c at d r
  state_made form (Asked a) e h = subst (λ (f : QueueForm). IsFirstStep f c a d r) (sym e) (first_made form a h)
  state_made form (Single a) e (x, h, f) = (x, single_exact c d x a h, f)
  state_made form (Ring a) e (x, h, f) =
      (x, subst (λ (g : QueueForm). (d, x) ≡ ring_step (ring_cap g) (ring_mark (ring_cap g)) c a) (sym e) (ring_exact (ring_cap form) (ring_mark (ring_cap form)) c d x a h), f)
  state_made form (Blocks a) e h = blocks_made a h
  state_made form Finished e h = h
