-- Calls of one slot and of a ring: their operations are on words and slots of the queue alone, and one that a slot refused is made again.
use Rattle.std.specs.Prelude.{◌≡◌, ℕ, Option, None, Some, Err, refl}
use Rattle.std.proofs.Common.{sym, ap, ◌∙◌, subst}
use Rattle.concurrent_queue.specs.Deeds.{Deed, Notes, Move, Makes, loaded, stored, exchanged, added, bits_set, bits_kept, did_put, did_take, spared, retired, loads, stores, exchanges, adds, sets_bits, keeps_bits, puts, takes, spares, retires, rests}
use Rattle.concurrent_queue.specs.machine.RingMoves.{ring_moves, RingMakes}
use Rattle.concurrent_queue.specs.machine.RingWords as ring_words
use Rattle.concurrent_queue.specs.machine.Single as single_words
use Rattle.concurrent_queue.specs.machine.Single.{single_moves, SingleMakes}
use Rattle.concurrent_queue.specs.declared.bounded.RingAction.{RingAction}
use Rattle.concurrent_queue.specs.declared.bounded.RingAction.TheVariants as ring
use Rattle.concurrent_queue.specs.history.StepTypes.{SingleStep, RingStep}
use Rattle.concurrent_queue.specs.declared.single.SingleAction.{SingleAction}
use Rattle.concurrent_queue.specs.declared.single.SingleAction.TheVariants as single

module _ {T : Type 0} where
  -- an operation on a word or a slot of the queue
  abbrev pub IsOnCell : Deed T → Type 0
  IsOnCell (spared o) = ⊥
  IsOnCell (retired b) = ⊥
  IsOnCell _ = Unit {0}

  -- an action that makes one, or none
  abbrev MovesCell : {A : Type 0} → Move T A → Type 0
  MovesCell (spares k) = ⊥
  MovesCell (retires b a) = ⊥
  MovesCell _ = Unit {0}

  or_that : Deed T → Option (Deed T) → Deed T
  or_that d (Some x) = x
  or_that d None = d

  same_deed : (d x : Deed T) → Some d ≡ Some x → d ≡ x
  unfolding or_that
  same_deed d x e = ap (or_that d) e

  no_deed : (d : Deed T) → Some d ≡ None → ⊥
  no_deed d e = cc

  module _ (d : Deed T) where
    cell_so : (x : Deed T) → Some d ≡ Some x → IsOnCell x → IsOnCell d
    cell_so x e h = subst (λ (y : Deed T). IsOnCell y) (sym (same_deed d x e)) h

    on_cell : {A : Type 0} (m : Move T A) (x : A) → MovesCell m → Makes Notes m None x (Some d) → IsOnCell d
    on_cell (loads w k) x h (o, n, e) = cell_so _ n tt
    on_cell (stores w y a) x h (n, e) = cell_so _ n tt
    on_cell (exchanges w y z k) x h (o, n, e) = cell_so _ n tt
    on_cell (adds w y k) x h (o, n, e) = cell_so _ n tt
    on_cell (sets_bits w y k) x h (o, n, e) = cell_so _ n tt
    on_cell (keeps_bits w y k) x h (o, n, e) = cell_so _ n tt
    on_cell (puts at v k) x h (o, n, e) = cell_so _ n tt
    on_cell (takes at k) x h (o, n, e) = cell_so _ n tt
    on_cell (spares k) x h g = absurd h
    on_cell (retires b a) x h g = absurd h
    on_cell (rests a) x h (n, e) = absurd (no_deed d n)

  -- ---- a slot that wasn't ready: the message is returned, or none was found

  abbrev pub IsRefused : Deed T → Type 0
  IsRefused (did_put at v o) = o ≡ Err v
  IsRefused (did_take at o) = o ≡ None
  IsRefused _ = ⊥

  -- the machine goes on so once its operation was refused
  abbrev LeftBy : {A : Type 0} → Move T A → A → Type 0
  LeftBy (puts at v k) y = k (Err v) ≡ y
  LeftBy (takes at k) y = k None ≡ y
  LeftBy _ y = Unit {0}

  module _ (d : Deed T) (turned : IsRefused d) where
    refusal : (e : Deed T) → Some d ≡ Some e → IsRefused e
    refusal e n = subst (λ (y : Deed T). IsRefused y) (same_deed d e n) turned

    left : {A : Type 0} (m : Move T A) (x y : A) → LeftBy m y → Makes Notes m None x (Some d) → x ≡ y
    left (loads w k) x y h (o, n, e) = absurd (refusal (loaded w o) n)
    left (stores w z a) x y h (n, e) = absurd (refusal (stored w z) n)
    left (exchanges w z u k) x y h (o, n, e) = absurd (refusal (exchanged w z u o) n)
    left (adds w z k) x y h (o, n, e) = absurd (refusal (added w z o) n)
    left (sets_bits w z k) x y h (o, n, e) = absurd (refusal (bits_set w z o) n)
    left (keeps_bits w z k) x y h (o, n, e) = absurd (refusal (bits_kept w z o) n)
    left (puts at v k) x y h (o, n, e) = e ∙ (ap k (refusal (did_put at v o) n) ∙ h)
    left (takes at k) x y h (o, n, e) = e ∙ (ap k (refusal (did_take at o) n) ∙ h)
    left (spares k) x y h (o, n, e) = absurd (refusal (spared o) n)
    left (retires b a) x y h (n, e) = absurd (refusal (retired b) n)
    left (rests a) x y h (n, e) = absurd (no_deed d n)

  -- ---- one slot

  single_cell : (a : SingleAction T) → MovesCell (single_moves a)
  single_cell (single.Push v) = tt
  single_cell (single.PushPut v) = tt
  single_cell single.PushUnlock = tt
  single_cell (single.Force v x) = tt
  single_cell (single.ForceTake v) = tt
  single_cell (single.ForcePut v old) = tt
  single_cell (single.ForceUnlock old) = tt
  single_cell (single.Pop x) = tt
  single_cell single.PopTake = tt
  single_cell (single.PopUnlock v) = tt
  single_cell single.Close = tt
  single_cell single.IsClosed = tt
  single_cell single.IsEmpty = tt
  single_cell single.IsFull = tt
  single_cell single.Len = tt
  single_cell single.Capacity = tt
  single_cell single.Finished = tt

  pub single_on_cell : (a : SingleAction T) (d : Deed T) (x : SingleStep T) → SingleMakes Notes None a (Some d) x → IsOnCell d
  single_on_cell a d x made = on_cell d (single_moves a) x (single_cell a) made

  single_left : (a : SingleAction T) → LeftBy (single_moves a) (single_words.stays a)
  single_left (single.Push v) = tt
  single_left (single.PushPut v) = refl
  single_left single.PushUnlock = tt
  single_left (single.Force v x) = tt
  single_left (single.ForceTake v) = refl
  single_left (single.ForcePut v old) = refl
  single_left (single.ForceUnlock old) = tt
  single_left (single.Pop x) = tt
  single_left single.PopTake = refl
  single_left (single.PopUnlock v) = tt
  single_left single.Close = tt
  single_left single.IsClosed = tt
  single_left single.IsEmpty = tt
  single_left single.IsFull = tt
  single_left single.Len = tt
  single_left single.Capacity = tt
  single_left single.Finished = tt

  pub single_refused : (a : SingleAction T) (d : Deed T) → IsRefused d → (x : SingleStep T) → SingleMakes Notes None a (Some d) x → x ≡ single_words.stays a
  single_refused a d turned x made = left d turned (single_moves a) x (single_words.stays a) (single_left a) made

module _ {T : Type 0} (cap m : ℕ) where
  -- ---- a ring

  ring_cell : (a : RingAction T) → MovesCell (ring_moves cap m a)
  ring_cell (ring.Push k v) = tt
  ring_cell (ring.PushShut k v) = tt
  ring_cell (ring.PushStamp k v t) = tt
  ring_cell (ring.PushSwap k v t) = tt
  ring_cell (ring.PushPut k v t) = tt
  ring_cell (ring.PushStore k t) = tt
  ring_cell (ring.PushHead v h) = tt
  ring_cell (ring.ForceHead v h) = tt
  ring_cell (ring.ForceAdd v h) = tt
  ring_cell (ring.ForceTake v h) = tt
  ring_cell (ring.ForcePut v h old) = tt
  ring_cell (ring.ForceStore h old) = tt
  ring_cell ring.Pop = tt
  ring_cell (ring.PopStamp h) = tt
  ring_cell (ring.PopSwap h) = tt
  ring_cell (ring.PopTail h) = tt
  ring_cell (ring.PopTake h) = tt
  ring_cell (ring.PopStore h v) = tt
  ring_cell ring.Close = tt
  ring_cell ring.IsClosed = tt
  ring_cell ring.IsEmpty = tt
  ring_cell (ring.IsEmptyTail h) = tt
  ring_cell ring.IsFull = tt
  ring_cell (ring.IsFullHead t) = tt
  ring_cell ring.Len = tt
  ring_cell (ring.LenHead t b) = tt
  ring_cell (ring.LenTail t b h) = tt
  ring_cell ring.Capacity = tt
  ring_cell ring.Finished = tt

  pub ring_on_cell : (a : RingAction T) (d : Deed T) (x : RingStep T) → RingMakes cap m Notes None a (Some d) x → IsOnCell d
  ring_on_cell a d x made = on_cell d (ring_moves cap m a) x (ring_cell a) made

  ring_left : (a : RingAction T) → LeftBy (ring_moves cap m a) (ring_words.stays a)
  ring_left (ring.Push k v) = tt
  ring_left (ring.PushShut k v) = tt
  ring_left (ring.PushStamp k v t) = tt
  ring_left (ring.PushSwap k v t) = tt
  ring_left (ring.PushPut k v t) = refl
  ring_left (ring.PushStore k t) = tt
  ring_left (ring.PushHead v h) = tt
  ring_left (ring.ForceHead v h) = tt
  ring_left (ring.ForceAdd v h) = tt
  ring_left (ring.ForceTake v h) = refl
  ring_left (ring.ForcePut v h old) = refl
  ring_left (ring.ForceStore h old) = tt
  ring_left ring.Pop = tt
  ring_left (ring.PopStamp h) = tt
  ring_left (ring.PopSwap h) = tt
  ring_left (ring.PopTail h) = tt
  ring_left (ring.PopTake h) = refl
  ring_left (ring.PopStore h v) = tt
  ring_left ring.Close = tt
  ring_left ring.IsClosed = tt
  ring_left ring.IsEmpty = tt
  ring_left (ring.IsEmptyTail h) = tt
  ring_left ring.IsFull = tt
  ring_left (ring.IsFullHead t) = tt
  ring_left ring.Len = tt
  ring_left (ring.LenHead t b) = tt
  ring_left (ring.LenTail t b h) = tt
  ring_left ring.Capacity = tt
  ring_left ring.Finished = tt

  pub ring_refused : (a : RingAction T) (d : Deed T) → IsRefused d → (x : RingStep T) → RingMakes cap m Notes None a (Some d) x → x ≡ ring_words.stays a
  ring_refused a d turned x made = left d turned (ring_moves cap m a) x (ring_words.stays a) (ring_left a) made
