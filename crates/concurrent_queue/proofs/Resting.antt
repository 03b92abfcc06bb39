-- An action that touches no cell and answers nothing is made again.
use Rattle.std.proofs.Common.{◌≡◌, ℕ, None, ap}
use Rattle.concurrent_queue.specs.Deeds.{Move, loads, stores, exchanges, adds, sets_bits, keeps_bits, puts, takes, spares, retires, rests, Makes, Notes}
use Rattle.concurrent_queue.specs.machine.BlocksMakes.{blocks_moves}
use Rattle.concurrent_queue.specs.machine.RingMoves.{ring_moves}
use Rattle.concurrent_queue.specs.machine.Single.{single_moves}
use Rattle.concurrent_queue.specs.declared.call.Stepped.{Stepped}
use Rattle.concurrent_queue.specs.declared.single.SingleAction.{SingleAction}
use Rattle.concurrent_queue.specs.declared.single.SingleAction.TheVariants as single
use Rattle.concurrent_queue.specs.declared.bounded.RingAction.{RingAction}
use Rattle.concurrent_queue.specs.declared.bounded.RingAction.TheVariants as ring
use Rattle.concurrent_queue.specs.declared.unbounded.action.Progress.{Progress}
use Rattle.concurrent_queue.specs.declared.unbounded.action.UnboundedAction.{UnboundedAction}
use Rattle.concurrent_queue.specs.declared.unbounded.action.UnboundedAction.TheVariants as blocks

module _ {T : Type 0} where
  -- it is no operation
  abbrev Rested : {A : Type 0} → Move T A → A → Type 0
  Rested (rests a) r = r ≡ a
  Rested _ r = ⊥

  rested : {A : Type 0} (m : Move T A) (r : A) → Makes Notes m None r None → Rested m r
  rested (loads w k) r (x, n, e) = absurd cc
  rested (stores w x a) r (n, e) = absurd cc
  rested (exchanges w x y k) r (o, n, e) = absurd cc
  rested (adds w x k) r (o, n, e) = absurd cc
  rested (sets_bits w x k) r (o, n, e) = absurd cc
  rested (keeps_bits w x k) r (o, n, e) = absurd cc
  rested (puts at v k) r (o, n, e) = absurd cc
  rested (takes at k) r (o, n, e) = absurd cc
  rested (spares k) r (o, n, e) = absurd cc
  rested (retires b a) r (n, e) = absurd cc
  rested (rests a) r (n, e) = e

  single_again : (at : SingleAction T) (r : Stepped (SingleAction T) T) → Rested (single_moves at) r → r.reply ≡ None → r.action ≡ at
  single_again (single.Push a) r h none = absurd h
  single_again (single.PushPut a) r h none = absurd h
  single_again single.PushUnlock r h none = absurd h
  single_again (single.Force a b) r h none = absurd h
  single_again (single.ForceTake a) r h none = absurd h
  single_again (single.ForcePut a b) r h none = absurd h
  single_again (single.ForceUnlock a) r h none = absurd h
  single_again (single.Pop a) r h none = absurd h
  single_again single.PopTake r h none = absurd h
  single_again (single.PopUnlock a) r h none = absurd h
  single_again single.Close r h none = absurd h
  single_again single.IsClosed r h none = absurd h
  single_again single.IsEmpty r h none = absurd h
  single_again single.IsFull r h none = absurd h
  single_again single.Len r h none = absurd h
  single_again single.Capacity r h none = absurd cc
  single_again single.Finished r h none = ap (λ x. x.action) h

  pub single_rests : (at : SingleAction T) (r : Stepped (SingleAction T) T) → Makes Notes (single_moves at) None r None → r.reply ≡ None → r.action ≡ at
  single_rests at r h none = single_again at r (rested (single_moves at) r h) none

  ring_again : (cap m : ℕ) (at : RingAction T) (r : Stepped (RingAction T) T) → Rested (ring_moves cap m at) r → r.reply ≡ None → r.action ≡ at
  ring_again cap m (ring.Push a b) r h none = absurd h
  ring_again cap m (ring.PushShut a b) r h none = absurd h
  ring_again cap m (ring.PushStamp a b c) r h none = absurd h
  ring_again cap m (ring.PushSwap a b c) r h none = absurd h
  ring_again cap m (ring.PushPut a b c) r h none = absurd h
  ring_again cap m (ring.PushStore a b) r h none = absurd h
  ring_again cap m (ring.PushHead a b) r h none = absurd h
  ring_again cap m (ring.ForceHead a b) r h none = absurd h
  ring_again cap m (ring.ForceAdd a b) r h none = absurd h
  ring_again cap m (ring.ForceTake a b) r h none = absurd h
  ring_again cap m (ring.ForcePut a b c) r h none = absurd h
  ring_again cap m (ring.ForceStore a b) r h none = absurd h
  ring_again cap m ring.Pop r h none = absurd h
  ring_again cap m (ring.PopStamp a) r h none = absurd h
  ring_again cap m (ring.PopSwap a) r h none = absurd h
  ring_again cap m (ring.PopTail a) r h none = absurd h
  ring_again cap m (ring.PopTake a) r h none = absurd h
  ring_again cap m (ring.PopStore a b) r h none = absurd h
  ring_again cap m ring.Close r h none = absurd h
  ring_again cap m ring.IsClosed r h none = absurd h
  ring_again cap m ring.IsEmpty r h none = absurd h
  ring_again cap m (ring.IsEmptyTail a) r h none = absurd h
  ring_again cap m ring.IsFull r h none = absurd h
  ring_again cap m (ring.IsFullHead a) r h none = absurd h
  ring_again cap m ring.Len r h none = absurd h
  ring_again cap m (ring.LenHead a b) r h none = absurd h
  ring_again cap m (ring.LenTail a b c) r h none = absurd h
  ring_again cap m ring.Capacity r h none = absurd cc
  ring_again cap m ring.Finished r h none = ap (λ x. x.action) h

  pub ring_rests : (cap m : ℕ) (at : RingAction T) (r : Stepped (RingAction T) T) → Makes Notes (ring_moves cap m at) None r None → r.reply ≡ None → r.action ≡ at
  ring_rests cap m at r h none = ring_again cap m at r (rested (ring_moves cap m at) r h) none

  blocks_again : (at : UnboundedAction T) (r : Progress T) → Rested (blocks_moves at) r → r.ending ≡ None → r.action ≡ at
  blocks_again (blocks.Push a b) r h none = absurd h
  blocks_again (blocks.PushShut a b) r h none = absurd h
  blocks_again (blocks.PushReturn a b) r h none = absurd h
  blocks_again (blocks.PushLook a b c) r h none = absurd h
  blocks_again (blocks.PushMake a b) r h none = absurd h
  blocks_again (blocks.PushFirst a b c) r h none = absurd h
  blocks_again (blocks.PushStart a b c) r h none = absurd h
  blocks_again (blocks.PushMore a b c) r h none = absurd h
  blocks_again (blocks.PushSwap a b c d) r h none = absurd h
  blocks_again (blocks.PushTurn a b c d) r h none = absurd h
  blocks_again (blocks.PushAdd a b c d) r h none = absurd h
  blocks_again (blocks.PushLink a b c d) r h none = absurd h
  blocks_again (blocks.PushPut a b c d) r h none = absurd h
  blocks_again (blocks.PushStore a b c) r h none = absurd h
  blocks_again (blocks.PushGive a) r h none = absurd h
  blocks_again blocks.Pop r h none = absurd h
  blocks_again (blocks.PopLook a) r h none = absurd h
  blocks_again (blocks.PopTail a b) r h none = absurd h
  blocks_again (blocks.PopSwap a b) r h none = absurd h
  blocks_again (blocks.PopNext a b) r h none = absurd h
  blocks_again (blocks.PopBlock a b c) r h none = absurd h
  blocks_again (blocks.PopHead a b) r h none = absurd h
  blocks_again (blocks.PopWait a b) r h none = absurd h
  blocks_again (blocks.PopTake a b) r h none = absurd h
  blocks_again (blocks.PopCount a b c) r h none = absurd h
  blocks_again (blocks.PopRetire a b c) r h none = absurd h
  blocks_again blocks.Close r h none = absurd h
  blocks_again blocks.AskClosed r h none = absurd h
  blocks_again blocks.AskEmpty r h none = absurd h
  blocks_again (blocks.EmptyTail a) r h none = absurd h
  blocks_again blocks.AskFull r h none = absurd cc
  blocks_again blocks.AskLen r h none = absurd h
  blocks_again (blocks.LenHead a) r h none = absurd h
  blocks_again (blocks.LenTail a b) r h none = absurd h
  blocks_again blocks.AskCapacity r h none = absurd cc
  blocks_again blocks.Finished r h none = ap (λ x. x.action) h

  pub blocks_rests : (at : UnboundedAction T) (r : Progress T) → Makes Notes (blocks_moves at) None r None → r.ending ≡ None → r.action ≡ at
  blocks_rests at r h none = blocks_again at r (rested (blocks_moves at) r h) none
