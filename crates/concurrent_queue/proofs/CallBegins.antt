-- Where a call stands that has just begun.
use Rattle.std.proofs.Common.{◌≡◌, ℕ, ◌==◌, Bool, true, false, inl, refl, sym, subst}
use Rattle.concurrent_queue.specs.Bridge.{asking}
use Rattle.concurrent_queue.specs.Walked.{first_bounded, standing}
use Rattle.concurrent_queue.specs.history.Begun.{IsBegun}
use Rattle.concurrent_queue.specs.history.Calls.{AsksCells, HasNoBlocks, StandsAt}
use Rattle.concurrent_queue.specs.history.Runs.{moves, calls}
use Rattle.concurrent_queue.specs.declared.call.QueueAsk.{QueueAsk}
use Rattle.concurrent_queue.specs.declared.call.QueueAsk.TheVariants as ask
use Rattle.concurrent_queue.specs.declared.cells.QueueForm.{QueueForm}
use Rattle.concurrent_queue.specs.declared.cells.QueueForm.TheVariants.{Bounded}
use Rattle.concurrent_queue.specs.declared.history.party.Standing.{Standing}
use Rattle.concurrent_queue.specs.declared.history.rule.View.{View}
use Rattle.concurrent_queue.specs.declared.queue_call.CallState.{CallState}
use Rattle.concurrent_queue.specs.declared.queue_call.CallState.TheVariants.{Asked}

module _ {T : Type 0} where
  few : (b : Bool) (a : QueueAsk T) → HasNoBlocks (first_bounded b a)
  few true a = tt
  few false a = tt

  pub begun_stands : (v : View T (Standing T)) (most : ℕ) (a : QueueAsk T) → v.form ≡ Bounded most → IsBegun v a → (at : CallState T) → at ≡ Asked a → StandsAt moves calls v.form v.state (standing v.form at)
  begun_stands v most a bounded (p, begun) at asks =
      subst (λ (x : CallState T). StandsAt moves calls v.form v.state (standing v.form x)) (sym asks)
      (subst (λ (s : Standing T). StandsAt moves calls v.form s (standing v.form (Asked a))) (sym begun)
      (subst (λ (f : QueueForm). HasNoBlocks (standing f (Asked a))) (sym bounded) (few (most == 1) a), inl (asking a, refl, refl)))

-- whatever is asked but the capacity touches cells
pub asks_cells : {T : Type 0} → (a : QueueAsk T) → (a ≡ ask.Capacity → ⊥) → AsksCells a
asks_cells (ask.Push v) other = tt
asks_cells (ask.ForcePush v) other = tt
asks_cells ask.Pop other = tt
asks_cells ask.Close other = tt
asks_cells ask.IsClosed other = tt
asks_cells ask.IsEmpty other = tt
asks_cells ask.IsFull other = tt
asks_cells ask.Len other = tt
asks_cells ask.Capacity other = absurd (other refl)
