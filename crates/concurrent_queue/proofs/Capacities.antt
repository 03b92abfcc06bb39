-- The question how many messages a queue with a bound can hold: one step, which touches no cell.
use Rattle.std.proofs.Common.{◌≡◌, ℕ, ◌==◌, Bool, true, false, Some, refl, sym, ap, subst, eqb→eq}
use lib.Dec as dec
use Rattle.concurrent_queue.specs.Deeds.{Deed}
use Rattle.concurrent_queue.specs.Walked.{MakesBounded, WalkedFrom}
use Rattle.concurrent_queue.specs.machine.RingWords as words
use Rattle.concurrent_queue.specs.machine.RingWords.{cap_of}
use Rattle.concurrent_queue.specs.machine.Single as single_move
use Rattle.concurrent_queue.specs.declared.bounded.RingAction.TheVariants as act
use Rattle.concurrent_queue.specs.declared.call.QueueAsk.TheVariants as ask
use Rattle.concurrent_queue.specs.declared.call.QueueMark.TheVariants.{Nothing}
use Rattle.concurrent_queue.specs.declared.call.QueueReply.TheVariants as reply
use Rattle.concurrent_queue.specs.declared.call.Stepped.{Stepped}
use Rattle.concurrent_queue.specs.declared.cells.QueueForm.{QueueForm}
use Rattle.concurrent_queue.specs.declared.cells.QueueForm.TheVariants.{Bounded}
use Rattle.concurrent_queue.specs.declared.queue_call.CallState.{CallState}
use Rattle.concurrent_queue.specs.declared.queue_call.CallState.TheVariants.{Asked, Single, Ring}
use Rattle.concurrent_queue.specs.declared.single.SingleAction.TheVariants as one

module _ {T S : Type 0} (did : Deed T → S → S → Type 0) (s : S) where
  abbrev says : CallState T → ℕ → Stepped (CallState T) T
  says z n = record { action = z; mark = Nothing; reply = Some (reply.Cap (Some n)) }

  made : (b : Bool) (cap : ℕ) → (b ≡ true → cap ≡ 1) → (z : CallState T) × MakesBounded did b cap s ask.Capacity s (says z cap)
  made true cap one_is = (Single one.Finished, (single_move.finishes (reply.Cap (Some 1)), (refl, refl), ap (says (Single one.Finished)) (one_is refl)))
  made false cap one_is = (Ring act.Finished, (words.finishes (reply.Cap (Some cap)), (refl, refl), refl))

  one_slot : (most : ℕ) → (most == 1) ≡ true → cap_of most ≡ 1
  one_slot most e = ap cap_of (eqb→eq most 1 (subst (λ (b : Bool). dec.T b) (sym e) tt))

  pub capacity_walked : (form : QueueForm) (most : ℕ) → form ≡ Bounded most → WalkedFrom did form (Asked ask.Capacity) s (reply.Cap (Some (cap_of most))) s
  capacity_walked form most e =
      let m = made (most == 1) (cap_of most) (one_slot most) in
      subst (λ (f : QueueForm). WalkedFrom did f (Asked ask.Capacity) s (reply.Cap (Some (cap_of most))) s) (sym e) (0, (s, Asked ask.Capacity, m.0, Nothing, (refl, refl), m.1))
