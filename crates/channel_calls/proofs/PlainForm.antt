-- A step of a call of a queue of one owner is one of the contract, and keeps the queue's form.
use Rattle.std.proofs.Common.{◌≡◌, ◌∙◌, refl, sym, Option}
use Rattle.concurrent_queue.specs.Effects.{Does, does_keep_form}
use Rattle.concurrent_queue.specs.Plain.{contents_of}
use Rattle.concurrent_queue.specs.Step.{IsQueueStep}
use Rattle.concurrent_queue.specs.Walked.{CallMakes}
use Rattle.concurrent_queue.specs.declared.call.QueueReply.{QueueReply}
use Rattle.concurrent_queue.specs.declared.cells.QueueForm.{QueueForm}
use Rattle.concurrent_queue.specs.declared.plain.PlainCells.{PlainCells}
use Rattle.concurrent_queue.specs.declared.queue_call.QueueCall.{QueueCall}
use Rattle.concurrent_queue.proofs.Bridge.{made_is_step}
use Rattle.concurrent_queue.proofs.Walks.{step_keeps}

module _ {T : Type 0} where
  abbrev form_in : PlainCells T → QueueForm
  form_in c = (contents_of c).form

  pub form_kept : (f : QueueForm) (a b : PlainCells T) (call next : QueueCall T) (o : Option (QueueReply T))
      → CallMakes (λ d (x y : PlainCells T). Does d (contents_of x) (contents_of y)) (form_in a) a call b next o → f ≡ form_in a → f ≡ form_in b
  form_kept f a b call next o h is =
      is ∙ sym (step_keeps (λ d (x y : PlainCells T). Does d (contents_of x) (contents_of y)) form_in (λ d x y. does_keep_form d (contents_of x) (contents_of y)) (form_in a) a call.state b (record { action = next.state; mark = next.mark; reply = o }) h)

  -- and it is one of the contract
  pub step_is : (a b : PlainCells T) (call next : QueueCall T) (o : Option (QueueReply T))
      → CallMakes (λ d (x y : PlainCells T). Does d (contents_of x) (contents_of y)) (form_in a) a call b next o → IsQueueStep (contents_of a) call (contents_of b) next o
  step_is a b call next o h = made_is_step (λ d (x y : PlainCells T). Does d (contents_of x) (contents_of y)) contents_of (λ d x y done. done) (form_in a) a call b next o refl h
