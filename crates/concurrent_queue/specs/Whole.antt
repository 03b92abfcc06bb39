-- What no run does: a push made whole at its first step.
use Rattle.std.specs.Prelude.{ℕ, List, [], ◌∷◌, None, Some, Ok}
use Rattle.concurrent_queue.specs.Run.{Ran}
use Rattle.concurrent_queue.specs.declared.call.QueueAsk.TheVariants as ask
use Rattle.concurrent_queue.specs.declared.call.QueueEntry.{QueueEntry}
use Rattle.concurrent_queue.specs.declared.call.QueueMark.TheVariants.{Nothing, Append}
use Rattle.concurrent_queue.specs.declared.call.QueueReply.TheVariants as reply
use Rattle.concurrent_queue.specs.declared.cells.QueueForm.TheVariants.{Bounded}
use Rattle.concurrent_queue.specs.declared.run.QueueStep.{QueueStep}
use Rattle.concurrent_queue.specs.declared.run.QueueStep.TheVariants.{Begin, Step}

module _ {T : Type 0} where
  -- a party begins a push and makes one step of it
  abbrev pub pushing : ℕ → T → List (QueueStep T)
  pushing p v = Begin p (ask.Push v) ∷ Step p ∷ []

  -- at that step the message is appended and the call answers
  abbrev pub at_once : List (QueueEntry T)
  at_once = record { mark = Nothing; reply = None } ∷ record { mark = Append; reply = Some (reply.Push (Ok tt)) } ∷ []

-- on a ring of two that is no run: one step changes one cell, and a message in the list lies in its slot or is with its call
abbrev pub NeverWholeAtOnce : Type 0 → Type 0
NeverWholeAtOnce T = (p : ℕ) (v : T) → Ran (Bounded 2) (pushing p v) [] at_once None → ⊥
