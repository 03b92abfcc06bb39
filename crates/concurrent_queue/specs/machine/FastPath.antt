-- The fast paths of a machine: steps that are made one after another in straight code.
use Rattle.std.specs.Prelude.{◌≡◌, ℕ, false, None, Some, Result, MatchResult}
use Rattle.std.proofs.Common.{zero, suc}
use Rattle.concurrent_queue.specs.declared.call.QueueMark.{QueueMark}
use Rattle.concurrent_queue.specs.declared.call.QueueReply.{QueueReply}
use Rattle.concurrent_queue.specs.declared.call.QueueReply.TheVariants as reply
use Rattle.concurrent_queue.specs.declared.call.Stepped.{Stepped}
use Rattle.concurrent_queue.specs.declared.error.PopError.{PopError}
use Rattle.concurrent_queue.specs.declared.error.PushError.{PushError}
use Rattle.concurrent_queue.specs.declared.unbounded.action.UnboundedAction.{UnboundedAction}
use Rattle.concurrent_queue.specs.declared.unbounded.action.UnboundedCall.{UnboundedCall}

module _ {T : Type 0} where
  -- a call over blocks that stands at this action and displaces nothing
  abbrev pub plainly : UnboundedAction T → UnboundedCall T
  plainly a = record { displacing = false; action = a }

module _ {T A S : Type 0} (Step : S → A → S → Stepped A T → Type 0) where
  -- a step that answers nothing leads from the one action to the other
  abbrev pub IsStep : S → A → S → A → Type 0
  IsStep c a d b = (m : QueueMark) × Step c a d (record { action = b; mark = m; reply = None })

  -- so many such steps do
  abbrev pub Leads : ℕ → S → A → S → A → Type 0
  Leads zero c a d b = (d ≡ c) × (b ≡ a)
  Leads (suc n) c a d b = (x : S) × (y : A) × IsStep c a x y × Leads n x y d b

  -- so many such steps lead to one that answers r
  abbrev pub Ends : ℕ → S → A → S → QueueReply T → Type 0
  Ends n c a d r =
      (x : S) × (y : A) × (z : A) × (m : QueueMark) × Leads n c a x y × Step x y d (record { action = z; mark = m; reply = Some r })

module _ {T A S : Type 0} (Step : S → A → S → Stepped A T → Type 0) where
  -- steps of the machine lead to this answer of a push, or to the action that is left
  abbrev pub PushesOnEnd : S → A → Result (Result Unit (PushError T)) A → S → Type 0
  PushesOnEnd c a result d =
      MatchResult result (λ r. (n : ℕ) × Ends Step n c a d (reply.Push r)) (λ b. (n : ℕ) × Leads Step n c a d b)

  -- the same of a pop
  abbrev pub PopsOnEnd : S → A → Result (Result T PopError) A → S → Type 0
  PopsOnEnd c a result d =
      MatchResult result (λ r. (n : ℕ) × Ends Step n c a d (reply.Pop r)) (λ b. (n : ℕ) × Leads Step n c a d b)
