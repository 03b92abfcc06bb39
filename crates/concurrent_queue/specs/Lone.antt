-- A call that goes on alone, beside quiet ones.
use Rattle.std.specs.Prelude.{◌≡◌, ℕ, ◌≤◌, List, [], ◌∷◌, ◌++◌, MatchOption}
use Rattle.std.proofs.Common.{zero, suc}
use Rattle.concurrent_queue.specs.Contents.{Contents}
use Rattle.concurrent_queue.specs.Scene.{Scene, CallUnderWay, OthersQuiet}
use Rattle.concurrent_queue.specs.Run.{Config, IsRun, opened_config}
use Rattle.concurrent_queue.specs.declared.call.QueueEntry.{QueueEntry}
use Rattle.concurrent_queue.specs.declared.cells.QueueForm.{QueueForm}
use Rattle.concurrent_queue.specs.declared.run.QueueStep.{QueueStep}
use Rattle.concurrent_queue.specs.declared.run.QueueStep.TheVariants.{Step}

module _ {T : Type 0} where
  -- k steps of one party, one after another
  abbrev pub steps_of : ℕ → ℕ → List (QueueStep T)
  steps_of p zero = []
  steps_of p (suc k) = Step p ∷ steps_of p k

  -- one of these entries has a reply
  abbrev pub HasReply : List (QueueEntry T) → Type 0
  HasReply [] = ⊥
  HasReply (e ∷ es) = MatchOption e.reply (HasReply es) (λ r. Unit {0})

  -- the calls beside this party's are quiet: none has a mark, and an unbounded queue has had its first removal or
  -- there is no other call
  abbrev pub OthersQuietOf : ℕ → Scene T → Type 0
  OthersQuietOf p s =
      (before behind : List (CallUnderWay T)) (mine : CallUnderWay T) → s.under_way ≡ before ++ mine ∷ behind → mine.party ≡ p → OthersQuiet s.now (before ++ behind)

-- from wherever a run has come, a call whose others are quiet replies within its next 64 steps, where these are the next ones
abbrev pub LoneCallsEnd : Type 0 → Type 0
LoneCallsEnd T =
    (form : QueueForm) (start : Contents T) (made : List (QueueStep T)) (trace : List (QueueEntry T)) (f : Config T) → IsRun (opened_config start form) made trace f
    → (p : ℕ) → OthersQuietOf p f.scene → (k : ℕ) → 64 ≤ k → (entries : List (QueueEntry T)) (g : Config T) → IsRun f (steps_of p k) entries g → HasReply entries
