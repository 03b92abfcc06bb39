-- What bounds a run of a queue: how many messages it holds, and how many closes say that they closed it.
use Rattle.std.specs.Prelude.{◌≡◌, ℕ, ◌+◌, ◌≤◌, true, List, [], ◌∷◌, length, Option, Some}
use Rattle.concurrent_queue.specs.Contents.{Contents}
use Rattle.concurrent_queue.specs.Capacity.{capacity_of}
use Rattle.concurrent_queue.specs.Run.{Config, IsRun, opened_config}
use Rattle.concurrent_queue.specs.declared.call.QueueEntry.{QueueEntry}
use Rattle.concurrent_queue.specs.declared.call.QueueReply.{QueueReply}
use Rattle.concurrent_queue.specs.declared.call.QueueReply.TheVariants as reply
use Rattle.concurrent_queue.specs.declared.cells.QueueForm.{QueueForm}
use Rattle.concurrent_queue.specs.declared.run.QueueStep.{QueueStep}

-- wherever a run has come, the queue holds no more messages than fit
abbrev pub NeverOverfull : Type 0 → Type 0
NeverOverfull T =
    (form : QueueForm) (start : Contents T) (made : List (QueueStep T)) (trace : List (QueueEntry T)) (f : Config T) → IsRun (opened_config start form) made trace f
    → (cap : ℕ) → capacity_of form ≡ Some cap → length f.scene.now.items ≤ cap

module _ {T : Type 0} where
  abbrev pub one_if_closed : Option (QueueReply T) → ℕ
  one_if_closed (Some (reply.Close true)) = 1
  one_if_closed _ = 0

  -- how many closes answered true
  abbrev pub closings_in : List (QueueEntry T) → ℕ
  closings_in [] = 0
  closings_in (e ∷ es) = one_if_closed e.reply + closings_in es

-- in every run, of all closes at most one answers true
abbrev pub ClosesOnce : Type 0 → Type 0
ClosesOnce T =
    (form : QueueForm) (start : Contents T) (made : List (QueueStep T)) (trace : List (QueueEntry T)) (f : Config T) → IsRun (opened_config start form) made trace f
    → closings_in trace ≤ 1
