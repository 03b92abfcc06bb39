-- A step of one party among the parties that the code keeps.
use Rattle.std.proofs.Common.{◌≡◌, ℕ, zero, suc, List, [], ◌∷◌, Option, Some, slice_get, slice_set, refl, ap, subst}
use Rattle.std.specs.List.{remove}
use Rattle.concurrent_queue.specs.Contents.{Contents}
use Rattle.concurrent_queue.specs.Step.{IsQueueStep, mark_of}
use Rattle.concurrent_queue.specs.Parties.{SteppedAt, parties_after, party}
use Rattle.concurrent_queue.specs.declared.call.QueueReply.{QueueReply}
use Rattle.concurrent_queue.specs.declared.call.QueueMark.{QueueMark}
use Rattle.concurrent_queue.specs.declared.queue_call.QueueCall.{QueueCall}
use Rattle.concurrent_queue.specs.declared.run.Party.{Party}

pub remove-set : {A : Type 0} (xs : List A) (k : ℕ) (y : A) → remove (slice_set xs k y) k ≡ remove xs k
remove-set [] k y = refl
remove-set (x ∷ xs) zero y = refl
remove-set (x ∷ xs) (suc k) y = ap (λ zs. x ∷ zs) (remove-set xs k y)

pub stepped : {T : Type 0} (c d : Contents T) (ps qs : List (Party T)) (k : ℕ) (x : Party T) (next : QueueCall T) (reply : Option (QueueReply T)) (mark : QueueMark)
    → slice_get ps k ≡ Some x → IsQueueStep c x.call d next reply → mark ≡ mark_of next → qs ≡ parties_after ps k (party x.id next) reply
    → SteppedAt c ps k (record { mark = mark; reply = reply }) d qs
stepped {T} c d ps qs k x next reply mark there step m after y there' =
    let same : x ≡ y = cc in
    subst (λ (z : Party T). (call : QueueCall T) × IsQueueStep c z.call d call reply × (mark ≡ mark_of call) × (qs ≡ parties_after ps k (party z.id call) reply)) same (next, step, m, after)
