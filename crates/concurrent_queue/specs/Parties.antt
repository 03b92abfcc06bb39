-- The parties of a run, as the code keeps them.
use Rattle.std.specs.Prelude.{◌≡◌, ℕ, ◌==◌, List, [], ◌∷◌, ◌++◌, Option, None, Some, slice_get, slice_set, if◌then◌else◌}
use Rattle.std.specs.List.{remove}
use Rattle.concurrent_queue.specs.Contents.{Contents}
use Rattle.concurrent_queue.specs.Step.{IsQueueStep, Starts, mark_of}
use Rattle.concurrent_queue.specs.declared.call.QueueEntry.{QueueEntry}
use Rattle.concurrent_queue.specs.declared.call.QueueReply.{QueueReply}
use Rattle.concurrent_queue.specs.declared.call.QueueMark.TheVariants.{Nothing}
use Rattle.concurrent_queue.specs.declared.queue_call.QueueCall.{QueueCall}
use Rattle.concurrent_queue.specs.declared.run.Party.{Party}
use Rattle.concurrent_queue.specs.declared.run.QueueStep.{QueueStep}
use Rattle.concurrent_queue.specs.declared.run.QueueStep.TheVariants.{Begin, Step}
use Rattle.concurrent_queue.specs.declared.run.QueueRefusal.{QueueRefusal}
use Rattle.concurrent_queue.specs.declared.run.QueueRefusal.TheVariants.{Busy, Idle, NoMemory}

-- what a party has under way, in a list of parties, each under its number
abbrev pub call_under : {P C : Type 0} → (P → ℕ) → (P → C) → ℕ → List P → Option C
call_under id of p [] = None
call_under id of p (x ∷ xs) = if id x == p then Some (of x) else call_under id of p xs

module _ {T : Type 0} where
  abbrev pub id_of : Party T → ℕ
  id_of x = x.id

  abbrev pub under_way_of : Party T → QueueCall T
  under_way_of x = x.call

  abbrev pub party : ℕ → QueueCall T → Party T
  party p call = record { id = p; call = call }

  -- the k-th call under way is this party's
  abbrev pub HasParty : ℕ → List (Party T) → ℕ → Type 0
  HasParty p parties k = (call : QueueCall T) × (slice_get parties k ≡ Some (party p call))

  -- this party has no call under way
  abbrev pub NoneHas : ℕ → List (Party T) → Type 0
  NoneHas p parties = (k : ℕ) (x : Party T) → slice_get parties k ≡ Some x → x.id ≡ p → ⊥

  -- the first step is one that may be made
  abbrev pub IsAdmitted : List (QueueStep T) → List (Party T) → Type 0
  IsAdmitted [] parties = Unit {0}
  IsAdmitted (Begin p a ∷ steps) parties = NoneHas p parties
  IsAdmitted (Step p ∷ steps) parties = (k : ℕ) × HasParty p parties k

  -- why the first step may not be made: want of memory refuses only a step that the parties admit
  abbrev pub IsRefused : List (QueueStep T) → List (Party T) → QueueRefusal → Type 0
  IsRefused (Begin p a ∷ steps) parties Busy = (k : ℕ) × HasParty p parties k
  IsRefused (Step p ∷ steps) parties Idle = NoneHas p parties
  IsRefused (s ∷ steps) parties NoMemory = IsAdmitted (s ∷ steps) parties
  IsRefused _ parties why = ⊥

  abbrev pub parties_after : List (Party T) → ℕ → Party T → Option (QueueReply T) → List (Party T)
  parties_after parties k x None = slice_set parties k x
  parties_after parties k x (Some r) = remove parties k

  -- a step of the k-th call
  abbrev pub SteppedAt : Contents T → List (Party T) → ℕ → QueueEntry T → Contents T → List (Party T) → Type 0
  SteppedAt c parties k e d parties' =
      (x : Party T) → slice_get parties k ≡ Some x
      → (call : QueueCall T) × IsQueueStep c x.call d call e.reply × (e.mark ≡ mark_of call) × (parties' ≡ parties_after parties k (party x.id call) e.reply)

  -- what a step does
  abbrev pub Turns : QueueStep T → Contents T → List (Party T) → QueueEntry T → Contents T → List (Party T) → Type 0
  Turns (Begin p a) c parties e d parties' =
      (call : QueueCall T) × Starts call a × NoneHas p parties × (e ≡ record { mark = Nothing; reply = None }) × (d ≡ c) × (parties' ≡ parties ++ party p call ∷ [])
  Turns (Step p) c parties e d parties' = (k : ℕ) × HasParty p parties k × SteppedAt c parties k e d parties'

  -- a step was made, and its entry recorded
  abbrev pub IsMade : QueueStep T → Contents T → List (Party T) → List (QueueEntry T) → Contents T → List (Party T) → List (QueueEntry T) → Type 0
  IsMade s c parties trace d parties' trace' = (e : QueueEntry T) × (trace' ≡ trace ++ e ∷ []) × Turns s c parties e d parties'

  -- the first step was made
  abbrev pub TurnedOver : List (QueueStep T) → Contents T → List (Party T) → List (QueueEntry T) → List (QueueStep T) → Contents T → List (Party T) → List (QueueEntry T) → Type 0
  TurnedOver steps c parties trace steps' d parties' trace' =
      (s : QueueStep T) × (steps ≡ s ∷ steps') × IsMade s c parties trace d parties' trace'

  -- nothing was changed
  abbrev pub IsLeft : List (QueueStep T) → Contents T → List (Party T) → List (QueueEntry T) → List (QueueStep T) → Contents T → List (Party T) → List (QueueEntry T) → Type 0
  IsLeft steps c parties trace steps' d parties' trace' = (steps' ≡ steps) × (d ≡ c) × (parties' ≡ parties) × (trace' ≡ trace)
