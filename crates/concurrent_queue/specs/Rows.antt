-- What the calls of a closable queue may answer, where their steps stand between each other's.
use Rattle.std.specs.Prelude.{◌≡◌, Bool, true, false, List, [], ◌∷◌, length, None, Some, Ok, Err, ◌==◌, ◌⊎◌}
use Rattle.concurrent_queue.specs.Queue.{Queue, IsOpen, IsShut, IsDrained, IsOldest, is_filled}
use Rattle.concurrent_queue.specs.declared.call.QueueAsk.{QueueAsk}
use Rattle.concurrent_queue.specs.declared.call.QueueAsk.TheVariants as ask
use Rattle.concurrent_queue.specs.declared.call.QueueMark.{QueueMark}
use Rattle.concurrent_queue.specs.declared.call.QueueMark.TheVariants.{Append, Take, TakeDisplaced, Replace, Close}
use Rattle.concurrent_queue.specs.declared.call.QueueReply.{QueueReply}
use Rattle.concurrent_queue.specs.declared.call.QueueReply.TheVariants as reply
use Rattle.concurrent_queue.specs.declared.error.PushError.TheVariants as push_error
use Rattle.concurrent_queue.specs.declared.error.ForcePushError.TheVariants as force_error
use Rattle.concurrent_queue.specs.declared.error.PopError.TheVariants as pop_error

-- one mark of a call, with the moment just before it and the moments of the call up to there
pub record MarkedStep (T : Type 0) : Type 0 where
  pub mark : QueueMark
  pub before : Queue T
  pub seen : List (Queue T)

module _ {T : Type 0} where
  -- it held at one of these moments
  abbrev pub Once : (Queue T → Type 0) → List (Queue T) → Type 0
  Once P [] = ⊥
  Once P (q ∷ qs) = P q ⊎ Once P qs

  -- a message was appended to an open queue with room
  abbrev pub Appended : List (MarkedStep T) → Type 0
  Appended (d ∷ []) = (d.mark ≡ Append) × IsOpen d.before × (is_filled d.before ≡ false)
  Appended _ = ⊥

  -- the oldest message was taken
  abbrev pub Took : List (MarkedStep T) → T → Type 0
  Took (d ∷ []) v = (d.mark ≡ Take) × IsOldest v d.before
  Took _ v = ⊥

  -- the message of a full open queue of one slot was replaced
  abbrev pub Replaced : List (MarkedStep T) → T → Type 0
  Replaced (d ∷ []) v = (d.mark ≡ Replace) × IsOpen d.before × (is_filled d.before ≡ true) × IsOldest v d.before × (d.before.capacity ≡ Some 1)
  Replaced _ v = ⊥

  -- the oldest message of a full queue of more than one slot was taken to make room, when no other was on its way; the queue
  -- was open not later
  abbrev pub MadeRoom : List (MarkedStep T) → T → Type 0
  MadeRoom (d ∷ []) v =
      (d.mark ≡ TakeDisplaced) × (is_filled d.before ≡ true) × (d.before.coming ≡ false) × IsOldest v d.before × Once IsOpen (d.before ∷ d.seen) × (d.before.capacity ≡ Some 1 → ⊥)
  MadeRoom _ v = ⊥

  -- and at a later step the message was appended: the place that was made was still free, so no other push took it
  abbrev pub Displaced : List (MarkedStep T) → T → Type 0
  Displaced (d ∷ e ∷ []) v = MadeRoom (d ∷ []) v × (e.mark ≡ Append) × (is_filled e.before ≡ false)
  Displaced _ v = ⊥

  -- ---- what a reply needs: the marks of its call, and a moment since the call began

  abbrev pub PushAnswer : T → List (MarkedStep T) → List (Queue T) → QueueReply T → Type 0
  PushAnswer v marked_steps seen (reply.Push (Ok u)) = Appended marked_steps
  PushAnswer v marked_steps seen (reply.Push (Err (push_error.Full w))) = (w ≡ v) × (marked_steps ≡ []) × Once (λ m. IsOpen m × (is_filled m ≡ true)) seen
  PushAnswer v marked_steps seen (reply.Push (Err (push_error.Closed w))) = (w ≡ v) × (marked_steps ≡ []) × Once IsShut seen
  PushAnswer v marked_steps seen (reply.Push (Err (push_error.NoMemory w))) = (w ≡ v) × (marked_steps ≡ []) × Once (λ m. IsOpen m × (m.capacity ≡ None)) seen
  PushAnswer v marked_steps seen _ = ⊥

  abbrev pub ForceAnswer : T → List (MarkedStep T) → List (Queue T) → QueueReply T → Type 0
  ForceAnswer v marked_steps seen (reply.Force (Ok None)) = Appended marked_steps
  ForceAnswer v marked_steps seen (reply.Force (Ok (Some d))) = Replaced marked_steps d ⊎ Displaced marked_steps d
  ForceAnswer v marked_steps seen (reply.Force (Err (force_error.Closed w))) = (w ≡ v) × (marked_steps ≡ []) × Once IsShut seen
  ForceAnswer v marked_steps seen (reply.Force (Err (force_error.NoMemory w))) = (w ≡ v) × (marked_steps ≡ []) × Once (λ m. IsOpen m × (m.capacity ≡ None)) seen
  ForceAnswer v marked_steps seen _ = ⊥

  abbrev pub PopAnswer : List (MarkedStep T) → List (Queue T) → QueueReply T → Type 0
  PopAnswer marked_steps seen (reply.Pop (Ok v)) = Took marked_steps v
  PopAnswer marked_steps seen (reply.Pop (Err pop_error.Empty)) = (marked_steps ≡ []) × Once (λ m. IsOpen m × IsDrained m) seen
  PopAnswer marked_steps seen (reply.Pop (Err pop_error.Closed)) = (marked_steps ≡ []) × Once (λ m. IsShut m × IsDrained m) seen
  PopAnswer marked_steps seen _ = ⊥

  abbrev pub Closing : List (MarkedStep T) → Type 0
  Closing (d ∷ []) = (d.mark ≡ Close) × IsOpen d.before
  Closing _ = ⊥

  abbrev pub CloseAnswer : List (MarkedStep T) → List (Queue T) → QueueReply T → Type 0
  CloseAnswer marked_steps seen (reply.Close true) = Closing marked_steps
  CloseAnswer marked_steps seen (reply.Close false) = (marked_steps ≡ []) × Once IsShut seen
  CloseAnswer marked_steps seen _ = ⊥

  abbrev pub FlagAnswer : (Queue T → Bool) → List (MarkedStep T) → List (Queue T) → QueueReply T → Type 0
  FlagAnswer test marked_steps seen (reply.Flag b) = (marked_steps ≡ []) × Once (λ m. test m ≡ b) seen
  FlagAnswer test marked_steps seen _ = ⊥

  abbrev pub LenAnswer : List (MarkedStep T) → List (Queue T) → QueueReply T → Type 0
  LenAnswer marked_steps seen (reply.Count n) = (marked_steps ≡ []) × Once (λ m. length m.items ≡ n) seen
  LenAnswer marked_steps seen _ = ⊥

  abbrev pub CapacityAnswer : List (MarkedStep T) → List (Queue T) → QueueReply T → Type 0
  CapacityAnswer marked_steps seen (reply.Cap c) = (marked_steps ≡ []) × Once (λ m. m.capacity ≡ c) seen
  CapacityAnswer marked_steps seen _ = ⊥

  abbrev pub is_closed : Queue T → Bool
  is_closed m = m.closed

  abbrev pub is_empty : Queue T → Bool
  is_empty m = length m.items == 0

  -- a call that asked this, with these marks and moments, may give this reply
  abbrev pub MayAnswer : QueueAsk T → List (MarkedStep T) → List (Queue T) → QueueReply T → Type 0
  MayAnswer (ask.Push v) marked_steps seen r = PushAnswer v marked_steps seen r
  MayAnswer (ask.ForcePush v) marked_steps seen r = ForceAnswer v marked_steps seen r
  MayAnswer ask.Pop marked_steps seen r = PopAnswer marked_steps seen r
  MayAnswer ask.Close marked_steps seen r = CloseAnswer marked_steps seen r
  MayAnswer ask.IsClosed marked_steps seen r = FlagAnswer is_closed marked_steps seen r
  MayAnswer ask.IsEmpty marked_steps seen r = FlagAnswer is_empty marked_steps seen r
  MayAnswer ask.IsFull marked_steps seen r = FlagAnswer (λ m. is_filled m) marked_steps seen r
  MayAnswer ask.Len marked_steps seen r = LenAnswer marked_steps seen r
  MayAnswer ask.Capacity marked_steps seen r = CapacityAnswer marked_steps seen r

  -- a call under way has done a beginning of what some reply needs
  abbrev pub IsBegun : QueueAsk T → List (MarkedStep T) → Type 0
  IsBegun (ask.Push v) marked_steps = (marked_steps ≡ []) ⊎ Appended marked_steps
  IsBegun (ask.ForcePush v) marked_steps =
      (marked_steps ≡ []) ⊎ (Appended marked_steps ⊎ (((d : T) × Replaced marked_steps d) ⊎ (((d : T) × MadeRoom marked_steps d) ⊎ ((d : T) × Displaced marked_steps d))))
  IsBegun ask.Pop marked_steps = (marked_steps ≡ []) ⊎ ((v : T) × Took marked_steps v)
  IsBegun _ marked_steps = marked_steps ≡ []
