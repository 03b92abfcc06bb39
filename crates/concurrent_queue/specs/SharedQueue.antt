-- What is known of a queue that threads share, and of its calls.
use Rattle.std.specs.Prelude.{◌≡◌, ◌≢◌, ◌⊎◌, ℕ, Option, None}
use Rattle.concurrent_queue.specs.Deeds.{Deed}
use Rattle.concurrent_queue.specs.Replies.{room_of, MayCall, IsSoon, IsLast, Follows}
use Rattle.concurrent_queue.specs.Walked.{CallMakes, Walked, WalkedAsking}
use Rattle.concurrent_queue.specs.declared.call.QueueAsk.{QueueAsk}
use Rattle.concurrent_queue.specs.declared.call.QueueReply.{QueueReply}
use Rattle.concurrent_queue.specs.declared.cells.QueueForm.{QueueForm}
use Rattle.concurrent_queue.specs.declared.error.PushError.{PushError}
use Rattle.concurrent_queue.specs.declared.error.PushError.TheVariants as push_error
use Rattle.concurrent_queue.specs.declared.error.ForcePushError.{ForcePushError}
use Rattle.concurrent_queue.specs.declared.error.ForcePushError.TheVariants as force_error
use Rattle.concurrent_queue.specs.declared.queue_call.QueueCall.{QueueCall}
use Rattle.concurrent_queue.specs.declared.shared.queue.ConcurrentQueue.{ConcurrentQueue}

module _ {T W : Type 0} where
  -- which kind of queue it is; this never changes
  abbrev pub form_in : ConcurrentQueue T W → QueueForm
  form_in q = q.form

  -- how many messages it can hold, if there is a bound
  abbrev pub limit : ConcurrentQueue T W → Option ℕ
  limit q = room_of (form_in q)

  -- the trace by which its calls are seen, which is none for a queue that nobody watches
  abbrev pub watch_of : ConcurrentQueue T W → W
  watch_of q = q.watch

  -- a step on this queue's cells: what may be answered after it might have been answered before, and so might its reply
  abbrev pub IsSharedStep : ConcurrentQueue T W → QueueCall T → QueueCall T → Option (QueueReply T) → Type 0
  IsSharedStep q call call' answer = Follows (form_in q) call call' answer

  -- a call made up to its answer on this queue's cells: this answer might have been given to it
  abbrev pub IsSharedCall : ConcurrentQueue T W → QueueCall T → QueueReply T → Type 0
  IsSharedCall q call answer = MayCall (form_in q) call.state answer

module _ {T : Type 0} where
  -- a push is refused as full by a bounded queue alone, and for memory by an unbounded one alone
  abbrev pub CanRefuse : Option ℕ → PushError T → Type 0
  CanRefuse cap (push_error.Full v) = cap ≢ None
  CanRefuse cap (push_error.Closed v) = Unit {0}
  CanRefuse cap (push_error.NoMemory v) = cap ≡ None

  abbrev pub CanRefuseForce : Option ℕ → ForcePushError T → Type 0
  CanRefuseForce cap (force_error.Closed v) = Unit {0}
  CanRefuseForce cap (force_error.NoMemory v) = cap ≡ None

  -- the call is close or a question but for the length
  abbrev pub IsWordsAlone : QueueCall T → Type 0
  IsWordsAlone call = IsSoon call.state ⊎ IsLast call.state

  -- over cells of these forms the one call may only answer what the other may
  abbrev pub IsStillOf : QueueForm → QueueForm → QueueCall T → QueueCall T → Type 0
  IsStillOf form cells first call = (r : QueueReply T) → MayCall cells call.state r → MayCall form first.state r

-- what the queue's watch was shown of a call, by the relation of operations that it was told: each says that these were the
-- operations of the one call, from the watch as the queue has it, with the answers by which its reply came out
module _ {T W : Type 0} (did : Deed T → W → W → Type 0) where
  -- a whole call that asks this and replies so
  abbrev pub SawCall : ConcurrentQueue T W → QueueAsk T → QueueReply T → Type 0
  SawCall q a r = (end : W) × WalkedAsking did (form_in q) a (watch_of q) r end

  -- the steps of a call from where it stands to its reply
  abbrev pub SawRest : ConcurrentQueue T W → QueueCall T → QueueReply T → Type 0
  SawRest q call r = (end : W) × Walked did (form_in q) call (watch_of q) r end

  -- one step of a call
  abbrev pub SawStep : ConcurrentQueue T W → QueueCall T → QueueCall T → Option (QueueReply T) → Type 0
  SawStep q call next answer = (end : W) × CallMakes did (form_in q) (watch_of q) call end next answer
