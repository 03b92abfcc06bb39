-- How long an iterator over a shared queue may still be asked, and what its queue's watch was shown of each item.
use Rattle.std.specs.Prelude.{ℕ, Option, MatchOption, Ok, Err}
use Rattle.std.specs.Sync.Forever.{forever_left}
use Rattle.concurrent_queue.specs.Deeds.{Deed}
use Rattle.concurrent_queue.specs.SharedQueue.{SawCall}
use Rattle.concurrent_queue.specs.declared.call.QueueAsk.TheVariants as ask
use Rattle.concurrent_queue.specs.declared.call.QueueReply.TheVariants as reply
use Rattle.concurrent_queue.specs.declared.error.PopError.{PopError}
use Rattle.concurrent_queue.specs.declared.shared.iter.TryIter.{TryIter}

-- how many turns it has left
abbrev pub turns_left : {T R W : Type 0} → TryIter T R W → ℕ
turns_left s = forever_left s.turns

-- a whole pop: an item is what it took, and no item is one that took none
abbrev pub SawNext : {T R W : Type 0} → (Deed T → W → W → Type 0) → TryIter T R W → Option T → Type 0
SawNext did s item =
    let queue = s.queue.now in
    MatchOption item ((e : PopError) × SawCall did queue ask.Pop (reply.Pop (Err e))) (λ v. SawCall did queue ask.Pop (reply.Pop (Ok v)))
