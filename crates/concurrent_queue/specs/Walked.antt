-- What a call of a queue does to cells of any kind: each of its steps is one operation, with the answer that it got, as the
-- machine of its form makes it. Nothing here speaks of what the cells hold, so it is said of cells that threads share as well.
use Rattle.std.specs.Prelude.{◌≡◌, ℕ, ◌==◌, Bool, true, false, Option, Result, MatchResult}
use Rattle.concurrent_queue.specs.Deeds.{Deed}
use Rattle.concurrent_queue.specs.machine.FastPath.{Leads, Ends}
use Rattle.concurrent_queue.specs.machine.Single.{SingleMakes, start}
use Rattle.concurrent_queue.specs.machine.RingWords.{cap_of, ring_mark, ring_start}
use Rattle.concurrent_queue.specs.machine.RingMoves.{RingMakes}
use Rattle.concurrent_queue.specs.machine.BlocksWords.{begin}
use Rattle.concurrent_queue.specs.machine.BlocksMakes.{BlocksMakes}
use Rattle.concurrent_queue.specs.machine.Dispatch.{ring_cap, in_single, in_ring, in_blocks, ended}
use Rattle.concurrent_queue.specs.declared.call.QueueAsk.{QueueAsk}
use Rattle.concurrent_queue.specs.declared.call.QueueReply.{QueueReply}
use Rattle.concurrent_queue.specs.declared.call.Stepped.{Stepped}
use Rattle.concurrent_queue.specs.declared.cells.QueueForm.{QueueForm}
use Rattle.concurrent_queue.specs.declared.cells.QueueForm.TheVariants.{Bounded, Unbounded}
use Rattle.concurrent_queue.specs.declared.single.SingleAction.{SingleAction}
use Rattle.concurrent_queue.specs.declared.bounded.RingAction.{RingAction}
use Rattle.concurrent_queue.specs.declared.unbounded.action.UnboundedCall.{UnboundedCall}
use Rattle.concurrent_queue.specs.declared.queue_call.CallState.{CallState}
use Rattle.concurrent_queue.specs.declared.queue_call.CallState.TheVariants.{Asked, Single, Ring, Blocks, Finished}
use Rattle.concurrent_queue.specs.declared.queue_call.QueueCall.{QueueCall}

module _ {T : Type 0} where
  -- the first action of a call; a capacity of one is one slot, a greater one a ring
  abbrev pub first_bounded : Bool → QueueAsk T → CallState T
  first_bounded true a = Single (start a)
  first_bounded false a = Ring (ring_start a)

  abbrev pub first_of : QueueForm → QueueAsk T → CallState T
  first_of (Bounded cap) a = first_bounded (cap == 1) a
  first_of Unbounded a = Blocks (begin a)

  -- the action at which a call stands, which is the first one before it has made a step
  abbrev pub standing : QueueForm → CallState T → CallState T
  standing form (Asked a) = first_of form a
  standing form at = at

  -- the call has answered, and makes no step more
  abbrev pub HasEnded : QueueCall T → Type 0
  HasEnded call = call.state ≡ Finished

module _ {T S : Type 0} (did : Deed T → S → S → Type 0) where
  -- one operation, as the machine of one slot, of a ring of so many or of blocks makes it, in the words of all calls
  abbrev pub MakesSingle : S → SingleAction T → S → Stepped (CallState T) T → Type 0
  MakesSingle s a t r = (x : Stepped (SingleAction T) T) × SingleMakes did s a t x × (r ≡ in_single x)

  abbrev pub MakesRing : ℕ → S → RingAction T → S → Stepped (CallState T) T → Type 0
  MakesRing cap s a t r = (x : Stepped (RingAction T) T) × RingMakes cap (ring_mark cap) did s a t x × (r ≡ in_ring x)

  abbrev pub MakesBlocks : S → UnboundedCall T → S → Stepped (CallState T) T → Type 0
  MakesBlocks s a t r = (x : Stepped (UnboundedCall T) T) × BlocksMakes did s a t x × (r ≡ in_blocks x)

  -- the first one of a call; a capacity of one is one slot, a greater one a ring
  abbrev pub MakesBounded : Bool → ℕ → S → QueueAsk T → S → Stepped (CallState T) T → Type 0
  MakesBounded true cap s a t r = MakesSingle s (start a) t r
  MakesBounded false cap s a t r = MakesRing cap s (ring_start a) t r

  abbrev pub MakesFirst : QueueForm → S → QueueAsk T → S → Stepped (CallState T) T → Type 0
  MakesFirst (Bounded cap) s a t r = MakesBounded (cap == 1) (cap_of cap) s a t r
  MakesFirst Unbounded s a t r = MakesBlocks s (begin a) t r

  -- one of a call at this state; one that has answered touches nothing
  abbrev pub StateMakes : QueueForm → S → CallState T → S → Stepped (CallState T) T → Type 0
  StateMakes form s (Asked a) t r = MakesFirst form s a t r
  StateMakes form s (Single a) t r = MakesSingle s a t r
  StateMakes form s (Ring a) t r = MakesRing (ring_cap form) s a t r
  StateMakes form s (Blocks a) t r = MakesBlocks s a t r
  StateMakes form s Finished t r = (t ≡ s) × (r ≡ ended)

  -- a step leads the one call to the other, or ends it with this answer
  abbrev pub CallMakes : QueueForm → S → QueueCall T → S → QueueCall T → Option (QueueReply T) → Type 0
  CallMakes form s call t next answer = StateMakes form s call.state t (record { action = next.state; mark = next.mark; reply = answer })

  -- every step from this state to this answer
  abbrev pub WalkedFrom : QueueForm → CallState T → S → QueueReply T → S → Type 0
  WalkedFrom form at s r t = (n : ℕ) × Ends (StateMakes form) n s at t r

  -- every step of the call from here to this answer, as operations on the cells with their answers, these and no others
  abbrev pub Walked : QueueForm → QueueCall T → S → QueueReply T → S → Type 0
  Walked form call s r t = WalkedFrom form call.state s r t

  -- the same of a call that asks this and has made no step
  abbrev pub WalkedAsking : QueueForm → QueueAsk T → S → QueueReply T → S → Type 0
  WalkedAsking form a s r t = WalkedFrom form (Asked a) s r t

  -- the steps from this action to an answer, or up to where the call that is left stands
  abbrev pub WalkedFast : {R : Type 0} → (R → QueueReply T) → QueueForm → CallState T → S → Result R (QueueCall T) → S → Type 0
  WalkedFast reply form at s result t =
      MatchResult result (λ r. WalkedFrom form at s (reply r) t) (λ call. (n : ℕ) × Leads (StateMakes form) n s at t (standing form call.state))
