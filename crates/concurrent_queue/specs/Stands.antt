-- What cells may require of their operations: each is the one that the call's machine makes next. Cells of one owner require nothing; those
-- of calls whose operations are to be one history require just this.
use Rattle.std.specs.Prelude.{◌≡◌, ℕ, ◌==◌, Bool, true, false, None, Some}
use Rattle.concurrent_queue.specs.Deeds.{Deed, Notes, Ready}
use Rattle.concurrent_queue.specs.Walked.{StateMakes}
use Rattle.concurrent_queue.specs.machine.Single.{single_moves, start}
use Rattle.concurrent_queue.specs.machine.RingWords.{cap_of, ring_mark, ring_start}
use Rattle.concurrent_queue.specs.machine.RingMoves.{ring_moves}
use Rattle.concurrent_queue.specs.machine.BlocksWords.{begin}
use Rattle.concurrent_queue.specs.machine.BlocksMakes.{blocks_moves}
use Rattle.concurrent_queue.specs.machine.Dispatch.{ring_cap}
use Rattle.concurrent_queue.specs.declared.call.QueueAsk.{QueueAsk}
use Rattle.concurrent_queue.specs.declared.call.Stepped.{Stepped}
use Rattle.concurrent_queue.specs.declared.cells.QueueForm.{QueueForm}
use Rattle.concurrent_queue.specs.declared.cells.QueueForm.TheVariants.{Bounded, Unbounded}
use Rattle.concurrent_queue.specs.declared.queue_call.CallState.{CallState}
use Rattle.concurrent_queue.specs.declared.queue_call.CallState.TheVariants.{Asked, Single, Ring, Blocks, Finished}

-- the measures of a ring are those of this form
abbrev pub IsMeasured : ℕ → ℕ → QueueForm → Type 0
IsMeasured cap m form = (cap ≡ ring_cap form) × (m ≡ ring_mark (ring_cap form))

module _ {T : Type 0} where
  -- a call at this state makes this operation, with its answer, and goes on so
  abbrev pub Next : QueueForm → CallState T → Deed T → Stepped (CallState T) T → Type 0
  Next form at d r = StateMakes Notes form None at (Some d) r

  module _ {S : Type 0} (stands : CallState T → S → Type 0) (form_of : S → QueueForm) where
    -- where a call stands, what it makes next may be made, whatever it answers
    abbrev pub MayGoOn : (Deed T → S → Type 0) → Type 0
    MayGoOn may = (at : CallState T) (s : S) (d : Deed T) (r : Stepped (CallState T) T) → stands at s → Next (form_of s) at d r → may d s

    -- and once it is made the call stands where its machine goes by the answer
    abbrev pub GoesOn : (Deed T → S → S → Type 0) → Type 0
    GoesOn did = (at : CallState T) (s t : S) (d : Deed T) (r : Stepped (CallState T) T) → stands at s → did d s t → Next (form_of s) at d r → stands r.action t

module _ {T S : Type 0} (may : Deed T → S → Type 0) where
  -- what a call at this state makes next may be made, whatever it answers
  abbrev pub BoundedReady : Bool → ℕ → QueueAsk T → S → Type 0
  BoundedReady true cap a s = Ready may (single_moves (start a)) s
  BoundedReady false cap a s = Ready may (ring_moves cap (ring_mark cap) (ring_start a)) s

  abbrev pub FirstReady : QueueForm → QueueAsk T → S → Type 0
  FirstReady (Bounded cap) a s = BoundedReady (cap == 1) (cap_of cap) a s
  FirstReady Unbounded a s = Ready may (blocks_moves (begin a).action) s

  abbrev pub StateReady : QueueForm → CallState T → S → Type 0
  StateReady form (Asked a) s = FirstReady form a s
  StateReady form (Single a) s = Ready may (single_moves a) s
  StateReady form (Ring a) s = Ready may (ring_moves (ring_cap form) (ring_mark (ring_cap form)) a) s
  StateReady form (Blocks a) s = Ready may (blocks_moves a.action) s
  StateReady form Finished s = Unit {0}
