-- Which form a queue has, and what each form's machine does at a step.
use Rattle.std.specs.Prelude.{◌≡◌, ℕ, ◌==◌, Bool, true, false, None}
use Rattle.concurrent_queue.specs.Contents.{Contents}
use Rattle.concurrent_queue.specs.machine.Single.{single_step, start}
use Rattle.concurrent_queue.specs.machine.RingWords.{cap_of, ring_mark, ring_step, ring_start}
use Rattle.concurrent_queue.specs.machine.BlocksWords.{IsBlocksStep, begin}
use Rattle.concurrent_queue.specs.declared.call.QueueAsk.{QueueAsk}
use Rattle.concurrent_queue.specs.declared.call.QueueMark.TheVariants.{Nothing}
use Rattle.concurrent_queue.specs.declared.call.Stepped.{Stepped}
use Rattle.concurrent_queue.specs.declared.cells.QueueForm.{QueueForm}
use Rattle.concurrent_queue.specs.declared.cells.QueueForm.TheVariants.{Bounded, Unbounded}
use Rattle.concurrent_queue.specs.declared.single.SingleAction.{SingleAction}
use Rattle.concurrent_queue.specs.declared.bounded.RingAction.{RingAction}
use Rattle.concurrent_queue.specs.declared.unbounded.action.UnboundedCall.{UnboundedCall}
use Rattle.concurrent_queue.specs.declared.queue_call.CallState.{CallState}
use Rattle.concurrent_queue.specs.declared.queue_call.CallState.TheVariants.{Asked, Single, Ring, Blocks, Finished}

-- how many slots a ring of this form has; an unbounded queue is no ring
abbrev pub ring_cap : QueueForm → ℕ
ring_cap (Bounded cap) = cap_of cap
ring_cap Unbounded = cap_of 0

module _ {T : Type 0} where
  abbrev pub IsSingleStep : Contents T → SingleAction T → Contents T → Stepped (SingleAction T) T → Type 0
  IsSingleStep c a d s = (d, s) ≡ single_step c a

  abbrev pub in_single : Stepped (SingleAction T) T → Stepped (CallState T) T
  in_single s = record { action = Single s.action; mark = s.mark; reply = s.reply }

  -- a step of a queue of one slot, in the words of all calls
  abbrev pub BySingle : Contents T → SingleAction T → Contents T → Stepped (CallState T) T → Type 0
  BySingle c a d s = (x : Stepped (SingleAction T) T) × IsSingleStep c a d x × (s ≡ in_single x)

  abbrev pub IsRingStep : ℕ → Contents T → RingAction T → Contents T → Stepped (RingAction T) T → Type 0
  IsRingStep cap c a d s = (d, s) ≡ ring_step cap (ring_mark cap) c a

  abbrev pub in_ring : Stepped (RingAction T) T → Stepped (CallState T) T
  in_ring s = record { action = Ring s.action; mark = s.mark; reply = s.reply }

  -- a step of a ring, in the words of all calls
  abbrev pub ByRing : ℕ → Contents T → RingAction T → Contents T → Stepped (CallState T) T → Type 0
  ByRing cap c a d s = (x : Stepped (RingAction T) T) × IsRingStep cap c a d x × (s ≡ in_ring x)

  -- a capacity of one is one slot, a greater one a ring
  abbrev pub IsBoundedFirst : Bool → ℕ → Contents T → QueueAsk T → Contents T → Stepped (CallState T) T → Type 0
  IsBoundedFirst true cap c a d s = BySingle c (start a) d s
  IsBoundedFirst false cap c a d s = ByRing cap c (ring_start a) d s

  abbrev pub in_blocks : Stepped (UnboundedCall T) T → Stepped (CallState T) T
  in_blocks s = record { action = Blocks s.action; mark = s.mark; reply = s.reply }

  -- a step of an unbounded queue, in the words of all calls
  abbrev pub ByBlocks : Contents T → UnboundedCall T → Contents T → Stepped (CallState T) T → Type 0
  ByBlocks c a d s = (x : Stepped (UnboundedCall T) T) × IsBlocksStep c a d x × (s ≡ in_blocks x)

  abbrev pub IsFirstStep : QueueForm → Contents T → QueueAsk T → Contents T → Stepped (CallState T) T → Type 0
  IsFirstStep (Bounded cap) c a d s = IsBoundedFirst (cap == 1) (cap_of cap) c a d s
  IsFirstStep Unbounded c a d s = ByBlocks c (begin a) d s

  abbrev pub ended : Stepped (CallState T) T
  ended = record { action = Finished; mark = Nothing; reply = None }

  -- a step of a call at this state, over the contents c, which leaves d
  abbrev pub IsStateStep : Contents T → CallState T → Contents T → Stepped (CallState T) T → Type 0
  IsStateStep c (Asked a) d s = IsFirstStep c.form c a d s
  IsStateStep c (Single a) d s = BySingle c a d s
  IsStateStep c (Ring a) d s = ByRing (ring_cap c.form) c a d s
  IsStateStep c (Blocks a) d s = ByBlocks c a d s
  IsStateStep c Finished d s = (d ≡ c) × (s ≡ ended)
