-- Which message a call under way has let in and is yet to put, and into which slot: what its next actions say. The actions are those
-- of the queue's form: those of one slot, of a ring, of blocks. A message that is not in its slot is found by that slot and not by its
-- value, since several messages may have the same value.
use Rattle.std.specs.Prelude.{ℕ, ◌/◌, ◌%◌, Option, None, Some}
use Rattle.concurrent_queue.specs.machine.RingWords.{index, ring_mark}
use Rattle.concurrent_queue.specs.declared.bounded.RingAction.{RingAction}
use Rattle.concurrent_queue.specs.declared.bounded.RingAction.TheVariants as ring
use Rattle.concurrent_queue.specs.declared.cells.QueueForm.{QueueForm}
use Rattle.concurrent_queue.specs.declared.cells.QueueForm.TheVariants.{Bounded}
use Rattle.concurrent_queue.specs.declared.cells.Slot.{Slot}
use Rattle.concurrent_queue.specs.declared.cells.Slot.TheVariants.{At, In}
use Rattle.concurrent_queue.specs.declared.queue_call.CallState.{CallState}
use Rattle.concurrent_queue.specs.declared.queue_call.CallState.TheVariants.{Single, Ring, Blocks}
use Rattle.concurrent_queue.specs.declared.queue_call.QueueCall.{QueueCall}
use Rattle.concurrent_queue.specs.declared.single.SingleAction.{SingleAction}
use Rattle.concurrent_queue.specs.declared.single.SingleAction.TheVariants as single
use Rattle.concurrent_queue.specs.declared.unbounded.action.UnboundedAction.{UnboundedAction}
use Rattle.concurrent_queue.specs.declared.unbounded.action.UnboundedAction.TheVariants as blocks
use Rattle.channel_calls.specs.declared.stage.Stage.{Stage}
use Rattle.channel_calls.specs.declared.stage.Stage.TheVariants.{Trying}

module _ {T : Type 0} where
  -- on one slot: it has the slot, and puts its message next, or when it has taken the old one out
  abbrev pub puts_single : SingleAction T → Option (Slot × T)
  puts_single (single.PushPut v) = Some (At 0, v)
  puts_single (single.ForceTake v) = Some (At 0, v)
  puts_single (single.ForcePut v old) = Some (At 0, v)
  puts_single _ = None

  -- on a ring with this mark: into the slot of its position, or of that of the old message, which is the same slot
  abbrev pub puts_ring : ℕ → RingAction T → Option (Slot × T)
  puts_ring mark (ring.PushPut full v position) = Some (At (index mark position), v)
  puts_ring mark (ring.ForceTake v position) = Some (At (index mark position), v)
  puts_ring mark (ring.ForcePut v position old) = Some (At (index mark position), v)
  puts_ring mark _ = None

  -- into a block: at the offset of its position, which is half the tail's word
  abbrev pub puts_blocks : UnboundedAction T → Option (Slot × T)
  puts_blocks (blocks.PushTurn v tail block next) = Some (In block (tail / 2 % 32), v)
  puts_blocks (blocks.PushAdd v tail block next) = Some (In block (tail / 2 % 32), v)
  puts_blocks (blocks.PushLink v tail block next) = Some (In block (tail / 2 % 32), v)
  puts_blocks (blocks.PushPut v tail block held) = Some (In block (tail / 2 % 32), v)
  puts_blocks _ = None

  abbrev pub puts_by : QueueForm → CallState T → Option (Slot × T)
  puts_by form (Single a) = puts_single a
  puts_by (Bounded capacity) (Ring a) = puts_ring (ring_mark capacity) a
  puts_by form (Blocks a) = puts_blocks a.action
  puts_by form state = None

module _ {T W : Type 0} where
  -- by the stage of a call of the channel: that of its call of the queue, while the queue has its next step
  unfoldable pub yet_to_put : QueueForm → Stage (QueueCall T) T W → Option (Slot × T)
  yet_to_put form (Trying call purpose) = puts_by form call.state
  yet_to_put form stage = None
