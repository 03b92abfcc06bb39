-- Which queues can be made, and with which cells.
use Rattle.std.specs.Prelude.{◌≡◌, ◌<◌, ◌==◌, [], if◌then◌else◌}
use Rattle.concurrent_queue.specs.Contents.{Contents, empty_slot, empty_blocks}
use Rattle.concurrent_queue.specs.machine.RingMade.{empty_ring}
use Rattle.concurrent_queue.specs.Capacity.{capacity_of}
use Rattle.concurrent_queue.specs.Queue.{opened}
use Rattle.concurrent_queue.specs.Step.{FitsAt}
use Rattle.concurrent_queue.specs.declared.cells.QueueForm.{QueueForm}
use Rattle.concurrent_queue.specs.declared.cells.QueueForm.TheVariants.{Bounded, Unbounded}

-- a bounded queue has a slot at least; an unbounded one can always be made
abbrev pub CanBeMade : QueueForm → Type 0
CanBeMade (Bounded cap) = 0 < cap
CanBeMade Unbounded = Unit {0}

-- the cells of a new queue: an empty slot, an empty ring of this capacity, or no block yet
-- A run begins at these cells, so nothing is claimed of other cells, or of slots that were filled beforehand.
abbrev pub new_cells : {T : Type 0} → QueueForm → Contents T
new_cells (Bounded cap) = if cap == 1 then empty_slot else empty_ring cap
new_cells Unbounded = empty_blocks

-- such cells; they mean an open empty queue of this form, with no call under way
abbrev pub IsNew : {T : Type 0} → QueueForm → Contents T → Type 0
IsNew form c = (c.form ≡ form) × FitsAt [] c (opened (capacity_of form)) [] × (c ≡ new_cells form)
