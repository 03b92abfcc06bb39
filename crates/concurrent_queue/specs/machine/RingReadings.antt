-- What the words and slots of a ring give: whether it is closed, how many messages it has had and has, and which.
use Rattle.std.specs.Prelude.{ℕ, ◌+◌, ◌-◌, ◌*◌, ◌/◌, ◌%◌, Bool, List, [], ◌++◌, option_to_list}
use Rattle.std.proofs.Common.{zero, suc}
use Rattle.concurrent_queue.specs.Contents.{Contents, slot_at}
use Rattle.concurrent_queue.specs.machine.RingWords.{is_marked, unmarked}
use Rattle.concurrent_queue.specs.declared.cells.Slot.{Slot}
use Rattle.concurrent_queue.specs.declared.cells.Slot.TheVariants.{At}

-- how many positions there are below p
abbrev pub number_of : ℕ → ℕ → ℕ → ℕ
number_of cap m p = p / (2 * m) * cap + p % (2 * m)

module _ {T : Type 0} where
  abbrev pub ring_closed : ℕ → Contents T → Bool
  ring_closed m c = is_marked m c.tail

  -- how many messages were appended, by the tail
  abbrev pub ring_counted : ℕ → ℕ → Contents T → ℕ
  ring_counted cap m c = number_of cap m (unmarked m c.tail)

  -- how many positions lie from the head up to the tail
  abbrev pub ring_length : ℕ → ℕ → Contents T → ℕ
  ring_length cap m c = ring_counted cap m c - number_of cap m c.head

  -- the slot of the i-th message: that of the head's position plus i
  abbrev pub ring_slot : ℕ → ℕ → Contents T → ℕ → Slot
  ring_slot cap m c i = At ((number_of cap m c.head + i) % cap)

  -- the messages in the slots of k positions, from the n-th on
  abbrev pub held_from : ℕ → Contents T → ℕ → ℕ → List T
  held_from cap c zero n = []
  held_from cap c (suc k) n = option_to_list (slot_at c (At (n % cap))) ++ held_from cap c k (suc n)

  abbrev pub ring_held : ℕ → ℕ → Contents T → List T
  ring_held cap m c = held_from cap c (ring_length cap m c) (number_of cap m c.head)
