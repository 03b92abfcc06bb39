-- A merge of two calls: a push and a pop of one slot, whose operations come in turn.
use Rattle.std.specs.Prelude.{◌≡◌, ℕ, ◌==◌, List, [], ◌∷◌, take, Option, None, Some, Ok, Err, if◌then◌else◌}
use Rattle.concurrent_queue.specs.Contents.{empty_slot}
use Rattle.concurrent_queue.specs.Touched.{on_slot, next_target, HasLed}
use Rattle.concurrent_queue.specs.machine.Single.{set_state}
use Rattle.concurrent_queue.specs.Bridge.{Happening, begins, does, Acts, own, InOneOrder}
use Rattle.concurrent_queue.specs.Deeds.{exchanged, bits_kept, did_put, did_take}
use Rattle.concurrent_queue.specs.Made.{new_cells}
use Rattle.concurrent_queue.specs.declared.call.QueueAsk.TheVariants as ask
use Rattle.concurrent_queue.specs.declared.call.QueueMark.TheVariants.{Append, Nothing}
use Rattle.concurrent_queue.specs.declared.call.QueueReply.{QueueReply}
use Rattle.concurrent_queue.specs.declared.call.QueueReply.TheVariants as reply
use Rattle.concurrent_queue.specs.declared.cells.QueueForm.TheVariants.{Bounded}
use Rattle.concurrent_queue.specs.declared.cells.Slot.TheVariants.{At}
use Rattle.concurrent_queue.specs.declared.cells.Word.TheVariants.{State}
use Rattle.concurrent_queue.specs.declared.queue_call.CallState.TheVariants.{Single}
use Rattle.concurrent_queue.specs.declared.queue_call.QueueCall.{QueueCall}
use Rattle.concurrent_queue.specs.declared.single.SingleAction.TheVariants.{Pop, PushPut}

module _ {T : Type 0} (v : T) where
  -- the pop finds a message on its way, and waits for it: it wins the slot only when the push has put the message down
  abbrev pub push_beside_pop : List (Happening T)
  push_beside_pop =
      record { party = 1; event = begins (ask.Push v) }
      ∷ record { party = 2; event = begins ask.Pop }
      ∷ record { party = 1; event = does (Some (exchanged State 0 3 (Ok 0))) }
      ∷ record { party = 2; event = does (Some (exchanged State 2 1 (Err 3))) }
      ∷ record { party = 1; event = does (Some (did_put (At 0) v (Ok tt))) }
      ∷ record { party = 1; event = does (Some (bits_kept State 0xffff_ffff_ffff_fffe 3)) }
      ∷ record { party = 2; event = does (Some (exchanged State 2 1 (Ok 2))) }
      ∷ record { party = 2; event = does (Some (did_take (At 0) (Some v))) }
      ∷ record { party = 2; event = does (Some (bits_kept State 0xffff_ffff_ffff_fffe 1)) }
      ∷ []

  abbrev pub replies_of_two : ℕ → List (QueueReply T)
  replies_of_two p = if 1 == p then reply.Push (Ok tt) ∷ [] else (if 2 == p then reply.Pop (Ok v) ∷ [] else [])

-- where its first four events have led: the push is about to fill the slot, and the pop to look again
module _ {T : Type 0} (v : T) where
  abbrev pub push_at_slot : QueueCall T
  push_at_slot = record { state = Single (PushPut v); mark = Append }

  abbrev pub pop_waiting : QueueCall T
  pop_waiting = record { state = Single (Pop 2); mark = Nothing }

  abbrev pub led_of_two : ℕ → Option (QueueCall T)
  led_of_two p = if 1 == p then Some push_at_slot else (if 2 == p then Some pop_waiting else None)

abbrev pub FourEventsLead : Type 0 → Type 0
FourEventsLead T =
    (v : T) → HasLed (Bounded 1) (take 4 (push_beside_pop v)) (set_state empty_slot 3) (led_of_two v) × (next_target (Bounded 1) (push_at_slot v) ≡ on_slot (At 0))

-- it is a merge as `MergesAreRuns` asks it, and leaves the slot as it was
abbrev pub TwoCallsMerge : Type 0 → Type 0
TwoCallsMerge T =
    (v : T)
    → ((p : ℕ) → Acts (Bounded 1) None (own p (push_beside_pop v)) (replies_of_two v p)) × InOneOrder (push_beside_pop v) (new_cells (Bounded 1)) (new_cells (Bounded 1))
