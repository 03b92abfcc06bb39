-- The steps of a queue of one slot, as a function of what its cells hold.
use Rattle.std.specs.Prelude.{ℕ, Bool, true, false, not, None, Some, Ok, Err, if◌then◌else◌, ◌==◌, bit_and, bit_or}
use Rattle.std.specs.Prelude.{Option, Result}
use Rattle.concurrent_queue.specs.Contents.{Contents, write_slot, slot_at, can_put}
use Rattle.concurrent_queue.specs.Deeds.{Deed, Move, loads, exchanges, sets_bits, keeps_bits, puts, takes, rests, Makes}
use Rattle.concurrent_queue.specs.declared.cells.Word.TheVariants.{State}
use Rattle.concurrent_queue.specs.declared.cells.Slot.TheVariants.{At}
use Rattle.concurrent_queue.specs.declared.call.QueueAsk.{QueueAsk}
use Rattle.concurrent_queue.specs.declared.call.QueueAsk.TheVariants as ask
use Rattle.concurrent_queue.specs.declared.call.QueueMark.{QueueMark}
use Rattle.concurrent_queue.specs.declared.call.QueueMark.TheVariants as mark
use Rattle.concurrent_queue.specs.declared.call.QueueReply.{QueueReply}
use Rattle.concurrent_queue.specs.declared.call.QueueReply.TheVariants as reply
use Rattle.concurrent_queue.specs.declared.call.Stepped.{Stepped}
use Rattle.concurrent_queue.specs.declared.error.PushError.TheVariants as push_error
use Rattle.concurrent_queue.specs.declared.error.ForcePushError.TheVariants as force_error
use Rattle.concurrent_queue.specs.declared.error.PopError.TheVariants as pop_error
use Rattle.concurrent_queue.specs.declared.single.SingleAction.{SingleAction}
use Rattle.concurrent_queue.specs.declared.single.SingleAction.TheVariants.{Push, PushPut, PushUnlock, Force, ForceTake, ForcePut, ForceUnlock, Pop, PopTake, PopUnlock, Close, IsClosed, IsEmpty, IsFull, Len, Capacity, Finished}

-- whether none of these bits is set
abbrev pub clear : ℕ → ℕ → Bool
clear w bits = bit_and w bits == 0

module _ {T : Type 0} where
  -- the first action of a call
  abbrev pub start : QueueAsk T → SingleAction T
  start (ask.Push v) = Push v
  start (ask.ForcePush v) = Force v 0
  start ask.Pop = Pop 2
  start ask.Close = Close
  start ask.IsClosed = IsClosed
  start ask.IsEmpty = IsEmpty
  start ask.IsFull = IsFull
  start ask.Len = Len
  start ask.Capacity = Capacity

  abbrev pub marks : SingleAction T → QueueMark → Stepped (SingleAction T) T
  marks a m = record { action = a; mark = m; reply = None }

  abbrev pub stays : SingleAction T → Stepped (SingleAction T) T
  stays a = marks a mark.Nothing

  abbrev pub finishes : QueueReply T → Stepped (SingleAction T) T
  finishes r = record { action = Finished; mark = mark.Nothing; reply = Some r }

  abbrev pub set_state : Contents T → ℕ → Contents T
  set_state c w = record c { state = w }

  abbrev pub unlocked : Contents T → Contents T
  unlocked c = set_state c (bit_and c.state 0xffff_ffff_ffff_fffe)

  abbrev pub push_step : Contents T → T → Contents T × Stepped (SingleAction T) T
  push_step c v =
      if c.state == 0 then (set_state c 3, marks (PushPut v) mark.Append)
      else (
        c,
        if not (clear c.state 4) then finishes (reply.Push (Err (push_error.Closed v)))
            else (if not (clear c.state 2) then finishes (reply.Push (Err (push_error.Full v))) else stays (Push v)),
      )

  abbrev pub force_step : Contents T → T → ℕ → Contents T × Stepped (SingleAction T) T
  force_step c v x =
      if c.state == x then (set_state c 3, if x == 0 then marks (ForcePut v None) mark.Append else marks (ForceTake v) mark.Replace)
      else (
        c,
        if not (clear c.state 4) then finishes (reply.Force (Err (force_error.Closed v)))
            else stays (Force v (if clear c.state 1 then c.state else x)),
      )

  abbrev pub pop_step : Contents T → ℕ → Contents T × Stepped (SingleAction T) T
  pop_step c x =
      if c.state == x then (set_state c (bit_and (bit_or x 1) 0xffff_ffff_ffff_fffd), marks PopTake mark.Take)
      else (
        c,
        if not (clear c.state 2) then stays (Pop (bit_and c.state 0xffff_ffff_ffff_fffe))
            else finishes (reply.Pop (Err (if not (clear c.state 4) then pop_error.Closed else pop_error.Empty))),
      )

  abbrev pub close_step : Contents T → Contents T × Stepped (SingleAction T) T
  close_step c = (
    set_state c (bit_or c.state 4),
    if clear c.state 4 then record { action = Finished; mark = mark.Close; reply = Some (reply.Close true) } else finishes (reply.Close false),
  )

  -- the message goes into the slot, or waits
  abbrev pub put_step : Contents T → T → SingleAction T → SingleAction T → Contents T × Stepped (SingleAction T) T
  put_step c v next again = if can_put c (At 0) then (write_slot c (At 0) (Some v), stays next) else (c, stays again)

  -- the message comes out of the slot, or the call waits
  abbrev pub take_step : Contents T → (T → SingleAction T) → SingleAction T → Contents T × Stepped (SingleAction T) T
  take_step c next again = (write_slot c (At 0) None, elim (slot_at c (At 0)) [ Some v ↦ stays (next v) | None ↦ stays again ])

  -- what a step at this action leaves
  abbrev pub single_step : Contents T → SingleAction T → Contents T × Stepped (SingleAction T) T
  single_step c (Push v) = push_step c v
  single_step c (PushPut v) = put_step c v PushUnlock (PushPut v)
  single_step c PushUnlock = (unlocked c, finishes (reply.Push (Ok tt)))
  single_step c (Force v x) = force_step c v x
  single_step c (ForceTake v) = take_step c (λ d. ForcePut v (Some d)) (ForceTake v)
  single_step c (ForcePut v old) = put_step c v (ForceUnlock old) (ForcePut v old)
  single_step c (ForceUnlock old) = (unlocked c, finishes (reply.Force (Ok old)))
  single_step c (Pop x) = pop_step c x
  single_step c PopTake = take_step c PopUnlock PopTake
  single_step c (PopUnlock v) = (unlocked c, finishes (reply.Pop (Ok v)))
  single_step c Close = close_step c
  single_step c IsClosed = (c, finishes (reply.Flag (not (clear c.state 4))))
  single_step c IsEmpty = (c, finishes (reply.Flag (clear c.state 2)))
  single_step c IsFull = (c, finishes (reply.Flag (not (clear c.state 2))))
  single_step c Len = (c, finishes (reply.Count (if clear c.state 2 then 0 else 1)))
  single_step c Capacity = (c, finishes (reply.Cap (Some 1)))
  single_step c Finished = (c, stays Finished)

  -- ---- the same as operations: what follows each answer, whatever the cells hold

  abbrev pub after_push : T → Result ℕ ℕ → Stepped (SingleAction T) T
  after_push v (Ok w) = marks (PushPut v) mark.Append
  after_push v (Err w) =
      if not (clear w 4) then finishes (reply.Push (Err (push_error.Closed v)))
      else (if not (clear w 2) then finishes (reply.Push (Err (push_error.Full v))) else stays (Push v))

  abbrev pub after_force : T → ℕ → Result ℕ ℕ → Stepped (SingleAction T) T
  after_force v x (Ok w) = if x == 0 then marks (ForcePut v None) mark.Append else marks (ForceTake v) mark.Replace
  after_force v x (Err w) =
      if not (clear w 4) then finishes (reply.Force (Err (force_error.Closed v))) else stays (Force v (if clear w 1 then w else x))

  abbrev pub after_pop : Result ℕ ℕ → Stepped (SingleAction T) T
  after_pop (Ok w) = marks PopTake mark.Take
  after_pop (Err w) =
      if not (clear w 2) then stays (Pop (bit_and w 0xffff_ffff_ffff_fffe))
      else finishes (reply.Pop (Err (if not (clear w 4) then pop_error.Closed else pop_error.Empty)))

  abbrev pub after_close : ℕ → Stepped (SingleAction T) T
  after_close w = if clear w 4 then record { action = Finished; mark = mark.Close; reply = Some (reply.Close true) } else finishes (reply.Close false)

  abbrev pub after_put : SingleAction T → (T → SingleAction T) → Result Unit T → Stepped (SingleAction T) T
  after_put next again (Ok u) = stays next
  after_put next again (Err v) = stays (again v)

  abbrev pub after_take : (T → SingleAction T) → SingleAction T → Option T → Stepped (SingleAction T) T
  after_take next again (Some v) = stays (next v)
  after_take next again None = stays again

  abbrev pub unlocks : QueueReply T → Move T (Stepped (SingleAction T) T)
  unlocks r = keeps_bits State 0xffff_ffff_ffff_fffe (λ w. finishes r)

  abbrev pub single_moves : SingleAction T → Move T (Stepped (SingleAction T) T)
  single_moves (Push v) = exchanges State 0 3 (after_push v)
  single_moves (PushPut v) = puts (At 0) v (after_put PushUnlock PushPut)
  single_moves PushUnlock = unlocks (reply.Push (Ok tt))
  single_moves (Force v x) = exchanges State x 3 (after_force v x)
  single_moves (ForceTake v) = takes (At 0) (after_take (λ d. ForcePut v (Some d)) (ForceTake v))
  single_moves (ForcePut v old) = puts (At 0) v (after_put (ForceUnlock old) (λ w. ForcePut w old))
  single_moves (ForceUnlock old) = unlocks (reply.Force (Ok old))
  single_moves (Pop x) = exchanges State x (bit_and (bit_or x 1) 0xffff_ffff_ffff_fffd) after_pop
  single_moves PopTake = takes (At 0) (after_take PopUnlock PopTake)
  single_moves (PopUnlock v) = unlocks (reply.Pop (Ok v))
  single_moves Close = sets_bits State 4 after_close
  single_moves IsClosed = loads State (λ w. finishes (reply.Flag (not (clear w 4))))
  single_moves IsEmpty = loads State (λ w. finishes (reply.Flag (clear w 2)))
  single_moves IsFull = loads State (λ w. finishes (reply.Flag (not (clear w 2))))
  single_moves Len = loads State (λ w. finishes (reply.Count (if clear w 2 then 0 else 1)))
  single_moves Capacity = rests (finishes (reply.Cap (Some 1)))
  single_moves Finished = rests (stays Finished)

  -- a step at this action, as one operation on any cells
  abbrev pub SingleMakes : {S : Type 0} → (Deed T → S → S → Type 0) → S → SingleAction T → S → Stepped (SingleAction T) T → Type 0
  SingleMakes did s a t r = Makes did (single_moves a) s r t
