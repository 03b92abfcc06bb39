-- The steps of a ring, as functions of what its words and slots hold. A position is a multiple of a lap plus an index;
-- a lap is twice the mark m.
use Rattle.std.specs.Prelude.{ℕ, ◌+◌, ◌-◌, ◌*◌, ◌/◌, ◌%◌, ◌^◌, ◌&&◌, Bool, true, false, nat_lt, nat_le, Option, None, Some, Ok, Err, slice_index, slice_get, slice_set, if◌then◌else◌, ◌==◌, bit_or}
use lib.Count.{count_leading_zeros}
use Rattle.concurrent_queue.specs.Contents.{Contents, write_slot, slot_at, is_vacant}
use Rattle.concurrent_queue.specs.declared.call.QueueAsk.{QueueAsk}
use Rattle.concurrent_queue.specs.declared.call.QueueAsk.TheVariants as ask
use Rattle.concurrent_queue.specs.declared.call.QueueMark.{QueueMark}
use Rattle.concurrent_queue.specs.declared.call.QueueMark.TheVariants as mark
use Rattle.concurrent_queue.specs.declared.call.QueueReply.{QueueReply}
use Rattle.concurrent_queue.specs.declared.call.QueueReply.TheVariants as reply
use Rattle.concurrent_queue.specs.declared.error.PushError.TheVariants as push_error
use Rattle.concurrent_queue.specs.declared.error.ForcePushError.TheVariants as force_error
use Rattle.concurrent_queue.specs.declared.error.PopError.TheVariants as pop_error
use Rattle.concurrent_queue.specs.declared.bounded.WhenFull.{WhenFull}
use Rattle.concurrent_queue.specs.declared.bounded.WhenFull.TheVariants.{Refuse, Displace}
use Rattle.concurrent_queue.specs.declared.bounded.RingAction.{RingAction}
use Rattle.concurrent_queue.specs.declared.bounded.RingAction.TheVariants as act
use Rattle.concurrent_queue.specs.declared.call.Stepped.{Stepped}
use Rattle.concurrent_queue.specs.declared.cells.Slot.TheVariants.{At}

-- the greatest capacity
abbrev pub cap_of : ℕ → ℕ
cap_of capacity = if nat_lt capacity (2 ^ 58) then capacity else 2 ^ 58

-- the least power of two above the capacity
unfoldable pub ring_mark : ℕ → ℕ
ring_mark cap = 2 ^ (64 - count_leading_zeros 64 cap)

-- the index of a position
abbrev pub index : ℕ → ℕ → ℕ
index m p = p % (2 * m)

-- whether the mark is set in a word
abbrev pub is_marked : ℕ → ℕ → Bool
is_marked m w = nat_le m (w % (2 * m))

-- the position in a word
abbrev pub unmarked : ℕ → ℕ → ℕ
unmarked m w = if is_marked m w then w - m else w

-- how far it is from a position to the next one
abbrev pub stride : ℕ → ℕ → ℕ → ℕ
stride cap m p = if nat_lt (index m p + 1) cap then 1 else 2 * m - index m p

-- the next position, as a word
abbrev pub next_word : ℕ → ℕ → ℕ → ℕ
next_word cap m p = (p + stride cap m p) % 2 ^ 64

-- how many positions there are below p
abbrev pub count_of : ℕ → ℕ → ℕ → ℕ
count_of cap m p = (p / (2 * m) * cap % 2 ^ 64 + index m p) % 2 ^ 64

-- how many there are from h to t
abbrev pub between : ℕ → ℕ → ℕ → ℕ → ℕ
between cap m h t = (count_of cap m t + (2 ^ 64 - count_of cap m h)) % 2 ^ 64

module _ {T : Type 0} where
  abbrev pub stays : RingAction T → Stepped (RingAction T) T
  stays a = record { action = a; mark = mark.Nothing; reply = None }

  abbrev pub marks : RingAction T → QueueMark → Stepped (RingAction T) T
  marks a m = record { action = a; mark = m; reply = None }

  abbrev pub finishes : QueueReply T → Stepped (RingAction T) T
  finishes r = record { action = act.Finished; mark = mark.Nothing; reply = Some r }

  -- the first action of a call
  abbrev pub ring_start : QueueAsk T → RingAction T
  ring_start (ask.Push v) = act.Push Refuse v
  ring_start (ask.ForcePush v) = act.Push Displace v
  ring_start ask.Pop = act.Pop
  ring_start ask.Close = act.Close
  ring_start ask.IsClosed = act.IsClosed
  ring_start ask.IsEmpty = act.IsEmpty
  ring_start ask.IsFull = act.IsFull
  ring_start ask.Len = act.Len
  ring_start ask.Capacity = act.Capacity

  -- the answer of a push to a closed queue, and of one whose message went in beside the others
  abbrev pub shut_reply : WhenFull → T → QueueReply T
  shut_reply Refuse v = reply.Push (Err (push_error.Closed v))
  shut_reply Displace v = reply.Force (Err (force_error.Closed v))

  abbrev pub pushed_reply : WhenFull → QueueReply T
  pushed_reply Refuse = reply.Push (Ok tt)
  pushed_reply Displace = reply.Force (Ok None)

  -- where a push looks next that found a message of the lap before
  abbrev pub behind : WhenFull → T → ℕ → RingAction T
  behind Refuse v h = act.PushHead v h
  behind Displace v h = act.ForceHead v h

  abbrev pub set_tail : Contents T → ℕ → Contents T
  set_tail c w = record c { tail = w }

  abbrev pub set_head : Contents T → ℕ → Contents T
  set_head c w = record c { head = w }

  abbrev pub set_stamp : Contents T → ℕ → ℕ → Contents T
  set_stamp c i w = record c { stamps = slice_set c.stamps i w }

  -- the message goes into its slot, or waits
  abbrev pub put_step : Contents T → ℕ → T → RingAction T → RingAction T → Contents T × Stepped (RingAction T) T
  put_step c i v next again =
      if is_vacant (slice_get c.slots i) then (write_slot c (At i) (Some v), stays next) else (c, stays again)

  -- the message comes out of its slot, or the call waits
  abbrev pub took : Option T → (T → RingAction T) → RingAction T → Stepped (RingAction T) T
  took (Some v) next again = stays (next v)
  took None next again = stays again

  abbrev pub take_step : Contents T → ℕ → (T → RingAction T) → RingAction T → Contents T × Stepped (RingAction T) T
  take_step c i next again = (write_slot c (At i) None, took (slot_at c (At i)) next again)

  abbrev pub push_head : Contents T → T → ℕ → Contents T × Stepped (RingAction T) T
  push_head c v h = (c, if c.head == h then finishes (reply.Push (Err (push_error.Full v))) else stays (act.Push Refuse v))

module _ {T : Type 0} (cap m : ℕ) (c : Contents T) where
  abbrev pub push_load : WhenFull → T → Contents T × Stepped (RingAction T) T
  push_load k v = (
    c,
    if is_marked m c.tail then finishes (shut_reply k v)
        else (if nat_le (2 ^ 64 - 2 * m) c.tail then stays (act.PushShut k v) else stays (act.PushStamp k v c.tail)),
  )

  abbrev pub push_shut : WhenFull → T → Contents T × Stepped (RingAction T) T
  push_shut k v = (
    set_tail c (bit_or c.tail m),
    if is_marked m c.tail then finishes (shut_reply k v)
        else record { action = act.Finished; mark = mark.Close; reply = Some (shut_reply k v) },
  )

  abbrev pub push_look : WhenFull → T → ℕ → Contents T × Stepped (RingAction T) T
  push_look k v t =
      let s = slice_index c.stamps (index m t) in (
        c,
        if s == t then stays (act.PushSwap k v t)
            else (if nat_le (2 * m) t && s == t - 2 * m + 1 then stays (behind k v (t - 2 * m)) else stays (act.Push k v)),
      )

  abbrev pub push_swap : WhenFull → T → ℕ → Contents T × Stepped (RingAction T) T
  push_swap k v t =
      if c.tail == t then (set_tail c (next_word cap m t), marks (act.PushPut k v t) mark.Append) else (c, stays (act.Push k v))

  abbrev pub push_put : WhenFull → T → ℕ → Contents T × Stepped (RingAction T) T
  push_put k v t = put_step c (index m t) v (act.PushStore k t) (act.PushPut k v t)

  abbrev pub push_store : WhenFull → ℕ → Contents T × Stepped (RingAction T) T
  push_store k t = (set_stamp c (index m t) ((t + 1) % 2 ^ 64), finishes (pushed_reply k))

  abbrev pub force_head : T → ℕ → Contents T × Stepped (RingAction T) T
  force_head v h =
      if c.head == h then (set_head c (next_word cap m h), marks (act.ForceAdd v h) mark.TakeDisplaced) else (c, stays (act.Push Displace v))

  abbrev pub force_add : T → ℕ → Contents T × Stepped (RingAction T) T
  force_add v h = (set_tail c ((c.tail + stride cap m h) % 2 ^ 64), marks (act.ForceTake v h) mark.Append)

  abbrev pub force_take : T → ℕ → Contents T × Stepped (RingAction T) T
  force_take v h = take_step c (index m h) (λ d. act.ForcePut v h d) (act.ForceTake v h)

  abbrev pub force_put : T → ℕ → T → Contents T × Stepped (RingAction T) T
  force_put v h d = put_step c (index m h) v (act.ForceStore h d) (act.ForcePut v h d)

  abbrev pub force_store : ℕ → T → Contents T × Stepped (RingAction T) T
  force_store h d = (set_stamp c (index m h) ((h + (2 * m + 1)) % 2 ^ 64), finishes (reply.Force (Ok (Some d))))

  abbrev pub pop_load : Contents T × Stepped (RingAction T) T
  pop_load = (c, stays (act.PopStamp c.head))

  abbrev pub pop_look : ℕ → Contents T × Stepped (RingAction T) T
  pop_look h =
      let s = slice_index c.stamps (index m h) in
      (c, if s == (h + 1) % 2 ^ 64 then stays (act.PopSwap h) else (if s == h then stays (act.PopTail h) else stays act.Pop))

  abbrev pub pop_swap : ℕ → Contents T × Stepped (RingAction T) T
  pop_swap h =
      if c.head == h then (set_head c (next_word cap m h), marks (act.PopTake h) mark.Take) else (c, stays act.Pop)

  abbrev pub pop_tail : ℕ → Contents T × Stepped (RingAction T) T
  pop_tail h = (
    c,
    if unmarked m c.tail == h then finishes (reply.Pop (Err (if is_marked m c.tail then pop_error.Closed else pop_error.Empty)))
        else stays act.Pop,
  )

  abbrev pub pop_take : ℕ → Contents T × Stepped (RingAction T) T
  pop_take h = take_step c (index m h) (λ d. act.PopStore h d) (act.PopTake h)

  abbrev pub pop_store : ℕ → T → Contents T × Stepped (RingAction T) T
  pop_store h v = (set_stamp c (index m h) ((h + 2 * m) % 2 ^ 64), finishes (reply.Pop (Ok v)))

  abbrev pub close_step : Contents T × Stepped (RingAction T) T
  close_step = (
    set_tail c (bit_or c.tail m),
    if is_marked m c.tail then finishes (reply.Close false)
        else record { action = act.Finished; mark = mark.Close; reply = Some (reply.Close true) },
  )

  abbrev pub ask_is_closed : Contents T × Stepped (RingAction T) T
  ask_is_closed = (c, finishes (reply.Flag (is_marked m c.tail)))

  abbrev pub empty_load : Contents T × Stepped (RingAction T) T
  empty_load = (c, stays (act.IsEmptyTail c.head))

  abbrev pub empty_look : ℕ → Contents T × Stepped (RingAction T) T
  empty_look h = (c, finishes (reply.Flag (unmarked m c.tail == h)))

  abbrev pub full_load : Contents T × Stepped (RingAction T) T
  full_load = (c, stays (act.IsFullHead (unmarked m c.tail)))

  abbrev pub full_look : ℕ → Contents T × Stepped (RingAction T) T
  full_look t = (c, finishes (reply.Flag (nat_le (2 * m) t && c.head == t - 2 * m)))

  abbrev pub len_load : Contents T × Stepped (RingAction T) T
  len_load = (c, stays (act.LenHead (unmarked m c.tail) (is_marked m c.tail)))

  abbrev pub len_look : ℕ → Bool → Contents T × Stepped (RingAction T) T
  len_look t b = (c, stays (act.LenTail t b c.head))

  abbrev pub len_again : ℕ → Bool → ℕ → Contents T × Stepped (RingAction T) T
  len_again t b h =
      (c, if c.tail == (if b then (t + m) % 2 ^ 64 else t) then finishes (reply.Count (between cap m h t)) else stays act.Len)

  -- one step of closing or of a question; a finished call stays so
  abbrev pub ring_question_step : RingAction T → Contents T × Stepped (RingAction T) T
  ring_question_step act.Close = close_step
  ring_question_step act.IsClosed = ask_is_closed
  ring_question_step act.IsEmpty = empty_load
  ring_question_step (act.IsEmptyTail h) = empty_look h
  ring_question_step act.IsFull = full_load
  ring_question_step (act.IsFullHead t) = full_look t
  ring_question_step act.Len = len_load
  ring_question_step (act.LenHead t b) = len_look t b
  ring_question_step (act.LenTail t b h) = len_again t b h
  ring_question_step act.Capacity = (c, finishes (reply.Cap (Some cap)))
  ring_question_step _ = (c, stays act.Finished)

  -- one step of a call
  abbrev pub ring_step : RingAction T → Contents T × Stepped (RingAction T) T
  ring_step (act.Push k v) = push_load k v
  ring_step (act.PushShut k v) = push_shut k v
  ring_step (act.PushStamp k v t) = push_look k v t
  ring_step (act.PushSwap k v t) = push_swap k v t
  ring_step (act.PushPut k v t) = push_put k v t
  ring_step (act.PushStore k t) = push_store k t
  ring_step (act.PushHead v h) = push_head c v h
  ring_step (act.ForceHead v h) = force_head v h
  ring_step (act.ForceAdd v h) = force_add v h
  ring_step (act.ForceTake v h) = force_take v h
  ring_step (act.ForcePut v h d) = force_put v h d
  ring_step (act.ForceStore h d) = force_store h d
  ring_step act.Pop = pop_load
  ring_step (act.PopStamp h) = pop_look h
  ring_step (act.PopSwap h) = pop_swap h
  ring_step (act.PopTail h) = pop_tail h
  ring_step (act.PopTake h) = pop_take h
  ring_step (act.PopStore h v) = pop_store h v
  ring_step a = ring_question_step a
