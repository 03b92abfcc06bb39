-- The steps of a ring as operations, with what follows each answer, whatever the cells hold.
use Rattle.std.specs.Prelude.{ℕ, ◌+◌, ◌-◌, ◌*◌, ◌%◌, ◌^◌, ◌&&◌, true, false, nat_le, Option, None, Some, Result, Ok, Err, if◌then◌else◌, ◌==◌}
use Rattle.concurrent_queue.specs.Deeds.{Deed, Move, loads, stores, exchanges, adds, sets_bits, puts, takes, rests, Makes}
use Rattle.concurrent_queue.specs.machine.RingWords.{index, is_marked, unmarked, stride, next_word, between, stays, marks, finishes, shut_reply, pushed_reply, behind}
use Rattle.concurrent_queue.specs.declared.call.QueueMark.TheVariants as mark
use Rattle.concurrent_queue.specs.declared.call.QueueReply.TheVariants as reply
use Rattle.concurrent_queue.specs.declared.error.PushError.TheVariants as push_error
use Rattle.concurrent_queue.specs.declared.error.PopError.TheVariants as pop_error
use Rattle.concurrent_queue.specs.declared.bounded.WhenFull.{WhenFull}
use Rattle.concurrent_queue.specs.declared.bounded.WhenFull.TheVariants.{Refuse, Displace}
use Rattle.concurrent_queue.specs.declared.bounded.RingAction.{RingAction}
use Rattle.concurrent_queue.specs.declared.bounded.RingAction.TheVariants as act
use Rattle.concurrent_queue.specs.declared.call.Stepped.{Stepped}
use Rattle.concurrent_queue.specs.declared.cells.Slot.TheVariants.{At}
use Rattle.concurrent_queue.specs.declared.cells.Word.TheVariants.{Head, Tail, Stamp}

module _ {T : Type 0} where
  -- a loaded tail leads a push on, an exchange is won or lost, a slot is filled or emptied or the call waits
  abbrev pub won : Stepped (RingAction T) T → Stepped (RingAction T) T → Result ℕ ℕ → Stepped (RingAction T) T
  won on back (Ok w) = on
  won on back (Err w) = back

  abbrev pub filled : RingAction T → (T → RingAction T) → Result Unit T → Stepped (RingAction T) T
  filled next again (Ok u) = stays next
  filled next again (Err v) = stays (again v)

  abbrev pub emptied : (T → RingAction T) → RingAction T → Option T → Stepped (RingAction T) T
  emptied next again (Some v) = stays (next v)
  emptied next again None = stays again

module _ {T : Type 0} (cap m : ℕ) where
  abbrev pub after_tail : WhenFull → T → ℕ → Stepped (RingAction T) T
  after_tail k v t =
      if is_marked m t then finishes (shut_reply k v) else (if nat_le (2 ^ 64 - 2 * m) t then stays (act.PushShut k v) else stays (act.PushStamp k v t))

  abbrev pub after_shut : WhenFull → T → ℕ → Stepped (RingAction T) T
  after_shut k v t = if is_marked m t then finishes (shut_reply k v) else record { action = act.Finished; mark = mark.Close; reply = Some (shut_reply k v) }

  abbrev pub after_stamp : WhenFull → T → ℕ → ℕ → Stepped (RingAction T) T
  after_stamp k v t s =
      if s == t then stays (act.PushSwap k v t)
      else (if nat_le (2 * m) t && s == t - 2 * m + 1 then stays (behind k v (t - 2 * m)) else stays (act.Push k v))

  abbrev pub after_look : ℕ → ℕ → Stepped (RingAction T) T
  after_look h s = if s == (h + 1) % 2 ^ 64 then stays (act.PopSwap h) else (if s == h then stays (act.PopTail h) else stays act.Pop)

  abbrev pub after_pop_tail : ℕ → ℕ → Stepped (RingAction T) T
  after_pop_tail h t =
      if unmarked m t == h then finishes (reply.Pop (Err (if is_marked m t then pop_error.Closed else pop_error.Empty))) else stays act.Pop

  abbrev pub after_close : ℕ → Stepped (RingAction T) T
  after_close t = if is_marked m t then finishes (reply.Close false) else record { action = act.Finished; mark = mark.Close; reply = Some (reply.Close true) }

  abbrev pub ring_question_moves : RingAction T → Move T (Stepped (RingAction T) T)
  ring_question_moves act.Close = sets_bits Tail m after_close
  ring_question_moves act.IsClosed = loads Tail (λ t. finishes (reply.Flag (is_marked m t)))
  ring_question_moves act.IsEmpty = loads Head (λ h. stays (act.IsEmptyTail h))
  ring_question_moves (act.IsEmptyTail h) = loads Tail (λ t. finishes (reply.Flag (unmarked m t == h)))
  ring_question_moves act.IsFull = loads Tail (λ t. stays (act.IsFullHead (unmarked m t)))
  ring_question_moves (act.IsFullHead t) = loads Head (λ h. finishes (reply.Flag (nat_le (2 * m) t && h == t - 2 * m)))
  ring_question_moves act.Len = loads Tail (λ t. stays (act.LenHead (unmarked m t) (is_marked m t)))
  ring_question_moves (act.LenHead t b) = loads Head (λ h. stays (act.LenTail t b h))
  ring_question_moves (act.LenTail t b h) = loads Tail (λ w. if w == (if b then (t + m) % 2 ^ 64 else t) then finishes (reply.Count (between cap m h t)) else stays act.Len)
  ring_question_moves act.Capacity = rests (finishes (reply.Cap (Some cap)))
  ring_question_moves _ = rests (stays act.Finished)

  abbrev pub ring_moves : RingAction T → Move T (Stepped (RingAction T) T)
  ring_moves (act.Push k v) = loads Tail (after_tail k v)
  ring_moves (act.PushShut k v) = sets_bits Tail m (after_shut k v)
  ring_moves (act.PushStamp k v t) = loads (Stamp (index m t)) (after_stamp k v t)
  ring_moves (act.PushSwap k v t) = exchanges Tail t (next_word cap m t) (won (marks (act.PushPut k v t) mark.Append) (stays (act.Push k v)))
  ring_moves (act.PushPut k v t) = puts (At (index m t)) v (filled (act.PushStore k t) (λ w. act.PushPut k w t))
  ring_moves (act.PushStore k t) = stores (Stamp (index m t)) ((t + 1) % 2 ^ 64) (finishes (pushed_reply k))
  ring_moves (act.PushHead v h) = loads Head (λ w. if w == h then finishes (reply.Push (Err (push_error.Full v))) else stays (act.Push Refuse v))
  ring_moves (act.ForceHead v h) = exchanges Head h (next_word cap m h) (won (marks (act.ForceAdd v h) mark.TakeDisplaced) (stays (act.Push Displace v)))
  ring_moves (act.ForceAdd v h) = adds Tail (stride cap m h) (λ w. marks (act.ForceTake v h) mark.Append)
  ring_moves (act.ForceTake v h) = takes (At (index m h)) (emptied (λ d. act.ForcePut v h d) (act.ForceTake v h))
  ring_moves (act.ForcePut v h d) = puts (At (index m h)) v (filled (act.ForceStore h d) (λ w. act.ForcePut w h d))
  ring_moves (act.ForceStore h d) = stores (Stamp (index m h)) ((h + (2 * m + 1)) % 2 ^ 64) (finishes (reply.Force (Ok (Some d))))
  ring_moves act.Pop = loads Head (λ h. stays (act.PopStamp h))
  ring_moves (act.PopStamp h) = loads (Stamp (index m h)) (after_look h)
  ring_moves (act.PopSwap h) = exchanges Head h (next_word cap m h) (won (marks (act.PopTake h) mark.Take) (stays act.Pop))
  ring_moves (act.PopTail h) = loads Tail (after_pop_tail h)
  ring_moves (act.PopTake h) = takes (At (index m h)) (emptied (λ d. act.PopStore h d) (act.PopTake h))
  ring_moves (act.PopStore h v) = stores (Stamp (index m h)) ((h + 2 * m) % 2 ^ 64) (finishes (reply.Pop (Ok v)))
  ring_moves a = ring_question_moves a

  -- a step at this action, as one operation on any cells
  abbrev pub RingMakes : {S : Type 0} → (Deed T → S → S → Type 0) → S → RingAction T → S → Stepped (RingAction T) T → Type 0
  RingMakes did s a t r = Makes did (ring_moves a) s r t
