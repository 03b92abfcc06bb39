-- The steps of an unbounded queue, as functions of what its words and slots hold. t is a tail word, p a head position.
use Rattle.std.specs.Prelude.{◌≡◌, ℕ, zero, suc, ◌++◌, [], List, option_to_list, ◌+◌, ◌-◌, ◌/◌, ◌%◌, ◌^◌, ◌<◌, ◌⊎◌, nat_le, Bool, true, false, Option, None, Some, Ok, Err, length, slice_index, slice_index_or, if◌then◌else◌, ◌==◌, bit_or}
use Rattle.concurrent_queue.specs.Contents.{Contents, write, block_at, slot_at, write_slot, can_put, spare_of, without_spare, with_retired}
use Rattle.concurrent_queue.specs.machine.BlocksState.{number}
use Rattle.concurrent_queue.specs.machine.BlocksMoves.{answer_as}
use Rattle.concurrent_queue.specs.declared.call.QueueAsk.{QueueAsk}
use Rattle.concurrent_queue.specs.declared.call.QueueAsk.TheVariants as ask
use Rattle.concurrent_queue.specs.declared.call.Stepped.{Stepped}
use Rattle.concurrent_queue.specs.declared.unbounded.action.UnboundedCall.{UnboundedCall}
use Rattle.concurrent_queue.specs.declared.cells.Word.TheVariants as word
use Rattle.concurrent_queue.specs.declared.cells.Slot.{Slot}
use Rattle.concurrent_queue.specs.declared.cells.Slot.TheVariants as slot
use Rattle.concurrent_queue.specs.declared.call.QueueMark.TheVariants as mark
use Rattle.concurrent_queue.specs.declared.call.QueueReply.{QueueReply}
use Rattle.concurrent_queue.specs.declared.call.QueueReply.TheVariants as reply
use Rattle.concurrent_queue.specs.declared.error.PopError.TheVariants as pop_error
use Rattle.concurrent_queue.specs.declared.unbounded.ending.Ending.{Ending}
use Rattle.concurrent_queue.specs.declared.unbounded.ending.Ending.TheVariants as ending
use Rattle.concurrent_queue.specs.declared.unbounded.action.UnboundedAction.{UnboundedAction}
use Rattle.concurrent_queue.specs.declared.unbounded.action.UnboundedAction.TheVariants as act
use Rattle.concurrent_queue.specs.declared.unbounded.action.Progress.{Progress}

abbrev pub Step : Type 0 → Type 0
Step T = Contents T × Progress T

abbrev pub stays : {T : Type 0} → UnboundedAction T → Progress T
stays a = record { action = a; mark = mark.Nothing; ending = None }

abbrev pub finishes : {T : Type 0} → Ending T → Progress T
finishes y = record { action = act.Finished; mark = mark.Nothing; ending = Some y }

abbrev pub pushes_shut : {T : Type 0} → T → Progress T
pushes_shut v = finishes (ending.Closed v)

abbrev pub when_shut : {T : Type 0} → T → Option ℕ → Progress T
when_shut v None = pushes_shut v
when_shut v (Some h) = stays (act.PushReturn v h)

abbrev pub after_tail : {T : Type 0} → T → Option ℕ → ℕ → Progress T
after_tail v h t =
    if t % 2 == 1 then when_shut v h
    else (if nat_le 9223372036854775744 (t / 2) then stays (act.PushShut v h)
    else (if t / 2 % 32 == 31 then stays (act.Push v h) else stays (act.PushLook v t h)))

abbrev pub load_tail : {T : Type 0} → Contents T → T → Option ℕ → Step T
load_tail c v h = (c, after_tail v h c.tail)

abbrev pub give_back : {T : Type 0} → Contents T → T → ℕ → Step T
give_back c v h = (with_retired c h, pushes_shut v)

abbrev pub look_with : {T : Type 0} → T → ℕ → ℕ → Option ℕ → Progress T
look_with v t b (Some h) = stays (act.PushSwap v t b (Some h))
look_with v t b None = if t / 2 % 32 == 30 then stays (act.PushMore v t b) else stays (act.PushSwap v t b None)

abbrev pub look_first : {T : Type 0} → T → ℕ → Option ℕ → Progress T
look_first v t (Some h) = stays (act.PushFirst v t h)
look_first v t None = stays (act.PushMake v t)

abbrev pub after_tail_block : {T : Type 0} → T → ℕ → Option ℕ → ℕ → Progress T
after_tail_block v t h w = if w == 0 then look_first v t h else look_with v t (w - 1) h

abbrev pub look_tail_block : {T : Type 0} → Contents T → T → ℕ → Option ℕ → Step T
look_tail_block c v t h = (c, after_tail_block v t h c.tail_block)

-- a spare section gives a block, or finds no spare one and no memory for a new one, and changes nothing
abbrev pub Obtains : {T : Type 0} → Contents T → T → (ℕ → UnboundedAction T) → Step T → Type 0
Obtains c v next x = ((x ≡ (without_spare c, stays (next (spare_of c)))) × (length (without_spare c).blocks < 2 ^ 64)) ⊎ ((c.spares ≡ []) × (x ≡ (c, finishes (ending.NoMemory v))))

abbrev pub swap_first : {T : Type 0} → Contents T → T → ℕ → ℕ → Step T
swap_first c v t h =
    if c.tail_block == 0 then (record c { tail_block = (h + 1) % 2 ^ 64 }, stays (act.PushStart v t h)) else (c, stays (act.Push v (Some h)))

abbrev pub start_head : {T : Type 0} → Contents T → T → ℕ → ℕ → Step T
start_head c v t b = (record c { head_block = (b + 1) % 2 ^ 64 }, look_with v t b None)

abbrev pub after_swap : {T : Type 0} → T → ℕ → ℕ → Option ℕ → UnboundedAction T
after_swap v t b (Some h) = if t / 2 % 32 == 30 then act.PushTurn v t b h else act.PushPut v t b (Some h)
after_swap v t b None = act.PushPut v t b None

abbrev pub swap_tail : {T : Type 0} → Contents T → T → ℕ → ℕ → Option ℕ → Step T
swap_tail c v t b h =
    if c.tail == t then (record c { tail = (t + 2) % 2 ^ 64 }, record { action = after_swap v t b h; mark = mark.Append; ending = None })
    else (c, stays (act.Push v h))

abbrev pub turn_tail_block : {T : Type 0} → Contents T → T → ℕ → ℕ → ℕ → Step T
turn_tail_block c v t b h = (record c { tail_block = (h + 1) % 2 ^ 64 }, stays (act.PushAdd v t b h))

abbrev pub add_tail : {T : Type 0} → Contents T → T → ℕ → ℕ → ℕ → Step T
add_tail c v t b h = (record c { tail = (c.tail + 2) % 2 ^ 64 }, stays (act.PushLink v t b h))

abbrev pub link_next : {T : Type 0} → Contents T → T → ℕ → ℕ → ℕ → Step T
link_next c v t b h = (write c (word.Next b) ((h + 1) % 2 ^ 64), stays (act.PushPut v t b None))

abbrev pub put_message : {T : Type 0} → Contents T → T → ℕ → ℕ → Option ℕ → Step T
put_message c v t b h =
    if can_put c (slot.In b (t / 2 % 32)) then (write_slot c (slot.In b (t / 2 % 32)) (Some v), stays (act.PushStore t b h)) else (c, stays (act.PushPut v t b h))

abbrev pub after_store : {T : Type 0} → Option ℕ → Progress T
after_store None = finishes ending.Sent
after_store (Some h) = stays (act.PushGive h)

abbrev pub store_written : {T : Type 0} → Contents T → ℕ → ℕ → Option ℕ → Step T
store_written c t b h = (write c (word.Written b (t / 2 % 32)) 1, after_store h)

abbrev pub give_spare : {T : Type 0} → Contents T → ℕ → Step T
give_spare c h = (with_retired c h, finishes ending.Sent)

abbrev pub after_head : {T : Type 0} → ℕ → Progress T
after_head p = if p % 32 == 31 then stays act.Pop else stays (act.PopLook p)

abbrev pub load_head : {T : Type 0} → Contents T → Step T
load_head c = (c, after_head c.head)

abbrev pub look_head_block : {T : Type 0} → Contents T → ℕ → Step T
look_head_block c p = (c, stays (act.PopTail p c.head_block))

abbrev pub after_pop_tail : {T : Type 0} → ℕ → ℕ → ℕ → Progress T
after_pop_tail p b t =
    if number (t / 2) == number p
    then (if t % 2 == 1 then finishes (ending.Replied (reply.Pop (Err pop_error.Closed))) else finishes (ending.Replied (reply.Pop (Err pop_error.Empty))))
    else (if b == 0 then stays act.Pop else stays (act.PopSwap p (b - 1)))

abbrev pub look_tail : {T : Type 0} → Contents T → ℕ → ℕ → Step T
look_tail c p b = (c, after_pop_tail p b c.tail)

abbrev pub after_pop_swap : {T : Type 0} → ℕ → ℕ → UnboundedAction T
after_pop_swap p b = if p % 32 == 30 then act.PopNext p b else act.PopWait p b

abbrev pub swap_head : {T : Type 0} → Contents T → ℕ → ℕ → Step T
swap_head c p b =
    if c.head == p then (record c { head = (p + 1) % 2 ^ 64 }, record { action = after_pop_swap p b; mark = mark.Take; ending = None })
    else (c, stays act.Pop)

abbrev pub after_next : {T : Type 0} → ℕ → ℕ → ℕ → Progress T
after_next p b n = if n == 0 then stays (act.PopNext p b) else stays (act.PopBlock p b n)

abbrev pub load_next : {T : Type 0} → Contents T → ℕ → ℕ → Step T
load_next c p b = (c, after_next p b (block_at c b).next)

abbrev pub store_head_block : {T : Type 0} → Contents T → ℕ → ℕ → ℕ → Step T
store_head_block c p b n = (record c { head_block = n }, stays (act.PopHead p b))

abbrev pub store_head : {T : Type 0} → Contents T → ℕ → ℕ → Step T
store_head c p b = (record c { head = (p + 2) % 2 ^ 64 }, stays (act.PopWait p b))

abbrev pub after_written : {T : Type 0} → ℕ → ℕ → ℕ → Progress T
after_written p b w = if w == 1 then stays (act.PopTake p b) else stays (act.PopWait p b)

abbrev pub wait_written : {T : Type 0} → Contents T → ℕ → ℕ → Step T
wait_written c p b = (c, after_written p b (slice_index (block_at c b).written (p % 32)))

abbrev pub after_take : {T : Type 0} → ℕ → ℕ → Option T → UnboundedAction T
after_take p b None = act.PopTake p b
after_take p b (Some d) = act.PopCount p b d

abbrev pub take_message : {T : Type 0} → Contents T → ℕ → ℕ → Step T
take_message c p b = (write_slot c (slot.In b (p % 32)) None, stays (after_take p b (slot_at c (slot.In b (p % 32)))))

abbrev pub after_read : {T : Type 0} → ℕ → ℕ → T → ℕ → Progress T
after_read p b d k = if k == 30 then stays (act.PopRetire p b d) else finishes (ending.Replied (reply.Pop (Ok d)))

abbrev pub count_read : {T : Type 0} → Contents T → ℕ → ℕ → T → Step T
count_read c p b d = (write c (word.Reads b) (((block_at c b).reads + 1) % 2 ^ 64), after_read p b d (block_at c b).reads)

abbrev pub retire_block : {T : Type 0} → Contents T → ℕ → T → Step T
retire_block c b d = (with_retired c b, finishes (ending.Replied (reply.Pop (Ok d))))

-- a queue whose positions come to their end closes itself, and the push is refused as by a closed one
abbrev pub after_shut : {T : Type 0} → T → Option ℕ → ℕ → Progress T
after_shut v h t = if t % 2 == 1 then when_shut v h else record (when_shut v h) { mark = mark.Close }

abbrev pub shut_tail : {T : Type 0} → Contents T → T → Option ℕ → Step T
shut_tail c v h = (record c { tail = bit_or c.tail 1 }, after_shut v h c.tail)

abbrev pub tells : {T : Type 0} → QueueReply T → Progress T
tells y = finishes (ending.Replied y)

abbrev pub after_close : {T : Type 0} → ℕ → Progress T
after_close t = if t % 2 == 1 then tells (reply.Close false) else record (tells (reply.Close true)) { mark = mark.Close }

abbrev pub close_tail : {T : Type 0} → Contents T → Step T
close_tail c = (record c { tail = bit_or c.tail 1 }, after_close c.tail)

abbrev pub ask_tail : {T : Type 0} → Contents T → Step T
ask_tail c = (c, tells (reply.Flag (c.tail % 2 == 1)))

abbrev pub empty_load_head : {T : Type 0} → Contents T → Step T
empty_load_head c = (c, stays (act.EmptyTail c.head))

abbrev pub empty_load_tail : {T : Type 0} → Contents T → ℕ → Step T
empty_load_tail c p = (c, tells (reply.Flag (number (c.tail / 2) == number p)))

abbrev pub len_load_tail : {T : Type 0} → Contents T → Step T
len_load_tail c = (c, stays (act.LenHead c.tail))

abbrev pub len_load_head : {T : Type 0} → Contents T → ℕ → Step T
len_load_head c t = (c, stays (act.LenTail t c.head))

abbrev pub after_len : {T : Type 0} → ℕ → ℕ → ℕ → Progress T
after_len t p w = if w == t then tells (reply.Count (number (t / 2) - number p)) else stays act.AskLen

abbrev pub len_again : {T : Type 0} → Contents T → ℕ → ℕ → Step T
len_again c t p = (c, after_len t p c.tail)

-- one step of closing or of a question; a finished call stays so
abbrev pub IsQuestionStep : {T : Type 0} → Contents T → UnboundedAction T → Step T → Type 0
IsQuestionStep c act.Close x = x ≡ close_tail c
IsQuestionStep c act.AskClosed x = x ≡ ask_tail c
IsQuestionStep c act.AskEmpty x = x ≡ empty_load_head c
IsQuestionStep c (act.EmptyTail p) x = x ≡ empty_load_tail c p
IsQuestionStep c act.AskFull x = x ≡ (c, tells (reply.Flag false))
IsQuestionStep c act.AskLen x = x ≡ len_load_tail c
IsQuestionStep c (act.LenHead t) x = x ≡ len_load_head c t
IsQuestionStep c (act.LenTail t p) x = x ≡ len_again c t p
IsQuestionStep c act.AskCapacity x = x ≡ (c, tells (reply.Cap None))
IsQuestionStep c _ x = x ≡ (c, stays act.Finished)

abbrev pub IsPopStep : {T : Type 0} → Contents T → UnboundedAction T → Step T → Type 0
IsPopStep c act.Pop x = x ≡ load_head c
IsPopStep c (act.PopLook p) x = x ≡ look_head_block c p
IsPopStep c (act.PopTail p b) x = x ≡ look_tail c p b
IsPopStep c (act.PopSwap p b) x = x ≡ swap_head c p b
IsPopStep c (act.PopNext p b) x = x ≡ load_next c p b
IsPopStep c (act.PopBlock p b n) x = x ≡ store_head_block c p b n
IsPopStep c (act.PopHead p b) x = x ≡ store_head c p b
IsPopStep c (act.PopWait p b) x = x ≡ wait_written c p b
IsPopStep c (act.PopTake p b) x = x ≡ take_message c p b
IsPopStep c (act.PopCount p b d) x = x ≡ count_read c p b d
IsPopStep c (act.PopRetire p b d) x = x ≡ retire_block c b d
IsPopStep c a x = IsQuestionStep c a x

-- one step of a call
abbrev pub IsUnboundedStep : {T : Type 0} → Contents T → UnboundedAction T → Step T → Type 0
IsUnboundedStep c (act.Push v h) x = x ≡ load_tail c v h
IsUnboundedStep c (act.PushShut v h) x = x ≡ shut_tail c v h
IsUnboundedStep c (act.PushReturn v h) x = x ≡ give_back c v h
IsUnboundedStep c (act.PushLook v t h) x = x ≡ look_tail_block c v t h
IsUnboundedStep c (act.PushMake v t) x = Obtains c v (λ h. act.PushFirst v t h) x
IsUnboundedStep c (act.PushFirst v t h) x = x ≡ swap_first c v t h
IsUnboundedStep c (act.PushStart v t b) x = x ≡ start_head c v t b
IsUnboundedStep c (act.PushMore v t b) x = Obtains c v (λ h. act.PushSwap v t b (Some h)) x
IsUnboundedStep c (act.PushSwap v t b h) x = x ≡ swap_tail c v t b h
IsUnboundedStep c (act.PushTurn v t b h) x = x ≡ turn_tail_block c v t b h
IsUnboundedStep c (act.PushAdd v t b h) x = x ≡ add_tail c v t b h
IsUnboundedStep c (act.PushLink v t b h) x = x ≡ link_next c v t b h
IsUnboundedStep c (act.PushPut v t b h) x = x ≡ put_message c v t b h
IsUnboundedStep c (act.PushStore t b h) x = x ≡ store_written c t b h
IsUnboundedStep c (act.PushGive h) x = x ≡ give_spare c h
IsUnboundedStep c a x = IsPopStep c a x

abbrev pub reply_of : {T : Type 0} → Bool → Option (Ending T) → Option (QueueReply T)
reply_of b None = None
reply_of b (Some y) = Some (answer_as b y)

abbrev pub answered : {T : Type 0} → Bool → Progress T → Stepped (UnboundedCall T) T
answered b x = record { action = record { displacing = b; action = x.action }; mark = x.mark; reply = reply_of b x.ending }

-- one step of a call, with what it answers where the step ends it
abbrev pub IsBlocksStep : {T : Type 0} → Contents T → UnboundedCall T → Contents T → Stepped (UnboundedCall T) T → Type 0
IsBlocksStep {T} c a d s = (x : Progress T) × IsUnboundedStep c a.action (d, x) × (s ≡ answered a.displacing x)

-- the first action of a call that asks this
abbrev pub begin : {T : Type 0} → QueueAsk T → UnboundedCall T
begin (ask.Push v) = record { displacing = false; action = act.Push v None }
begin (ask.ForcePush v) = record { displacing = true; action = act.Push v None }
begin ask.Pop = record { displacing = false; action = act.Pop }
begin ask.Close = record { displacing = false; action = act.Close }
begin ask.IsClosed = record { displacing = false; action = act.AskClosed }
begin ask.IsEmpty = record { displacing = false; action = act.AskEmpty }
begin ask.IsFull = record { displacing = false; action = act.AskFull }
begin ask.Len = record { displacing = false; action = act.AskLen }
begin ask.Capacity = record { displacing = false; action = act.AskCapacity }

-- ---- what the words give

-- whether they say that the queue is closed
abbrev pub blocks_closed : {T : Type 0} → Contents T → Bool
blocks_closed c = c.tail % 2 == 1

-- how many messages they say that it holds, and how many it was given
abbrev pub blocks_length : {T : Type 0} → Contents T → ℕ
blocks_length c = number (c.tail / 2) - number c.head

abbrev pub blocks_counted : {T : Type 0} → Contents T → ℕ
blocks_counted c = number (c.tail / 2)

-- the slot of the i-th message: each block has thirty-one, and these are the blocks in the order in which they were used
abbrev pub blocks_slot : {T : Type 0} → List ℕ → Contents T → ℕ → Slot
blocks_slot chain c i = slot.In (slice_index_or chain ((number c.head + i) / 31) 0) ((number c.head + i) % 31)

-- so many messages from this offset of a block on, block after block
unfoldable pub chain_items : {T : Type 0} → Contents T → ℕ → ℕ → ℕ → List T
chain_items c zero b i = []
chain_items c (suc k) b i =
    option_to_list (slot_at c (slot.In b i)) ++ (if i == 30 then chain_items c k ((block_at c b).next - 1) 0 else chain_items c k b (i + 1))

abbrev pub blocks_items : {T : Type 0} → Contents T → List T
blocks_items c = chain_items c (blocks_length c) (c.head_block - 1) (c.head % 32)
