-- The steps of an unbounded queue as operations, with what follows each answer, whatever the cells hold. t is a tail word, p a head position.
use Rattle.std.specs.Prelude.{◌≡◌, ℕ, ◌+◌, ◌/◌, ◌%◌, ◌^◌, ◌==◌, false, None, Some, Result, Ok, Err}
use Rattle.concurrent_queue.specs.Deeds.{Deed, Move, loads, stores, exchanges, adds, sets_bits, puts, takes, spares, retires, rests, Makes}
use Rattle.concurrent_queue.specs.machine.BlocksState.{number}
use Rattle.concurrent_queue.specs.machine.BlocksWords.{stays, finishes, pushes_shut, after_tail, after_shut, after_tail_block, look_with, after_swap, after_store, after_head, after_pop_tail, after_pop_swap, after_next, after_written, after_take, after_read, after_close, after_len, tells, answered}
use Rattle.concurrent_queue.specs.declared.call.QueueMark.{QueueMark}
use Rattle.concurrent_queue.specs.declared.call.QueueMark.TheVariants as mark
use Rattle.concurrent_queue.specs.declared.call.QueueReply.TheVariants as reply
use Rattle.concurrent_queue.specs.declared.call.Stepped.{Stepped}
use Rattle.concurrent_queue.specs.declared.cells.Slot.TheVariants.{In}
use Rattle.concurrent_queue.specs.declared.cells.Word.TheVariants.{Head, Tail, HeadBlock, TailBlock, Next, Reads, Written}
use Rattle.concurrent_queue.specs.declared.error.NoMemory.{NoMemory}
use Rattle.concurrent_queue.specs.declared.unbounded.action.Progress.{Progress}
use Rattle.concurrent_queue.specs.declared.unbounded.action.UnboundedAction.{UnboundedAction}
use Rattle.concurrent_queue.specs.declared.unbounded.action.UnboundedAction.TheVariants as act
use Rattle.concurrent_queue.specs.declared.unbounded.action.UnboundedCall.{UnboundedCall}
use Rattle.concurrent_queue.specs.declared.unbounded.ending.Ending.TheVariants as ending

module _ {T : Type 0} where
  -- an exchange is won or lost, a block is got or there is no memory for one, a slot is filled or the call waits
  abbrev pub won : UnboundedAction T → QueueMark → UnboundedAction T → Result ℕ ℕ → Progress T
  won next k back (Ok w) = record { action = next; mark = k; ending = None }
  won next k back (Err w) = stays back

  abbrev pub obtained : T → (ℕ → UnboundedAction T) → Result ℕ NoMemory → Progress T
  obtained v next (Ok h) = stays (next h)
  obtained v next (Err e) = finishes (ending.NoMemory v)

  abbrev pub filled : UnboundedAction T → (T → UnboundedAction T) → Result Unit T → Progress T
  filled next again (Ok u) = stays next
  filled next again (Err v) = stays (again v)

  abbrev pub blocks_question_moves : UnboundedAction T → Move T (Progress T)
  blocks_question_moves act.Close = sets_bits Tail 1 after_close
  blocks_question_moves act.AskClosed = loads Tail (λ t. tells (reply.Flag (t % 2 == 1)))
  blocks_question_moves act.AskEmpty = loads Head (λ p. stays (act.EmptyTail p))
  blocks_question_moves (act.EmptyTail p) = loads Tail (λ t. tells (reply.Flag (number (t / 2) == number p)))
  blocks_question_moves act.AskFull = rests (tells (reply.Flag false))
  blocks_question_moves act.AskLen = loads Tail (λ t. stays (act.LenHead t))
  blocks_question_moves (act.LenHead t) = loads Head (λ p. stays (act.LenTail t p))
  blocks_question_moves (act.LenTail t p) = loads Tail (after_len t p)
  blocks_question_moves act.AskCapacity = rests (tells (reply.Cap None))
  blocks_question_moves _ = rests (stays act.Finished)

  abbrev pub blocks_pop_moves : UnboundedAction T → Move T (Progress T)
  blocks_pop_moves act.Pop = loads Head after_head
  blocks_pop_moves (act.PopLook p) = loads HeadBlock (λ b. stays (act.PopTail p b))
  blocks_pop_moves (act.PopTail p b) = loads Tail (after_pop_tail p b)
  blocks_pop_moves (act.PopSwap p b) = exchanges Head p ((p + 1) % 2 ^ 64) (won (after_pop_swap p b) mark.Take act.Pop)
  blocks_pop_moves (act.PopNext p b) = loads (Next b) (after_next p b)
  blocks_pop_moves (act.PopBlock p b n) = stores HeadBlock n (stays (act.PopHead p b))
  blocks_pop_moves (act.PopHead p b) = stores Head ((p + 2) % 2 ^ 64) (stays (act.PopWait p b))
  blocks_pop_moves (act.PopWait p b) = loads (Written b (p % 32)) (after_written p b)
  blocks_pop_moves (act.PopTake p b) = takes (In b (p % 32)) (λ o. stays (after_take p b o))
  blocks_pop_moves (act.PopCount p b d) = adds (Reads b) 1 (after_read p b d)
  blocks_pop_moves (act.PopRetire p b d) = retires b (tells (reply.Pop (Ok d)))
  blocks_pop_moves a = blocks_question_moves a

  abbrev pub blocks_moves : UnboundedAction T → Move T (Progress T)
  blocks_moves (act.Push v h) = loads Tail (after_tail v h)
  blocks_moves (act.PushShut v h) = sets_bits Tail 1 (after_shut v h)
  blocks_moves (act.PushReturn v h) = retires h (pushes_shut v)
  blocks_moves (act.PushLook v t h) = loads TailBlock (after_tail_block v t h)
  blocks_moves (act.PushMake v t) = spares (obtained v (λ h. act.PushFirst v t h))
  blocks_moves (act.PushFirst v t h) = exchanges TailBlock 0 ((h + 1) % 2 ^ 64) (won (act.PushStart v t h) mark.Nothing (act.Push v (Some h)))
  blocks_moves (act.PushStart v t b) = stores HeadBlock ((b + 1) % 2 ^ 64) (look_with v t b None)
  blocks_moves (act.PushMore v t b) = spares (obtained v (λ h. act.PushSwap v t b (Some h)))
  blocks_moves (act.PushSwap v t b h) = exchanges Tail t ((t + 2) % 2 ^ 64) (won (after_swap v t b h) mark.Append (act.Push v h))
  blocks_moves (act.PushTurn v t b h) = stores TailBlock ((h + 1) % 2 ^ 64) (stays (act.PushAdd v t b h))
  blocks_moves (act.PushAdd v t b h) = adds Tail 2 (λ w. stays (act.PushLink v t b h))
  blocks_moves (act.PushLink v t b h) = stores (Next b) ((h + 1) % 2 ^ 64) (stays (act.PushPut v t b None))
  blocks_moves (act.PushPut v t b h) = puts (In b (t / 2 % 32)) v (filled (act.PushStore t b h) (λ w. act.PushPut w t b h))
  blocks_moves (act.PushStore t b h) = stores (Written b (t / 2 % 32)) 1 (after_store h)
  blocks_moves (act.PushGive h) = retires h (finishes ending.Sent)
  blocks_moves a = blocks_pop_moves a

module _ {T S : Type 0} (did : Deed T → S → S → Type 0) where
  -- a step at this action, as one operation on any cells
  abbrev pub ProgressMakes : S → UnboundedAction T → S → Progress T → Type 0
  ProgressMakes s a t p = Makes did (blocks_moves a) s p t

  -- a step of a call likewise, with what it answers where the step ends it
  abbrev pub BlocksMakes : S → UnboundedCall T → S → Stepped (UnboundedCall T) T → Type 0
  BlocksMakes s call t r = (p : Progress T) × ProgressMakes s call.action t p × (r ≡ answered call.displacing p)

  -- one of a call that displaces nothing
  abbrev pub ActionMakes : S → UnboundedAction T → S → Stepped (UnboundedAction T) T → Type 0
  ActionMakes s a t r =
      BlocksMakes s (record { displacing = false; action = a }) t (record { action = record { displacing = false; action = r.action }; mark = r.mark; reply = r.reply })
