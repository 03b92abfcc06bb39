-- How many steps a call of a ring still needs at most, if the others are quiet. A call whose word has moved on since
-- it read it needs at most one more try.
use Rattle.std.specs.Prelude.{ℕ, ◌+◌, ◌%◌, ◌^◌, ◌==◌, Bool, if◌then◌else◌}
use Rattle.concurrent_queue.specs.Contents.{Contents}
use Rattle.concurrent_queue.specs.machine.RingWords.{unmarked}
use Rattle.concurrent_queue.specs.declared.bounded.RingAction.{RingAction}
use Rattle.concurrent_queue.specs.declared.bounded.RingAction.TheVariants as act

module _ {T : Type 0} where
  -- whether the tail still is the word that was read
  abbrev pub rests_at : ℕ → Contents T → ℕ → Bool → Bool
  rests_at m c t b = c.tail == (if b then (t + m) % 2 ^ 64 else t)

  -- closing and the questions
  abbrev pub ring_question_rank : ℕ → Contents T → RingAction T → ℕ
  ring_question_rank m c act.Close = 1
  ring_question_rank m c act.IsClosed = 1
  ring_question_rank m c act.IsEmpty = 2
  ring_question_rank m c (act.IsEmptyTail h) = 1
  ring_question_rank m c act.IsFull = 2
  ring_question_rank m c (act.IsFullHead t) = 1
  ring_question_rank m c act.Len = 3
  ring_question_rank m c (act.LenHead t b) = if rests_at m c t b then 2 else 6
  ring_question_rank m c (act.LenTail t b h) = if rests_at m c t b then 1 else 5
  ring_question_rank m c act.Capacity = 1
  ring_question_rank m c _ = 1

  abbrev pub ring_rank : ℕ → Contents T → RingAction T → ℕ
  ring_rank m c (act.Push k v) = 7
  ring_rank m c (act.PushShut k v) = 1
  ring_rank m c (act.PushStamp k v t) = if c.tail == t then 6 else 14
  ring_rank m c (act.PushSwap k v t) = if c.tail == t then 3 else 11
  ring_rank m c (act.PushPut k v t) = 2
  ring_rank m c (act.PushStore k t) = 1
  ring_rank m c (act.PushHead v h) = if c.head == h then 1 else 9
  ring_rank m c (act.ForceHead v h) = if c.head == h then 5 else 13
  ring_rank m c (act.ForceAdd v h) = 4
  ring_rank m c (act.ForceTake v h) = 3
  ring_rank m c (act.ForcePut v h d) = 2
  ring_rank m c (act.ForceStore h d) = 1
  ring_rank m c act.Pop = 5
  ring_rank m c (act.PopStamp h) = if c.head == h then 4 else 10
  ring_rank m c (act.PopSwap h) = if c.head == h then 3 else 9
  ring_rank m c (act.PopTail h) = if unmarked m c.tail == h then 1 else 7
  ring_rank m c (act.PopTake h) = 2
  ring_rank m c (act.PopStore h v) = 1
  ring_rank m c a = ring_question_rank m c a
