-- How many steps a call of an unbounded queue still makes at most, if these are the next ones: by what its cells hold, and by
-- the numbers of its items. A call that goes by a word which is not the queue's any more has one round to make again.
use Rattle.std.specs.Prelude.{◌≡◌, ℕ, ◌+◌, Bool, true, false, None, Some, if◌then◌else◌, ◌==◌, ◌||◌, not}
use Rattle.concurrent_queue.specs.Contents.{Contents}
use Rattle.concurrent_queue.specs.machine.BlocksState.{Blocks, Duty, keep, owed, tail_word}
use Rattle.concurrent_queue.specs.machine.BlocksCalls.{Act, push, push_return, push_look, push_make, push_first, push_start, push_more, push_swap, push_turn, push_add, push_link, push_put, push_store, push_give, pop, pop_look, pop_tail, pop_swap, pop_next, pop_block, pop_head, pop_wait, pop_take, pop_count, pop_retire, close, ask_closed, ask_empty, empty_tail, ask_full, ask_len, len_head, len_tail, ask_capacity, owes}
use Rattle.concurrent_queue.specs.machine.BlocksDenotes.{act_by}
use Rattle.concurrent_queue.specs.declared.unbounded.action.UnboundedAction.{UnboundedAction}
use Rattle.concurrent_queue.specs.declared.unbounded.action.UnboundedCall.{UnboundedCall}

abbrev pub late : Bool → ℕ
late b = if b then 16 else 0

-- what has changed since a call looked: whether the tail or the head that it read has moved on, or the tail's word is another;
-- and whether a first block is there by now, at the tail and at the head
pub record Changes : Type 0 where
  pub tail : ℕ → Bool
  pub head : ℕ → Bool
  pub word : ℕ → Bool
  pub tail_block : Bool
  pub head_block : Bool

abbrev pub question_steps_left : {T : Type 0} → Changes → Act T → ℕ
question_steps_left x close = 1
question_steps_left x ask_closed = 1
question_steps_left x ask_empty = 2
question_steps_left x (empty_tail n) = 1
question_steps_left x ask_full = 1
question_steps_left x ask_len = 3
question_steps_left x (len_head t) = 2 + late (x.word t)
question_steps_left x (len_tail t h) = 1 + late (x.word t)
question_steps_left x ask_capacity = 1
question_steps_left x _ = 0

abbrev pub pop_steps_left : {T : Type 0} → Changes → Act T → ℕ
pop_steps_left x pop = 13
pop_steps_left x (pop_look n) = 12 + late (x.head n)
pop_steps_left x (pop_tail n None) = 11 + late (x.head n || x.head_block)
pop_steps_left x (pop_tail n (Some b)) = 11 + late (x.head n)
pop_steps_left x (pop_swap n b) = 10 + late (x.head n)
pop_steps_left x (pop_next n b) = 7
pop_steps_left x (pop_block n b c) = 6
pop_steps_left x (pop_head n b) = 5
pop_steps_left x (pop_wait n b) = 4
pop_steps_left x (pop_take n b) = 3
pop_steps_left x (pop_count n b d) = 2
pop_steps_left x (pop_retire n b d) = 1
pop_steps_left x a = question_steps_left x a

abbrev pub steps_left : {T : Type 0} → Changes → Act T → ℕ
steps_left x (push v h) = 13
steps_left x (push_return v h) = 1
steps_left x (push_look v n h) = 12 + late (x.tail n)
steps_left x (push_make v n) = 11 + late (x.tail n || x.tail_block)
steps_left x (push_first v n h) = 10 + late (x.tail n || x.tail_block)
steps_left x (push_start v n b) = 9 + late (x.tail n)
steps_left x (push_more v n b) = 8 + late (x.tail n)
steps_left x (push_swap v n b h) = 7 + late (x.tail n)
steps_left x (push_turn v n b h) = 6
steps_left x (push_add v n b h) = 5
steps_left x (push_link v n b h) = 4
steps_left x (push_put v n b h) = 3
steps_left x (push_store n b h) = 2
steps_left x (push_give h) = 1
steps_left x a = pop_steps_left x a

-- ---- by the numbers

abbrev pub tail_moved : {T : Type 0} → Blocks T → ℕ → Bool
tail_moved r n = not (r.tail == n) || r.closed || r.tail_turns

abbrev pub head_moved : {T : Type 0} → Blocks T → ℕ → Bool
head_moved r n = not (r.head == n) || r.head_turns

abbrev pub left : {T : Type 0} → Blocks T → Act T → ℕ
left r a =
    steps_left (record {
      tail = λ n. tail_moved r n;
      head = λ n. head_moved r n;
      word = λ t. not (tail_word r == t);
      tail_block = not (r.last == 0);
      head_block = not (r.first == 0);
    }) a

-- ---- by the words

abbrev pub unbounded_rank : {T : Type 0} → Contents T → UnboundedAction T → ℕ
unbounded_rank c a =
    steps_left (record {
      tail = λ t. not (c.tail == t);
      head = λ p. not (c.head == p);
      word = λ t. not (c.tail == t);
      tail_block = not (c.tail_block == 0);
      head_block = not (c.head_block == 0);
    }) (act_by (λ t. t) (λ p. p) a)

abbrev pub blocks_rank : {T : Type 0} → Contents T → UnboundedCall T → ℕ
blocks_rank c a = unbounded_rank c a.action

-- ---- what keeps a call from coming nearer

abbrev pub is_keep : Duty → Bool
is_keep (keep b) = true
is_keep _ = false

-- no other call under way owes anything but a block that it holds: none has a mark, and none is about to store the first head_block
abbrev pub Quiet : {T : Type 0} → Blocks T → Act T → Type 0
Quiet r a = (d : Duty) → is_keep d ≡ false → owed r d ≡ owes a d
