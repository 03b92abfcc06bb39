-- The calls of an unbounded queue by the numbers of its items, and what each knows and owes. b is a block's number, h that of a held block.
use Rattle.std.specs.Prelude.{◌≡◌, ℕ, ◌+◌, ◌/◌, ◌%◌, ◌<◌, ◌≤◌, ◌⊎◌, Bool, true, false, Option, None, Some, slice_get, if◌then◌else◌, ◌==◌}
use Rattle.concurrent_queue.specs.machine.BlocksState.{Blocks, held, number, Duty, fill, take, count, retire, link, turn_tail, turn_head, start, keep}
use Rattle.concurrent_queue.specs.Queue.{Phase, trying, appended, taken, read, measured}
use Rattle.concurrent_queue.specs.declared.call.QueueAsk.{QueueAsk}
use Rattle.concurrent_queue.specs.declared.call.QueueAsk.TheVariants as ask

pub data Act (T : Type 0) : Type 0 where
  push : T → Option ℕ → Act T
  push_return push_make : T → ℕ → Act T
  push_look : T → ℕ → Option ℕ → Act T
  push_first push_start push_more : T → ℕ → ℕ → Act T
  push_swap push_put : T → ℕ → ℕ → Option ℕ → Act T
  push_turn push_add push_link : T → ℕ → ℕ → ℕ → Act T
  push_store : ℕ → ℕ → Option ℕ → Act T
  push_give pop_look empty_tail len_head : ℕ → Act T
  pop close ask_closed ask_empty ask_full ask_len ask_capacity finished : Act T
  pop_tail : ℕ → Option ℕ → Act T
  pop_swap pop_next pop_head pop_wait pop_take len_tail : ℕ → ℕ → Act T
  pop_block : ℕ → ℕ → ℕ → Act T
  pop_count pop_retire : ℕ → ℕ → T → Act T

-- the last place of a block: the winner of it turns the page
abbrev pub is_edge : ℕ → Bool
is_edge n = n % 31 == 30

-- the held block, if any, is held
abbrev pub Holds : {T : Type 0} → Blocks T → Option ℕ → Type 0
Holds r None = Unit {0}
Holds r (Some h) = r.spot h ≡ held

abbrev pub AtTail : {T : Type 0} → Blocks T → ℕ → Type 0
AtTail r n = (n ≤ r.tail) × (r.tail ≡ n → r.tail_turns ≡ false)

-- b was read in tail_block after the tail was read at n: it is the tail's block, if the tail is still there
abbrev pub TailBlock : {T : Type 0} → Blocks T → ℕ → ℕ → Type 0
TailBlock r n b = (1 ≤ r.last) × (r.tail ≡ n → b ≡ r.num (n / 31))

abbrev pub AtHead : {T : Type 0} → Blocks T → ℕ → Type 0
AtHead r n = (n ≤ r.head) × (r.head ≡ n → r.head_turns ≡ false)

abbrev pub HeadBlock : {T : Type 0} → Blocks T → ℕ → ℕ → Type 0
HeadBlock r n b = (1 ≤ r.first) × (r.head ≡ n → b ≡ r.num (n / 31))

-- b is the block of the n-th item
abbrev pub IsBlockOf : {T : Type 0} → Blocks T → ℕ → ℕ → Type 0
IsBlockOf r n b = (n / 31 < r.last) × (b ≡ r.num (n / 31))

-- a call that sends v
abbrev pub IsSend : {T : Type 0} → QueueAsk T → T → Type 0
IsSend a v = (a ≡ ask.Push v) ⊎ (a ≡ ask.ForcePush v)

-- a call without a mark
abbrev pub IsTry : {T : Type 0} → Phase T → Type 0
IsTry p = (seen : Bool) × (p.stage ≡ trying seen)

-- one that found the queue open
abbrev pub HasFoundOpen : {T : Type 0} → Phase T → Type 0
HasFoundOpen p = p.stage ≡ trying true

-- the n-th item is v, and its cell isn't written yet and holds this
abbrev pub Fills : {T : Type 0} → Blocks T → Phase T → T → ℕ → ℕ → Option T → Type 0
Fills r p v n b x = IsSend p.ask v × (p.stage ≡ appended None) × (slice_get r.all n ≡ Some v) × (n < r.tail) × IsBlockOf r n b × ((r.cell n).written ≡ false) × ((r.cell n).slot ≡ x)

-- the n-th item, d, is this call's to take
abbrev pub Takes : {T : Type 0} → Blocks T → Phase T → ℕ → ℕ → T → Type 0
Takes r p n b d = (p.ask ≡ ask.Pop) × (p.stage ≡ taken d) × (slice_get r.all n ≡ Some d) × (n < r.head) × IsBlockOf r n b × ((r.cell n).written ≡ true → (r.cell n).slot ≡ Some d)

-- what closing, or a question, knows at an action; at no other is one under way
abbrev pub KnowsQuestion : {T : Type 0} → Blocks T → Act T → Phase T → Type 0
KnowsQuestion r close p = (p.ask ≡ ask.Close) × IsTry p
KnowsQuestion r ask_closed p = (p.ask ≡ ask.IsClosed) × IsTry p
KnowsQuestion r ask_empty p = (p.ask ≡ ask.IsEmpty) × IsTry p
KnowsQuestion r (empty_tail n) p = (p.ask ≡ ask.IsEmpty) × (p.stage ≡ read n) × (n ≤ r.head)
KnowsQuestion r ask_full p = (p.ask ≡ ask.IsFull) × IsTry p
KnowsQuestion r ask_len p = (p.ask ≡ ask.Len) × IsTry p
KnowsQuestion r (len_head t) p = (p.ask ≡ ask.Len) × (p.stage ≡ read (number (t / 2))) × (number (t / 2) ≤ r.tail)
KnowsQuestion {T} r (len_tail t h) p = (k : ℕ) × (p.ask ≡ ask.Len) × (p.stage ≡ measured (number (t / 2)) k) × (number (t / 2) ≤ k + h) × (k + h ≤ r.tail)
KnowsQuestion r ask_capacity p = (p.ask ≡ ask.Capacity) × IsTry p
KnowsQuestion r _ p = ⊥

abbrev pub KnowsPop : {T : Type 0} → Blocks T → Act T → Phase T → Type 0
KnowsPop r pop p = (p.ask ≡ ask.Pop) × IsTry p
KnowsPop r (pop_look n) p = (p.ask ≡ ask.Pop) × IsTry p × AtHead r n
KnowsPop r (pop_tail n None) p = (p.ask ≡ ask.Pop) × IsTry p × AtHead r n
KnowsPop r (pop_tail n (Some b)) p = (p.ask ≡ ask.Pop) × IsTry p × AtHead r n × HeadBlock r n b
KnowsPop r (pop_swap n b) p = (p.ask ≡ ask.Pop) × IsTry p × AtHead r n × HeadBlock r n b × (n < r.tail)
KnowsPop {T} r (pop_next n b) p = (d : T) × Takes r p n b d × (n % 31 ≡ 30) × (r.head ≡ n + 1) × (r.head_turns ≡ true) × (r.first ≡ n / 31 + 1)
KnowsPop {T} r (pop_block n b c) p = (d : T) × Takes r p n b d × (n % 31 ≡ 30) × (r.head ≡ n + 1) × (r.head_turns ≡ true) × (r.first ≡ n / 31 + 1) × (n / 31 + 1 < r.last) × (c ≡ r.num (n / 31 + 1))
KnowsPop {T} r (pop_head n b) p = (d : T) × Takes r p n b d × (n % 31 ≡ 30) × (r.head ≡ n + 1) × (r.head_turns ≡ true) × (r.first ≡ n / 31 + 2)
KnowsPop {T} r (pop_wait n b) p = (d : T) × Takes r p n b d
KnowsPop {T} r (pop_take n b) p = (d : T) × Takes r p n b d × ((r.cell n).written ≡ true)
KnowsPop r (pop_count n b d) p = (p.ask ≡ ask.Pop) × (p.stage ≡ taken d) × (n < r.head) × IsBlockOf r n b
KnowsPop r (pop_retire n b d) p = (p.ask ≡ ask.Pop) × (p.stage ≡ taken d) × (n < r.head) × IsBlockOf r n b
KnowsPop r a p = KnowsQuestion r a p

-- what a call at an action knows of the queue, and how far it has come
abbrev pub KnowsBlocks : {T : Type 0} → Blocks T → Act T → Phase T → Type 0
KnowsBlocks r (push v h) p = IsSend p.ask v × IsTry p × Holds r h
KnowsBlocks r (push_return v h) p = IsSend p.ask v × IsTry p × (r.spot h ≡ held) × (r.closed ≡ true)
KnowsBlocks r (push_look v n h) p = IsSend p.ask v × HasFoundOpen p × Holds r h × AtTail r n
KnowsBlocks r (push_make v n) p = IsSend p.ask v × HasFoundOpen p × AtTail r n
KnowsBlocks r (push_first v n h) p = IsSend p.ask v × HasFoundOpen p × (r.spot h ≡ held) × AtTail r n
KnowsBlocks r (push_start v n b) p = IsSend p.ask v × HasFoundOpen p × AtTail r n × TailBlock r n b × (r.first ≡ 0) × (b ≡ r.num 0)
KnowsBlocks r (push_more v n b) p = IsSend p.ask v × HasFoundOpen p × AtTail r n × TailBlock r n b
KnowsBlocks r (push_swap v n b h) p = IsSend p.ask v × IsTry p × Holds r h × AtTail r n × TailBlock r n b
KnowsBlocks r (push_turn v n b h) p = Fills r p v n b None × (r.spot h ≡ held) × (n % 31 ≡ 30) × (r.tail ≡ n + 1) × (r.tail_turns ≡ true) × (r.last ≡ n / 31 + 1)
KnowsBlocks r (push_add v n b h) p = Fills r p v n b None × (n % 31 ≡ 30) × (r.tail ≡ n + 1) × (r.tail_turns ≡ true) × (r.last ≡ n / 31 + 2) × (h ≡ r.num (n / 31 + 1))
KnowsBlocks r (push_link v n b h) p = Fills r p v n b None × (n % 31 ≡ 30) × (n / 31 + 1 < r.last) × (h ≡ r.num (n / 31 + 1))
KnowsBlocks r (push_put v n b h) p = Fills r p v n b None × Holds r h
KnowsBlocks {T} r (push_store n b h) p = (v : T) × Fills r p v n b (Some v) × Holds r h
KnowsBlocks {T} r (push_give h) p = (v : T) × IsSend p.ask v × (p.stage ≡ appended None) × (r.spot h ≡ held)
KnowsBlocks r a p = KnowsPop r a p

abbrev pub same : ℕ → ℕ → ℕ
same n m = if n == m then 1 else 0

abbrev pub holds : Option ℕ → ℕ → ℕ
holds None b = 0
holds (Some h) b = same h b

-- what a call that fills the n-th cell owes beside: whether it still turns the page, and whether it still links its block
abbrev pub filling : ℕ → Bool → Bool → Option ℕ → Duty → ℕ
filling n turns links h (fill m) = same n m
filling n turns links h (link k) = if links then same (n / 31) k else 0
filling n turns links h turn_tail = if turns then 1 else 0
filling n turns links h (keep b) = holds h b
filling n turns links h _ = 0

abbrev pub taking : ℕ → Bool → Duty → ℕ
taking n turns (take m) = same n m
taking n turns (count k) = same (n / 31) k
taking n turns turn_head = if turns then 1 else 0
taking n turns _ = 0

abbrev pub holding : Option ℕ → Duty → ℕ
holding h (keep b) = holds h b
holding h _ = 0

abbrev pub starting : Duty → ℕ
starting start = 1
starting _ = 0

abbrev pub counting : ℕ → Duty → ℕ
counting n (count k) = same (n / 31) k
counting n _ = 0

abbrev pub retiring : ℕ → Duty → ℕ
retiring n (retire k) = same (n / 31) k
retiring n _ = 0

abbrev pub owes : {T : Type 0} → Act T → Duty → ℕ
owes (push v h) d = holding h d
owes (push_return v h) d = holding (Some h) d
owes (push_look v n h) d = holding h d
owes (push_make v n) d = 0
owes (push_first v n h) d = holding (Some h) d
owes (push_start v n b) d = starting d
owes (push_more v n b) d = 0
owes (push_swap v n b h) d = holding h d
owes (push_turn v n b h) d = filling n true true (Some h) d
owes (push_add v n b h) d = filling n true true None d
owes (push_link v n b h) d = filling n false true None d
owes (push_put v n b h) d = filling n false false h d
owes (push_store n b h) d = filling n false false h d
owes (push_give h) d = holding (Some h) d
owes (pop_next n b) d = taking n true d
owes (pop_block n b c) d = taking n true d
owes (pop_head n b) d = taking n true d
owes (pop_wait n b) d = taking n false d
owes (pop_take n b) d = taking n false d
owes (pop_count n b x) d = counting n d
owes (pop_retire n b x) d = retiring n d
owes _ d = 0
