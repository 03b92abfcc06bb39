-- What the words and slots of an unbounded queue stand for: this is where blocks are used again.
use Rattle.std.specs.Prelude.{◌≡◌, ℕ, zero, suc, ◌+◌, ◌-◌, ◌*◌, ◌^◌, ◌/◌, ◌%◌, ◌<◌, ◌≤◌, ◌⊎◌, Bool, true, false, List, [], ◌∷◌, length, Option, None, Some, slice_get, if◌then◌else◌}
use Rattle.concurrent_queue.specs.Contents.{Contents, block_at, blank}
use Rattle.concurrent_queue.specs.Contents as words
use Rattle.concurrent_queue.specs.machine.BlocksState.{Blocks, Spot, unmade, spare, held, one_if, position, number, tail_word}
use Rattle.concurrent_queue.specs.machine.BlocksCalls as call
use Rattle.concurrent_queue.specs.machine.BlocksCalls.{Act, same}
use Rattle.concurrent_queue.specs.declared.unbounded.action.UnboundedAction.{UnboundedAction}
use Rattle.concurrent_queue.specs.declared.unbounded.action.UnboundedAction.TheVariants as act

-- a word for the f-th block of the chain, 0 for none
abbrev pub Shows : {T : Type 0} → Blocks T → ℕ → ℕ → Type 0
Shows r f w = ((f ≡ 0) × (w ≡ 0)) ⊎ ((1 ≤ f) × (w ≡ r.num (f - 1) + 1))

pub record IsBlock {T : Type 0} (r : Blocks T) (k : ℕ) (x : words.BlockCells T) : Type 0 where
  pub next : x.next ≡ (if (r.block k).linked then r.num (k + 1) + 1 else 0)
  pub reads : x.reads ≡ (r.block k).reads
  pub written : (i : ℕ) → i < 31 → slice_get x.written i ≡ Some (one_if (r.cell (31 * k + i)).written)
  pub slots : (i : ℕ) → i < 31 → slice_get x.slots i ≡ Some (r.cell (31 * k + i)).slot

-- how often a number is on a list
abbrev pub times : ℕ → List ℕ → ℕ
times b [] = 0
times b (x ∷ xs) = same x b + times b xs

abbrev pub is_spare : Spot → Bool
is_spare spare = true
is_spare _ = false

-- whether nothing of a block is in use
abbrev pub IsIdle : Spot → Type 0
IsIdle spare = Unit {0}
IsIdle held = Unit {0}
IsIdle _ = ⊥

pub record Denotes {T : Type 0} (c : Contents T) (r : Blocks T) : Type 0 where
  pub head : c.head ≡ position r.head r.head_turns
  pub tail : c.tail ≡ tail_word r
  pub head_block : Shows r r.first c.head_block
  pub tail_block : Shows r r.last c.tail_block
  pub used : (k : ℕ) → k < r.last → (r.block k).retired ≡ false → IsBlock r k (block_at c (r.num k))
  pub numbered : (k : ℕ) → k < r.last → r.num k < length c.blocks
  pub idle : (b : ℕ) → IsIdle (r.spot b) → block_at c b ≡ blank
  pub spares : (b : ℕ) → times b c.spares ≡ one_if (is_spare (r.spot b))
  pub made : (b : ℕ) → length c.blocks ≤ b → r.spot b ≡ unmade
  pub few : length c.blocks < 2 ^ 64

-- the block that a word names
abbrev pub named : ℕ → Option ℕ
named zero = None
named (suc b) = Some b

-- a question by what its head position is told by
abbrev pub question_by : {T : Type 0} → (ℕ → ℕ) → UnboundedAction T → Act T
question_by head act.Close = call.close
question_by head act.AskClosed = call.ask_closed
question_by head act.AskEmpty = call.ask_empty
question_by head (act.EmptyTail p) = call.empty_tail (head p)
question_by head act.AskFull = call.ask_full
question_by head act.AskLen = call.ask_len
question_by head (act.LenHead t) = call.len_head t
question_by head (act.LenTail t p) = call.len_tail t (head p)
question_by head act.AskCapacity = call.ask_capacity
question_by head _ = call.finished

abbrev pub pop_by : {T : Type 0} → (ℕ → ℕ) → UnboundedAction T → Act T
pop_by head act.Pop = call.pop
pop_by head (act.PopLook p) = call.pop_look (head p)
pop_by head (act.PopTail p b) = call.pop_tail (head p) (named b)
pop_by head (act.PopSwap p b) = call.pop_swap (head p) b
pop_by head (act.PopNext p b) = call.pop_next (head p) b
pop_by head (act.PopBlock p b c) = call.pop_block (head p) b (c - 1)
pop_by head (act.PopHead p b) = call.pop_head (head p) b
pop_by head (act.PopWait p b) = call.pop_wait (head p) b
pop_by head (act.PopTake p b) = call.pop_take (head p) b
pop_by head (act.PopCount p b d) = call.pop_count (head p) b d
pop_by head (act.PopRetire p b d) = call.pop_retire (head p) b d
pop_by head a = question_by head a

-- an action by what its tail word and its head position are told by
abbrev pub act_by : {T : Type 0} → (ℕ → ℕ) → (ℕ → ℕ) → UnboundedAction T → Act T
act_by tail head (act.Push v h) = call.push v h
act_by tail head (act.PushShut v h) = call.finished
act_by tail head (act.PushReturn v h) = call.push_return v h
act_by tail head (act.PushLook v t h) = call.push_look v (tail t) h
act_by tail head (act.PushMake v t) = call.push_make v (tail t)
act_by tail head (act.PushFirst v t h) = call.push_first v (tail t) h
act_by tail head (act.PushStart v t b) = call.push_start v (tail t) b
act_by tail head (act.PushMore v t b) = call.push_more v (tail t) b
act_by tail head (act.PushSwap v t b h) = call.push_swap v (tail t) b h
act_by tail head (act.PushTurn v t b h) = call.push_turn v (tail t) b h
act_by tail head (act.PushAdd v t b h) = call.push_add v (tail t) b h
act_by tail head (act.PushLink v t b h) = call.push_link v (tail t) b h
act_by tail head (act.PushPut v t b h) = call.push_put v (tail t) b h
act_by tail head (act.PushStore t b h) = call.push_store (tail t) b h
act_by tail head (act.PushGive h) = call.push_give h
act_by tail head a = pop_by head a

-- an action by the numbers of its items
abbrev pub act_of : {T : Type 0} → UnboundedAction T → Act T
act_of a = act_by (λ t. number (t / 2)) number a

-- a tail word of an open queue whose page is not being turned, and a head position at rest
abbrev pub IsTailAt : ℕ → Type 0
IsTailAt t = (t % 2 ≡ 0) × (t / 2 % 32 < 31)

abbrev pub IsHeadAt : ℕ → Type 0
IsHeadAt p = p % 32 < 31

-- the head position that a pop goes by is such a position
abbrev pub IsProperPop : {T : Type 0} → UnboundedAction T → Type 0
IsProperPop (act.PopLook p) = IsHeadAt p
IsProperPop (act.PopTail p b) = IsHeadAt p
IsProperPop (act.PopSwap p b) = IsHeadAt p
IsProperPop (act.PopNext p b) = IsHeadAt p
IsProperPop (act.PopBlock p b c) = IsHeadAt p × (1 ≤ c)
IsProperPop (act.PopHead p b) = IsHeadAt p
IsProperPop (act.PopWait p b) = IsHeadAt p
IsProperPop (act.PopTake p b) = IsHeadAt p
IsProperPop (act.PopCount p b d) = IsHeadAt p
IsProperPop (act.PopRetire p b d) = IsHeadAt p
IsProperPop _ = Unit {0}

-- the words that an action goes by are such words
abbrev pub IsProper : {T : Type 0} → UnboundedAction T → Type 0
IsProper (act.PushShut v h) = ⊥
IsProper (act.PushLook v t h) = IsTailAt t
IsProper (act.PushMake v t) = IsTailAt t
IsProper (act.PushFirst v t h) = IsTailAt t
IsProper (act.PushStart v t b) = IsTailAt t
IsProper (act.PushMore v t b) = IsTailAt t
IsProper (act.PushSwap v t b h) = IsTailAt t × (t / 2 % 32 ≡ 30 → (h ≡ None → ⊥))
IsProper (act.PushTurn v t b h) = IsTailAt t
IsProper (act.PushAdd v t b h) = IsTailAt t
IsProper (act.PushLink v t b h) = IsTailAt t
IsProper (act.PushPut v t b h) = IsTailAt t
IsProper (act.PushStore t b h) = IsTailAt t
IsProper a = IsProperPop a
