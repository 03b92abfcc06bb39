-- The steps of an unbounded queue's calls, by the numbers of its items and the ordinals of its blocks.
use Rattle.std.specs.Prelude.{◌≡◌, ℕ, ◌+◌, ◌-◌, ◌/◌, ◌%◌, ◌<◌, ◌≤◌, Bool, true, false, List, [], ◌∷◌, ◌++◌, Option, None, Some, Ok, Err, MatchOption, slice_get}
use Rattle.concurrent_queue.specs.machine.BlocksState.{Blocks, SoundBlocks, Spot, unmade, spare, held, Duty, fill, take, keep, start, turn_tail, turn_head, owed, with_cell, with_block, with_spot, chained, tail_word, number}
use Rattle.concurrent_queue.specs.machine.BlocksCalls.{Act, push, push_return, push_look, push_make, push_first, push_start, push_more, push_swap, push_turn, push_add, push_link, push_put, push_store, push_give, pop, pop_look, pop_tail, pop_swap, pop_next, pop_block, pop_head, pop_wait, pop_take, pop_count, pop_retire, close, ask_closed, ask_empty, empty_tail, ask_full, ask_len, len_head, len_tail, ask_capacity, finished, KnowsBlocks, owes}
use Rattle.concurrent_queue.specs.Queue.{Queue, Phase, after, Continues, Answers}
use Rattle.concurrent_queue.specs.machine.Places.{Each}
use Rattle.concurrent_queue.specs.declared.call.QueueAsk.{QueueAsk}
use Rattle.concurrent_queue.specs.declared.call.QueueAsk.TheVariants as ask
use Rattle.concurrent_queue.specs.declared.call.QueueMark.{QueueMark}
use Rattle.concurrent_queue.specs.declared.call.QueueMark.TheVariants as mark
use Rattle.concurrent_queue.specs.declared.call.QueueReply.{QueueReply}
use Rattle.concurrent_queue.specs.declared.call.QueueReply.TheVariants as reply
use Rattle.concurrent_queue.specs.declared.error.PushError.TheVariants as push_error
use Rattle.concurrent_queue.specs.declared.error.ForcePushError.TheVariants as force_error
use Rattle.concurrent_queue.specs.declared.unbounded.ending.Ending.{Ending}
use Rattle.concurrent_queue.specs.declared.unbounded.ending.Ending.TheVariants as ending
use Rattle.concurrent_queue.specs.declared.error.PopError.TheVariants as pop_error

-- what one step of a call a leaves to the other calls: the rely of their knowledge
pub record Later {T : Type 0} (r r' : Blocks T) (a : Act T) : Type 0 where
  pub all : (n : ℕ) (v : T) → slice_get r.all n ≡ Some v → slice_get r'.all n ≡ Some v
  pub shut : r.closed ≡ true → r'.closed ≡ true
  pub tail : r.tail ≤ r'.tail
  pub head : r.head ≤ r'.head
  pub last : r.last ≤ r'.last
  pub first : r.first ≤ r'.first
  pub num : (k : ℕ) → k < r.last → r'.num k ≡ r.num k
  pub tail_rests : r'.tail ≡ r.tail → r.tail_turns ≡ false → r'.tail_turns ≡ false
  pub head_rests : r'.head ≡ r.head → r.head_turns ≡ false → r'.head_turns ≡ false
  pub tail_turns : owes a turn_tail ≡ 0 → r.tail_turns ≡ true → (r'.tail ≡ r.tail) × (r'.tail_turns ≡ true) × (r'.last ≡ r.last)
  pub head_turns : owes a turn_head ≡ 0 → r.head_turns ≡ true → (r'.head ≡ r.head) × (r'.head_turns ≡ true) × (r'.first ≡ r.first)
  pub starts : owes a start ≡ 0 → 0 < r.last → r.first ≡ 0 → r'.first ≡ 0
  pub written : (n : ℕ) → (r.cell n).written ≡ true → (r'.cell n).written ≡ true
  pub unwritten : (n : ℕ) → owes a (fill n) ≡ 0 → (r.cell n).written ≡ false → r'.cell n ≡ r.cell n
  pub filled : (n : ℕ) (d : T) → owes a (take n) ≡ 0 → slice_get r.all n ≡ Some d → ((r.cell n).written ≡ true → (r.cell n).slot ≡ Some d) → (r'.cell n).written ≡ true → (r'.cell n).slot ≡ Some d
  pub holds : (b : ℕ) → owes a (keep b) ≡ 0 → r.spot b ≡ held → r'.spot b ≡ held

-- the numbers mean this queue
pub record StandsBlocks {T : Type 0} (r : Blocks T) (q : Queue T) : Type 0 where
  pub sound : SoundBlocks r q.items
  pub closed : r.closed ≡ q.closed
  pub accepted : q.accepted ≡ r.tail
  pub removed : q.removed ≡ r.head
  pub coming : q.coming ≡ false
  pub capacity : q.capacity ≡ None

abbrev pub is_force : {T : Type 0} → QueueAsk T → Bool
is_force (ask.ForcePush v) = true
is_force _ = false

-- what a call answers that ends so, and whether it is a displacing push
abbrev pub answer_as : {T : Type 0} → Bool → Ending T → QueueReply T
answer_as false ending.Sent = reply.Push (Ok tt)
answer_as false (ending.Closed v) = reply.Push (Err (push_error.Closed v))
answer_as false (ending.NoMemory v) = reply.Push (Err (push_error.NoMemory v))
answer_as true ending.Sent = reply.Force (Ok None)
answer_as true (ending.Closed v) = reply.Force (Err (force_error.Closed v))
answer_as true (ending.NoMemory v) = reply.Force (Err (force_error.NoMemory v))
answer_as false (ending.Replied y) = y
answer_as true (ending.Replied y) = y

abbrev pub answer : {T : Type 0} → QueueAsk T → Ending T → QueueReply T
answer a e = answer_as (is_force a) e

-- what a step of one call keeps: each duty stays owed by as many, and the others' knowledge outlasts it
pub record BlocksKept {T : Type 0} (r : Blocks T) (q : Queue T) (a : Act T) (p : Phase T) (r' : Blocks T) (a' : Act T) (k : QueueMark) (x : Option (Ending T)) : Type 0 where
  pub stands : StandsBlocks r' (after p k q)
  pub owners : (d : Duty) → owes a' d + owed r d ≡ owes a d + owed r' d
  pub others : Later r r' a
  pub leaves : MatchOption x ((p' : Phase T) × Continues q p k p' × KnowsBlocks r' a' p') (λ y. Answers q p k (answer p.ask y) × (a' ≡ finished))

-- a spot whose block a push may take
abbrev pub IsFree : Spot → Type 0
IsFree spare = Unit {0}
IsFree unmade = Unit {0}
IsFree _ = ⊥

abbrev pub extended : {T : Type 0} → Blocks T → T → Bool → Blocks T
extended r v edge = record r { all = r.all ++ v ∷ []; tail = r.tail + 1; tail_turns = edge }

abbrev pub counted : {T : Type 0} → Blocks T → ℕ → Blocks T
counted r k = with_block r k (record { linked = (r.block k).linked; reads = (r.block k).reads + 1; retired = (r.block k).retired })

-- a push before it has a place: it looks for the block at the tail, gets one, and takes the place
pub data SeekMoves {T : Type 0} (r : Blocks T) : Act T → Blocks T → Act T → QueueMark → Option (Ending T) → Type 0 where
  push_opens : {v : T} {h : Option ℕ} {n : ℕ} {r' : Blocks T} → r' ≡ r → r.closed ≡ false → n ≡ r.tail → r.tail_turns ≡ false → SeekMoves r (push v h) r' (push_look v n h) mark.Nothing None
  push_stays : {v : T} {h : Option ℕ} {r' : Blocks T} → r' ≡ r → r.tail_turns ≡ true → SeekMoves r (push v h) r' (push v h) mark.Nothing None
  push_shut : {v : T} {r' : Blocks T} → r' ≡ r → r.closed ≡ true → SeekMoves r (push v None) r' finished mark.Nothing (Some (ending.Closed v))
  push_shut_held : {v : T} {h : ℕ} {r' : Blocks T} → r' ≡ r → r.closed ≡ true → SeekMoves r (push v (Some h)) r' (push_return v h) mark.Nothing None
  push_returns : {v : T} {h : ℕ} {r' : Blocks T} → r' ≡ with_spot r h spare → SeekMoves r (push_return v h) r' finished mark.Nothing (Some (ending.Closed v))
  look_none : {v : T} {n : ℕ} {r' : Blocks T} → r' ≡ r → r.last ≡ 0 → SeekMoves r (push_look v n None) r' (push_make v n) mark.Nothing None
  look_none_held : {v : T} {n h : ℕ} {r' : Blocks T} → r' ≡ r → r.last ≡ 0 → SeekMoves r (push_look v n (Some h)) r' (push_first v n h) mark.Nothing None
  look_more : {v : T} {n b : ℕ} {r' : Blocks T} → r' ≡ r → 1 ≤ r.last → b ≡ r.num (r.last - 1) → SeekMoves r (push_look v n None) r' (push_more v n b) mark.Nothing None
  look_ready : {v : T} {n b : ℕ} {h : Option ℕ} {r' : Blocks T} → r' ≡ r → 1 ≤ r.last → b ≡ r.num (r.last - 1) → SeekMoves r (push_look v n h) r' (push_swap v n b h) mark.Nothing None
  makes : {v : T} {n h : ℕ} {r' : Blocks T} → r' ≡ with_spot r h held → IsFree (r.spot h) → SeekMoves r (push_make v n) r' (push_first v n h) mark.Nothing None
  makes_more : {v : T} {n b h : ℕ} {r' : Blocks T} → r' ≡ with_spot r h held → IsFree (r.spot h) → SeekMoves r (push_more v n b) r' (push_swap v n b (Some h)) mark.Nothing None
  refused : {v : T} {n : ℕ} {r' : Blocks T} → r' ≡ r → SeekMoves r (push_make v n) r' finished mark.Nothing (Some (ending.NoMemory v))
  refused_more : {v : T} {n b : ℕ} {r' : Blocks T} → r' ≡ r → SeekMoves r (push_more v n b) r' finished mark.Nothing (Some (ending.NoMemory v))
  first_wins : {v : T} {n h : ℕ} {r' : Blocks T} → r' ≡ chained r h → r.last ≡ 0 → SeekMoves r (push_first v n h) r' (push_start v n h) mark.Nothing None
  first_loses : {v : T} {n h : ℕ} {r' : Blocks T} → r' ≡ r → (r.last ≡ 0 → ⊥) → SeekMoves r (push_first v n h) r' (push v (Some h)) mark.Nothing None
  starts : {v : T} {n b : ℕ} {r' : Blocks T} → r' ≡ record r { first = 1 } → SeekMoves r (push_start v n b) r' (push_swap v n b None) mark.Nothing None
  starts_more : {v : T} {n b : ℕ} {r' : Blocks T} → r' ≡ record r { first = 1 } → SeekMoves r (push_start v n b) r' (push_more v n b) mark.Nothing None
  swap_wins : {v : T} {n b : ℕ} {h : Option ℕ} {r' : Blocks T} → r' ≡ extended r v false → r.tail ≡ n → r.tail_turns ≡ false → r.closed ≡ false → (n % 31 ≡ 30 → ⊥) → SeekMoves r (push_swap v n b h) r' (push_put v n b h) mark.Append None
  swap_wins_edge : {v : T} {n b h : ℕ} {r' : Blocks T} → r' ≡ extended r v true → r.tail ≡ n → r.tail_turns ≡ false → r.closed ≡ false → n % 31 ≡ 30 → SeekMoves r (push_swap v n b (Some h)) r' (push_turn v n b h) mark.Append None
  swap_loses : {v : T} {n b : ℕ} {h : Option ℕ} {r' : Blocks T} → r' ≡ r → (r.tail ≡ n → r.closed ≡ false → r.tail_turns ≡ false → ⊥) → SeekMoves r (push_swap v n b h) r' (push v h) mark.Nothing None

-- a push that has a place: it turns the page and links the next block, if it has the last one, and brings its message
pub data BringMoves {T : Type 0} (r : Blocks T) : Act T → Blocks T → Act T → QueueMark → Option (Ending T) → Type 0 where
  turns : {v : T} {n b h : ℕ} {r' : Blocks T} → r' ≡ chained r h → BringMoves r (push_turn v n b h) r' (push_add v n b h) mark.Nothing None
  adds : {v : T} {n b h : ℕ} {r' : Blocks T} → r' ≡ record r { tail_turns = false } → BringMoves r (push_add v n b h) r' (push_link v n b h) mark.Nothing None
  links : {v : T} {n b h : ℕ} {r' : Blocks T} → r' ≡ with_block r (n / 31) (record { linked = true; reads = (r.block (n / 31)).reads; retired = (r.block (n / 31)).retired }) → BringMoves r (push_link v n b h) r' (push_put v n b None) mark.Nothing None
  puts : {v : T} {n b : ℕ} {h : Option ℕ} {r' : Blocks T} → r' ≡ with_cell r n (record { written = false; slot = Some v }) → BringMoves r (push_put v n b h) r' (push_store n b h) mark.Nothing None
  stores : {n b : ℕ} {r' : Blocks T} → r' ≡ with_cell r n (record { written = true; slot = (r.cell n).slot }) → BringMoves r (push_store n b None) r' finished mark.Nothing (Some ending.Sent)
  stores_held : {n b h : ℕ} {r' : Blocks T} → r' ≡ with_cell r n (record { written = true; slot = (r.cell n).slot }) → BringMoves r (push_store n b (Some h)) r' (push_give h) mark.Nothing None
  gives : {h : ℕ} {r' : Blocks T} → r' ≡ with_spot r h spare → BringMoves r (push_give h) r' finished mark.Nothing (Some ending.Sent)

-- a pop
pub data PopMoves {T : Type 0} (r : Blocks T) : Act T → Blocks T → Act T → QueueMark → Option (Ending T) → Type 0 where
  pop_loads : {n : ℕ} {r' : Blocks T} → r' ≡ r → n ≡ r.head → r.head_turns ≡ false → PopMoves r pop r' (pop_look n) mark.Nothing None
  pop_stays : {r' : Blocks T} → r' ≡ r → r.head_turns ≡ true → PopMoves r pop r' pop mark.Nothing None
  pop_looks_none : {n : ℕ} {r' : Blocks T} → r' ≡ r → r.first ≡ 0 → PopMoves r (pop_look n) r' (pop_tail n None) mark.Nothing None
  pop_looks : {n b : ℕ} {r' : Blocks T} → r' ≡ r → 1 ≤ r.first → b ≡ r.num (r.first - 1) → PopMoves r (pop_look n) r' (pop_tail n (Some b)) mark.Nothing None
  pop_empty : {n : ℕ} {b : Option ℕ} {r' : Blocks T} → r' ≡ r → r.tail ≡ n → r.closed ≡ false → PopMoves r (pop_tail n b) r' finished mark.Nothing (Some (ending.Replied (reply.Pop (Err pop_error.Empty))))
  pop_shut : {n : ℕ} {b : Option ℕ} {r' : Blocks T} → r' ≡ r → r.tail ≡ n → r.closed ≡ true → PopMoves r (pop_tail n b) r' finished mark.Nothing (Some (ending.Replied (reply.Pop (Err pop_error.Closed))))
  pop_back : {n : ℕ} {r' : Blocks T} → r' ≡ r → (r.tail ≡ n → ⊥) → PopMoves r (pop_tail n None) r' pop mark.Nothing None
  pop_goes : {n b : ℕ} {r' : Blocks T} → r' ≡ r → (r.tail ≡ n → ⊥) → PopMoves r (pop_tail n (Some b)) r' (pop_swap n b) mark.Nothing None
  pop_wins : {n b : ℕ} {r' : Blocks T} → r' ≡ record r { head = r.head + 1; head_turns = false } → r.head ≡ n → r.head_turns ≡ false → (n % 31 ≡ 30 → ⊥) → PopMoves r (pop_swap n b) r' (pop_wait n b) mark.Take None
  pop_wins_edge : {n b : ℕ} {r' : Blocks T} → r' ≡ record r { head = r.head + 1; head_turns = true } → r.head ≡ n → r.head_turns ≡ false → n % 31 ≡ 30 → PopMoves r (pop_swap n b) r' (pop_next n b) mark.Take None
  pop_loses : {n b : ℕ} {r' : Blocks T} → r' ≡ r → (r.head ≡ n → r.head_turns ≡ false → ⊥) → PopMoves r (pop_swap n b) r' pop mark.Nothing None
  next_waits : {n b : ℕ} {r' : Blocks T} → r' ≡ r → (r.block (n / 31)).linked ≡ false → PopMoves r (pop_next n b) r' (pop_next n b) mark.Nothing None
  next_found : {n b c : ℕ} {r' : Blocks T} → r' ≡ r → (r.block (n / 31)).linked ≡ true → c ≡ r.num (n / 31 + 1) → PopMoves r (pop_next n b) r' (pop_block n b c) mark.Nothing None
  blocks : {n b c : ℕ} {r' : Blocks T} → r' ≡ record r { first = r.first + 1 } → PopMoves r (pop_block n b c) r' (pop_head n b) mark.Nothing None
  heads : {n b : ℕ} {r' : Blocks T} → r' ≡ record r { head_turns = false } → PopMoves r (pop_head n b) r' (pop_wait n b) mark.Nothing None
  wait_waits : {n b : ℕ} {r' : Blocks T} → r' ≡ r → (r.cell n).written ≡ false → PopMoves r (pop_wait n b) r' (pop_wait n b) mark.Nothing None
  wait_found : {n b : ℕ} {r' : Blocks T} → r' ≡ r → (r.cell n).written ≡ true → PopMoves r (pop_wait n b) r' (pop_take n b) mark.Nothing None
  takes : {n b : ℕ} {d : T} {r' : Blocks T} → (r.cell n).slot ≡ Some d → r' ≡ with_cell r n (record { written = true; slot = None }) → PopMoves r (pop_take n b) r' (pop_count n b d) mark.Nothing None
  counts : {n b : ℕ} {d : T} {r' : Blocks T} → r' ≡ counted r (n / 31) → ((r.block (n / 31)).reads ≡ 30 → ⊥) → PopMoves r (pop_count n b d) r' finished mark.Nothing (Some (ending.Replied (reply.Pop (Ok d))))
  counts_last : {n b : ℕ} {d : T} {r' : Blocks T} → r' ≡ counted r (n / 31) → (r.block (n / 31)).reads ≡ 30 → PopMoves r (pop_count n b d) r' (pop_retire n b d) mark.Nothing None
  retires : {n b : ℕ} {d : T} {r' : Blocks T} → r' ≡ with_spot (with_block r (n / 31) (record { linked = (r.block (n / 31)).linked; reads = 31; retired = true })) b spare → PopMoves r (pop_retire n b d) r' finished mark.Nothing (Some (ending.Replied (reply.Pop (Ok d))))

-- closing and the questions
pub data AskMoves {T : Type 0} (r : Blocks T) : Act T → Blocks T → Act T → QueueMark → Option (Ending T) → Type 0 where
  closes : {r' : Blocks T} → r' ≡ record r { closed = true } → r.closed ≡ false → AskMoves r close r' finished mark.Close (Some (ending.Replied (reply.Close true)))
  closed_before : {r' : Blocks T} → r' ≡ r → r.closed ≡ true → AskMoves r close r' finished mark.Nothing (Some (ending.Replied (reply.Close false)))
  tells_closed : {b : Bool} {r' : Blocks T} → r' ≡ r → r.closed ≡ b → AskMoves r ask_closed r' finished mark.Nothing (Some (ending.Replied (reply.Flag b)))
  empty_loads : {n : ℕ} {r' : Blocks T} → r' ≡ r → n ≡ r.head → AskMoves r ask_empty r' (empty_tail n) mark.Nothing None
  empty_tells : {n : ℕ} {r' : Blocks T} → r' ≡ r → r.tail ≡ n → AskMoves r (empty_tail n) r' finished mark.Nothing (Some (ending.Replied (reply.Flag true)))
  empty_denies : {n : ℕ} {r' : Blocks T} → r' ≡ r → (r.tail ≡ n → ⊥) → AskMoves r (empty_tail n) r' finished mark.Nothing (Some (ending.Replied (reply.Flag false)))
  tells_full : {r' : Blocks T} → r' ≡ r → AskMoves r ask_full r' finished mark.Nothing (Some (ending.Replied (reply.Flag false)))
  len_loads : {t : ℕ} {r' : Blocks T} → r' ≡ r → t ≡ tail_word r → AskMoves r ask_len r' (len_head t) mark.Nothing None
  len_looks : {t h : ℕ} {r' : Blocks T} → r' ≡ r → h ≡ r.head → AskMoves r (len_head t) r' (len_tail t h) mark.Nothing None
  len_tells : {t h m : ℕ} {r' : Blocks T} → r' ≡ r → tail_word r ≡ t → m ≡ number (t / 2) - h → AskMoves r (len_tail t h) r' finished mark.Nothing (Some (ending.Replied (reply.Count m)))
  len_back : {t h : ℕ} {r' : Blocks T} → r' ≡ r → (tail_word r ≡ t → ⊥) → AskMoves r (len_tail t h) r' ask_len mark.Nothing None
  tells_capacity : {r' : Blocks T} → r' ≡ r → AskMoves r ask_capacity r' finished mark.Nothing (Some (ending.Replied (reply.Cap None)))

-- one step of a call at an action leaves these numbers, and the call at this action, with this mark, or over with this end
pub data Moves {T : Type 0} (r : Blocks T) : Act T → Blocks T → Act T → QueueMark → Option (Ending T) → Type 0 where
  seeking : {a : Act T} {r' : Blocks T} {a' : Act T} {k : QueueMark} {x : Option (Ending T)} → SeekMoves r a r' a' k x → Moves r a r' a' k x
  bringing : {a : Act T} {r' : Blocks T} {a' : Act T} {k : QueueMark} {x : Option (Ending T)} → BringMoves r a r' a' k x → Moves r a r' a' k x
  popping : {a : Act T} {r' : Blocks T} {a' : Act T} {k : QueueMark} {x : Option (Ending T)} → PopMoves r a r' a' k x → Moves r a r' a' k x
  asking : {a : Act T} {r' : Blocks T} {a' : Act T} {k : QueueMark} {x : Option (Ending T)} → AskMoves r a r' a' k x → Moves r a r' a' k x

-- a call with how far it has come
pub record BlocksSeat (T : Type 0) : Type 0 where
  pub act : Act T
  pub phase : Phase T

abbrev pub owners : {T : Type 0} → Duty → List (BlocksSeat T) → ℕ
owners d [] = 0
owners d (p ∷ ps) = owes p.act d + owners d ps

-- the numbers and the calls under way mean this queue
pub record BlocksMeans {T : Type 0} (r : Blocks T) (q : Queue T) (ps : List (BlocksSeat T)) : Type 0 where
  pub stands : StandsBlocks r q
  pub owners : (d : Duty) → owners d ps ≡ owed r d
  pub seats : Each (λ (s : BlocksSeat T). KnowsBlocks r s.act s.phase) ps
