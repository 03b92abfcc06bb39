-- What the cells of a queue hold, and what one operation on one of them does.
use Rattle.std.specs.Prelude.{◌≡◌, ℕ, List, [], ◌∷◌, ◌++◌, length, Option, None, Some, Result, Ok, Err, slice_index, slice_set, slice_index_or, slice_get, Bool, true, false, nat_lt, ◌<◌, ◌^◌, if◌then◌else◌}
use Rattle.concurrent_queue.specs.declared.cells.QueueForm.{QueueForm}
use Rattle.concurrent_queue.specs.declared.cells.QueueForm.TheVariants.{Bounded, Unbounded}
use Rattle.concurrent_queue.specs.declared.error.NoMemory.{NoMemory}
use Rattle.concurrent_queue.specs.declared.cells.Word.{Word}
use Rattle.concurrent_queue.specs.declared.cells.Word.TheVariants.{State, Head, Tail, Stamp, HeadBlock, TailBlock, Next, Reads, Written}
use Rattle.concurrent_queue.specs.declared.cells.Slot.{Slot}
use Rattle.concurrent_queue.specs.declared.cells.Slot.TheVariants.{At, In}

-- one block of an unbounded queue
pub record BlockCells (T : Type 0) : Type 0 where
  pub next : ℕ
  pub reads : ℕ
  pub written : List ℕ
  pub slots : List (Option T)

-- all words and slots of a queue, whichever its form; `spares` has the number of the block given back last in front
pub record Contents (T : Type 0) : Type 0 where
  pub form : QueueForm
  pub state : ℕ
  pub head : ℕ
  pub tail : ℕ
  pub stamps : List ℕ
  pub slots : List (Option T)
  pub head_block : ℕ
  pub tail_block : ℕ
  pub blocks : List (BlockCells T)
  pub spares : List ℕ

-- thirty-one of it
abbrev pub in_each : {A : Type 0} → A → List A
in_each x = x ∷ x ∷ x ∷ x ∷ x ∷ x ∷ x ∷ x ∷ x ∷ x ∷ x ∷ x ∷ x ∷ x ∷ x ∷ x ∷ x ∷ x ∷ x ∷ x ∷ x ∷ x ∷ x ∷ x ∷ x ∷ x ∷ x ∷ x ∷ x ∷ x ∷ x ∷ []

-- the words of a block in which nothing was written yet
unfoldable pub zeros : List ℕ
zeros = in_each 0

-- the block that a spare section gives, and the spare ones that it leaves
abbrev pub spare_in : List ℕ → ℕ → ℕ
spare_in [] made = made
spare_in (b ∷ bs) made = b

abbrev pub others_of : List ℕ → List ℕ
others_of [] = []
others_of (b ∷ bs) = bs

-- the spare list after a block was given back: there is a place for each block that was made, and no more
abbrev pub with_spare : List ℕ → ℕ → ℕ → List ℕ
with_spare bs made b = if nat_lt (length bs) made then b ∷ bs else bs

module _ {T : Type 0} where
  unfoldable pub nones : List (Option T)
  nones = in_each None

  -- a block in which nothing was written yet
  abbrev pub blank : BlockCells T
  blank = record { next = 0; reads = 0; written = zeros; slots = nones }

  -- a block that was never made: its words read 0, and it has no slot
  abbrev pub no_block : BlockCells T
  no_block = record { next = 0; reads = 0; written = []; slots = [] }

  -- the block of a number
  abbrev pub block_in : List (BlockCells T) → ℕ → BlockCells T
  block_in blocks b = slice_index_or blocks b no_block

  abbrev pub with_next : BlockCells T → ℕ → BlockCells T
  with_next x w = record x { next = w }

  abbrev pub with_reads : BlockCells T → ℕ → BlockCells T
  with_reads x w = record x { reads = w }

  abbrev pub with_written : BlockCells T → ℕ → ℕ → BlockCells T
  with_written x i w = record x { written = slice_set x.written i w }

  abbrev pub with_slot : BlockCells T → ℕ → Option T → BlockCells T
  with_slot x i o = record x { slots = slice_set x.slots i o }

  abbrev pub block_at : Contents T → ℕ → BlockCells T
  block_at c b = block_in c.blocks b

  abbrev pub with_block : Contents T → ℕ → BlockCells T → Contents T
  with_block c b x = record c { blocks = slice_set c.blocks b x }

  -- what a word holds
  abbrev pub read : Contents T → Word → ℕ
  read c State = c.state
  read c Head = c.head
  read c Tail = c.tail
  read c (Stamp i) = slice_index c.stamps i
  read c HeadBlock = c.head_block
  read c TailBlock = c.tail_block
  read c (Next b) = (block_at c b).next
  read c (Reads b) = (block_at c b).reads
  read c (Written b i) = slice_index (block_at c b).written i

  -- the contents after a word is written
  abbrev pub write : Contents T → Word → ℕ → Contents T
  write c State w = record c { state = w }
  write c Head w = record c { head = w }
  write c Tail w = record c { tail = w }
  write c (Stamp i) w = record c { stamps = slice_set c.stamps i w }
  write c HeadBlock w = record c { head_block = w }
  write c TailBlock w = record c { tail_block = w }
  write c (Next b) w = with_block c b (with_next (block_at c b) w)
  write c (Reads b) w = with_block c b (with_reads (block_at c b) w)
  write c (Written b i) w = with_block c b (with_written (block_at c b) i w)

  -- what a slot holds
  abbrev pub slot_at : Contents T → Slot → Option T
  slot_at c (At i) = slice_index_or c.slots i None
  slot_at c (In b i) = slice_index_or (block_at c b).slots i None

  -- the contents after a slot is filled or emptied
  abbrev pub write_slot : Contents T → Slot → Option T → Contents T
  write_slot c (At i) x = record c { slots = slice_set c.slots i x }
  write_slot c (In b i) x = with_block c b (with_slot (block_at c b) i x)

  -- whether a slot is there and empty
  abbrev pub is_vacant : Option (Option T) → Bool
  is_vacant None = false
  is_vacant (Some None) = true
  is_vacant (Some (Some v)) = false

  abbrev pub can_put : Contents T → Slot → Bool
  can_put c (At i) = is_vacant (slice_get c.slots i)
  can_put c (In b i) = is_vacant (slice_get (block_at c b).slots i)

  abbrev pub PutGivesIn : List (BlockCells T) → ℕ → ℕ → T → Result Unit T → List (BlockCells T) → Type 0
  PutGivesIn bs b i v (Ok u) bs' = (is_vacant (slice_get (block_in bs b).slots i) ≡ true) × (bs' ≡ slice_set bs b (with_slot (block_in bs b) i (Some v)))
  PutGivesIn bs b i v (Err w) bs' = (is_vacant (slice_get (block_in bs b).slots i) ≡ false) × (w ≡ v) × (bs' ≡ bs)

  -- putting into an empty slot fills it; anywhere else the message comes back
  abbrev pub PutGives : Contents T → Slot → T → Result Unit T → Contents T → Type 0
  PutGives c at v (Ok u) d = (can_put c at ≡ true) × (d ≡ write_slot c at (Some v))
  PutGives c at v (Err w) d = (can_put c at ≡ false) × (w ≡ v) × (d ≡ c)

  -- the blocks that a spare section leaves
  abbrev pub blocks_with : List ℕ → List (BlockCells T) → List (BlockCells T)
  blocks_with [] blocks = blocks ++ blank ∷ []
  blocks_with (b ∷ bs) blocks = blocks

  abbrev pub spare_of : Contents T → ℕ
  spare_of c = spare_in c.spares (length c.blocks)

  abbrev pub without_spare : Contents T → Contents T
  without_spare c = record c { blocks = blocks_with c.spares c.blocks; spares = others_of c.spares }

  -- a spare section gives a block, or finds no spare one and no memory for a new one, and changes nothing; there are fewer
  -- than 2^64 blocks
  abbrev pub SpareGives : Contents T → Result ℕ NoMemory → Contents T → Type 0
  SpareGives c (Ok b) d = (b ≡ spare_of c) × (d ≡ without_spare c) × (length d.blocks < 2 ^ 64)
  SpareGives c (Err e) d = (c.spares ≡ []) × (d ≡ c)

  -- the contents after a block was given back
  abbrev pub with_retired : Contents T → ℕ → Contents T
  with_retired c b = record c { blocks = slice_set c.blocks b blank; spares = with_spare c.spares (length c.blocks) b }

  -- nothing at all, for cells that hold nothing that anybody knows
  abbrev pub no_contents : QueueForm → Contents T
  no_contents form = record { form = form; state = 0; head = 0; tail = 0; stamps = []; slots = []; head_block = 0; tail_block = 0; blocks = []; spares = [] }

  -- an open and empty queue of one slot
  abbrev pub empty_slot : Contents T
  empty_slot = record (no_contents (Bounded 1)) { slots = None ∷ [] }

  -- an open and empty unbounded queue, which has no block yet
  abbrev pub empty_blocks : Contents T
  empty_blocks = no_contents Unbounded
