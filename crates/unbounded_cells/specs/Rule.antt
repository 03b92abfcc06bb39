-- The rule of an unbounded queue's table: what the words and slots of the table and of its blocks hold is what the machine's history made of
-- them, or there was once a history as long as there are positions. The words of a spare block are nobody's concern.
use Rattle.std.specs.Prelude.{◌≡◌, ◌≢◌, ◌⊎◌, ℕ, ◌+◌, ◌<◌, ◌≤◌, ◌^◌, true, List, [], ◌∷◌, length, map, replicate, Option, None, Some, slice_index, slice_index_or, slice_set}
use Rattle.std.specs.Int.{bit_at}
use mathlib.Core.Option as home
use lib.ListN.{get_elem?}
use Rattle.growing_table.specs.State.{State, BlockState, block, home_of}
use Rattle.concurrent_queue.specs.Bridge.{Event}
use Rattle.concurrent_queue.specs.Contents.{Contents, BlockCells, blank, block_in, read}
use Rattle.concurrent_queue.specs.Places.{place_of, index_of}
use Rattle.concurrent_queue.specs.machine.BlocksDenotes.{times}
use Rattle.concurrent_queue.specs.declared.cells.QueueForm.{QueueForm}
use Rattle.concurrent_queue.specs.declared.cells.QueueForm.TheVariants.{Unbounded}
use Rattle.concurrent_queue.specs.declared.cells.Word.{Word}
use Rattle.concurrent_queue.specs.declared.cells.Word.TheVariants as word
use Rattle.concurrent_queue.specs.declared.history.rule.View.{View}
use Rattle.concurrent_queue.specs.history.Keeps.{HistoryOf, Tally}
use Rattle.concurrent_queue.specs.history.Shared.{AreSeated, tally_in}
use Rattle.unbounded_cells.specs.Laws.{Long}
use Rattle.unbounded_cells.specs.declared.rule.BlockView.{BlockView}

-- a word of the queue's own, behind no block
abbrev pub IsRoot : Word → Type 0
IsRoot word.State = Unit {0}
IsRoot word.Head = Unit {0}
IsRoot word.Tail = Unit {0}
IsRoot word.HeadBlock = Unit {0}
IsRoot word.TailBlock = Unit {0}
IsRoot _ = ⊥

abbrev pub root_at : Word → ℕ
root_at w = index_of (place_of w)

-- the words of a new table: all 0, but for the two counts
abbrev pub first_words : ℕ → List ℕ
first_words n = slice_set (slice_set (replicate 32 0) 9 n) 28 n

abbrev pub Homes : Type 0 → Type 0
Homes T = List (Option (Option T))

abbrev pub Blocks : Type 0 → Type 0
Blocks T = List (BlockState (Option T))

abbrev pub TableState : Type 0 → Type 0 → Type 0
TableState T A = State (Option T) (BlockView T A)

module _ {T : Type 0} where
  abbrev pub inner : Blocks T → ℕ → ℕ → ℕ
  inner bs b k = slice_index_or (block bs b).words k 0

  -- the words of a block in use: behind a guard for each slot come the link to the next block, how many were read, and the flags
  pub record WordsShown (ws : List ℕ) (x : BlockCells T) : Type 0 where
    pub next : x.next ≡ slice_index_or ws 31 0
    pub reads : x.reads ≡ slice_index_or ws 32 0
    pub written : (i : ℕ) → i < 31 → slice_index x.written i ≡ bit_at (slice_index_or ws 33 0) i

  -- its slots that are at home
  pub record SlotsShown (hs : Homes T) (x : BlockCells T) : Type 0 where
    pub wide : length x.slots ≡ 31
    pub flags : length x.written ≡ 31
    pub at_home : (i : ℕ) (y : Option T) → i < 31 → slice_index_or hs i None ≡ Some y → slice_index_or x.slots i None ≡ y

  -- all blocks. One that is spare is blank, whatever its words hold
  pub record BlocksShown (bs : Blocks T) (cs : List (BlockCells T)) (spares : List ℕ) : Type 0 where
    pub made : length cs ≡ length bs
    pub used : (b : ℕ) → b < length bs → times b spares ≡ 0 → WordsShown (block bs b).words (block_in cs b)
    pub slots : (b : ℕ) → b < length bs → SlotsShown (block bs b).homes (block_in cs b)
    pub idle : (b : ℕ) → 1 ≤ times b spares → block_in cs b ≡ blank
    pub near : (b : ℕ) → length bs ≤ b → times b spares ≡ 0
    pub once : (b : ℕ) → times b spares ≤ 1

  -- the spare blocks in order, each with the number of the next one, more one
  abbrev pub Chain : Blocks T → ℕ → List ℕ → Type 0
  Chain bs top [] = top ≡ 0
  Chain bs top (b ∷ spares) = (top ≡ b + 1) × (b < length bs) × Chain bs (inner bs b 34) spares

  -- what the queue's cells hold
  pub record IsShown (ws : List ℕ) (bs : Blocks T) (c : Contents T) : Type 0 where
    pub form : c.form ≡ Unbounded
    pub none : (c.stamps ≡ []) × (c.slots ≡ [])
    pub root : (w : Word) → IsRoot w → read c w ≡ slice_index_or ws (root_at w) 0
    pub blocks : BlocksShown bs c.blocks c.spares
    pub chain : Chain bs (slice_index_or ws 25 0) c.spares

  abbrev pub slot_in : Option (ℕ × ℕ × Option T) → Option (ℕ × ℕ)
  slot_in None = None
  slot_in (Some x) = Some (x.0, x.1)

module _ {T A : Type 0} where
  abbrev pub party : BlockView T A → View T A
  party v = v.party

  abbrev pub parties : List (BlockView T A) → List (View T A)
  parties views = map party views

  abbrev pub slot_of : BlockView T A → Option (ℕ × ℕ)
  slot_of v = slot_in v.held

  -- the slot is at home, its guard is 0, and no view says that it is out
  abbrev pub IsFree : TableState T A → ℕ → ℕ → Type 0
  IsFree s b i = (inner s.blocks b i ≡ 0) × ((x : Option T) × (home_of s.blocks b i ≡ Some x)) × ((j : ℕ) (v : BlockView T A) → get_elem? s.views j ≡ home.some v → slot_of v ≢ Some (b, i))

  -- it is out, its guard is 1, and just one view says so
  abbrev pub IsWon : TableState T A → ℕ → ℕ → Type 0
  IsWon s b i =
      (j : ℕ) × (inner s.blocks b i ≡ 1) × (home_of s.blocks b i ≡ None) × ((v : BlockView T A) × (get_elem? s.views j ≡ home.some v) × (slot_of v ≡ Some (b, i)))
      × ((k : ℕ) (u : BlockView T A) → get_elem? s.views k ≡ home.some u → slot_of u ≡ Some (b, i) → k ≡ j)

  -- what a seat that has the lock of the spare list knows: nobody else writes the word of the first spare block, nor any of the next ones
  pub record KeepsSpares (ws : List ℕ) (bs : Blocks T) (v : BlockView T A) : Type 0 where
    pub top : slice_index_or ws 25 0 ≡ v.top
    pub link : (b n : ℕ) → v.link ≡ Some (b, n) → inner bs b 34 ≡ n

  -- so many words of the first spare block are 0
  abbrev pub Cleared : Blocks T → BlockView T A → Type 0
  Cleared bs v = (b i : ℕ) → v.top ≡ b + 1 → i < v.cleared → i < 3 → inner bs b (31 + i) ≡ 0

  module _ (moves : QueueForm → A → Event T → A → Type 0) (is_history : HistoryOf T A) (sized : ℕ → List (View T A) → Contents T → Tally → Type 0) where
    -- THE HISTORY: a short one has led to what the table shows
    pub record IsKept (ws : List ℕ) (bs : Blocks T) (views : List (BlockView T A)) : Type 0 where
      pub contents : Contents T
      pub shown : IsShown ws bs contents
      pub away : (j : ℕ) (v : BlockView T A) (b i : ℕ) (x : Option T) → get_elem? views j ≡ home.some v → v.held ≡ Some (b, i, x) → slice_index_or (block_in contents.blocks b).slots i None ≡ x
      pub cleared : (j : ℕ) (v : BlockView T A) → get_elem? views j ≡ home.some v → v.keeper ≡ true → Cleared bs v
      pub history : is_history Unbounded (parties views) contents (tally_in Unbounded ws)
      pub count : ℕ
      pub measured : sized count (parties views) contents (tally_in Unbounded ws)
      pub short : count < 2 ^ 61

    -- THE RULE
    pub record IsRuled (admits : Type 0) (s : TableState T A) : Type 0 where
      pub wide : (b : ℕ) → b < length s.blocks → 31 ≤ length (block s.blocks b).homes
      pub guards : (b i : ℕ) → b < length s.blocks → i < 31 → IsFree s b i ⊎ IsWon s b i
      pub there : (j : ℕ) (v : BlockView T A) (b i : ℕ) → get_elem? s.views j ≡ home.some v → slot_of v ≡ Some (b, i) → b < length s.blocks
      pub seated : AreSeated Unbounded (slice_index s.words 24) (parties s.views)
      pub single : (j k : ℕ) (v w : BlockView T A) → get_elem? s.views j ≡ home.some v → get_elem? s.views k ≡ home.some w → v.keeper ≡ true → w.keeper ≡ true → j ≡ k
      pub spares : (j : ℕ) (v : BlockView T A) → get_elem? s.views j ≡ home.some v → v.keeper ≡ true → KeepsSpares s.words s.blocks v
      pub kept : (admits → slice_index s.words 24 ≡ 0) → IsKept s.words s.blocks s.views ⊎ Long moves is_history sized
