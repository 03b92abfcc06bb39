-- Where the words of a shared queue lie: each in a table of words, by an index, and the flags of written slots as bits of one
-- word. No two of them lie in the same place.
use Rattle.std.specs.Prelude.{◌≡◌, ℕ, ◌+◌, ◌<◌, ◌^◌, Option, None, Some}
use Rattle.concurrent_queue.specs.declared.cells.Word.{Word}
use Rattle.concurrent_queue.specs.declared.cells.Word.TheVariants.{State, Head, Tail, Stamp, HeadBlock, TailBlock, Next, Reads, Written}
use Rattle.concurrent_queue.specs.declared.shared.cells.Place.{Place}
use Rattle.concurrent_queue.specs.declared.shared.cells.Place.TheVariants.{Own, InBlock, Bit}

-- among the queue's own words, among those of a block, or a bit of a block's word of flags
abbrev pub place_of : Word → Place
place_of State = Own 0
place_of Head = Own 1
place_of HeadBlock = Own 2
place_of Tail = Own 16
place_of TailBlock = Own 17
place_of (Stamp i) = Own (32 + i)
place_of (Next b) = InBlock b 0
place_of (Reads b) = InBlock b 1
place_of (Written b i) = Bit b 16 i

-- a ring's stamps have indices far below the end of all numbers
abbrev pub IsNear : Word → Type 0
IsNear (Stamp i) = 32 + i < 2 ^ 64
IsNear at = Unit {0}

-- the block whose table it is, or none for the queue's own; the index of the word there; and which of its bits, 0 for a whole word
abbrev pub table_of : Place → Option ℕ
table_of (Own word) = None
table_of (InBlock b word) = Some b
table_of (Bit b word i) = Some b

abbrev pub index_of : Place → ℕ
index_of (Own word) = word
index_of (InBlock b word) = word
index_of (Bit b word i) = word

abbrev pub offset_of : Place → ℕ
offset_of (Own word) = 0
offset_of (InBlock b word) = 0
offset_of (Bit b word i) = i

-- words that lie in one table, at one index and at one bit are one word
abbrev pub OwnPlaces : Type 0
OwnPlaces = (v w : Word) → table_of (place_of v) ≡ table_of (place_of w) → index_of (place_of v) ≡ index_of (place_of w) → offset_of (place_of v) ≡ offset_of (place_of w) → v ≡ w

-- the flag of the slot at this offset, in its block's word of flags
abbrev pub flag_of : ℕ → ℕ
flag_of i = 2 ^ i

-- no two slots share one
abbrev pub OwnFlags : Type 0
OwnFlags = (i j : ℕ) → flag_of i ≡ flag_of j → i ≡ j
