-- Where the words and slots of an unbounded queue lie, and what a step on one of them tells its seat.
use Rattle.std.specs.Prelude.{◌≡◌, ◌≢◌, ℕ, ◌<◌, ◌≤◌, ◌==◌, List, Option, None, Some, Ok, Err, Result, if◌then◌else◌}
use Rattle.std.specs.Int.{bit_at}
use Rattle.growing_table.specs.State.{Spot, own, within, count, Step, Me, me}
use Rattle.growing_table.specs.Seats.{me_of, Finds}
use Rattle.growing_table.specs.declared.seat.GrowingSeat.{GrowingSeat}
use Rattle.concurrent_queue.specs.Bridge.{Event, does}
use Rattle.concurrent_queue.specs.Contents.{Contents}
use Rattle.concurrent_queue.specs.Deeds.{Deed, loaded, stored, exchanged, added, bits_set, bits_kept, did_put, did_take}
use Rattle.concurrent_queue.specs.Effects.{Does}
use Rattle.concurrent_queue.specs.declared.cells.QueueForm.{QueueForm}
use Rattle.concurrent_queue.specs.declared.cells.Slot.{Slot}
use Rattle.concurrent_queue.specs.declared.cells.Slot.TheVariants.{At, In}
use Rattle.concurrent_queue.specs.declared.cells.Word.{Word}
use Rattle.concurrent_queue.specs.declared.cells.Word.TheVariants as word
use Rattle.concurrent_queue.specs.history.Shared.{few_word, answer}
use Rattle.unbounded_cells.specs.Laws.{deed_block}
use Rattle.unbounded_cells.specs.Rule.{Blocks, IsShown, root_at}
use Rattle.unbounded_cells.specs.Told as told
use Rattle.unbounded_cells.specs.Told.{on_with}
use Rattle.unbounded_cells.specs.declared.rule.BlockView.{BlockView}
use Rattle.unbounded_cells.specs.declared.words.Reached.{Reached}
use Rattle.unbounded_cells.specs.declared.words.Reached.TheVariants as reached

-- a word that is one of the table's: not a flag, and not a stamp
abbrev pub IsWhole : Word → Type 0
IsWhole word.State = Unit {0}
IsWhole word.Head = Unit {0}
IsWhole word.Tail = Unit {0}
IsWhole word.HeadBlock = Unit {0}
IsWhole word.TailBlock = Unit {0}
IsWhole (word.Next b) = Unit {0}
IsWhole (word.Reads b) = Unit {0}
IsWhole _ = ⊥

-- where it lies
abbrev pub spot_of : Word → Spot
spot_of (word.Next b) = within b 31
spot_of (word.Reads b) = within b 32
spot_of w = own (root_at w)

-- and which word lies there
abbrev pub word_at : Spot → Word
word_at (own k) = few_word k
word_at (within b k) = if k == 31 then word.Next b else word.Reads b
word_at count = word.State

-- the flag of a slot of that block
abbrev pub flag_in : Spot → ℕ → Word
flag_in (own k) i = word.State
flag_in (within b k) i = word.Written b i
flag_in count i = word.State

-- a word that no unbounded queue has: its block has no such slot, or it is a ring's
abbrev pub IsNowhere : Word → Type 0
IsNowhere (word.Stamp i) = Unit {0}
IsNowhere (word.Written b i) = 31 ≤ i
IsNowhere _ = ⊥

-- a slot that none has
abbrev pub IsNoSlot : Slot → Type 0
IsNoSlot (At i) = Unit {0}
IsNoSlot (In b i) = 31 ≤ i

-- a seat's view, and the slot that is out with it
abbrev pub Seat : Type 0 → Type 0 → Type 0
Seat T A = Me (Option T) (BlockView T A)

module _ {T : Type 0} where
  -- an operation that leaves all cells as they are, of whatever queue without a bound
  abbrev pub LeavesAll : Deed T → Type 0
  LeavesAll d = (ws : List ℕ) (bs : Blocks T) (c : Contents T) → IsShown ws bs c → Does d c c

module _ {T A H : Type 0} where
  -- what was found of a word, and that nothing else has changed; or the operation was made
  abbrev pub IsReached : Type 0 → GrowingSeat T (BlockView T A) H → GrowingSeat T (BlockView T A) H → Word → Reached T → Type 0
  IsReached made s s' w (reached.Own k) = IsWhole w × (spot_of w ≡ own k) × (k < 32) × (me_of s' ≡ me_of s)
  IsReached made s s' w (reached.Within p k) = IsWhole w × (spot_of w ≡ within p.number k) × (k < 35) × Finds s' p × (me_of s' ≡ me_of s)
  IsReached made s s' w (reached.Flag p i) = (w ≡ word.Written p.number i) × (i < 31) × Finds s' p × (me_of s' ≡ me_of s)
  IsReached made s s' w reached.Nowhere = made

module _ {T A : Type 0} where
  module _ (moves : QueueForm → A → Event T → A → Type 0) where
    -- ---- words

    abbrev pub loads : Step → Seat T A → ℕ → Seat T A → Type 0
    loads st m found m' = told.Does moves (loaded (word_at st.spot) found) m m'

    abbrev pub stores : Step → Seat T A → ℕ → Seat T A → Type 0
    stores st m found m' = told.Does moves (stored (word_at st.spot) st.first) m m'

    abbrev pub exchanges : Step → Seat T A → ℕ → Seat T A → Type 0
    exchanges st m found m' = told.Does moves (exchanged (word_at st.spot) st.first st.second (answer found st.first)) m m'

    abbrev pub adds : Step → Seat T A → ℕ → Seat T A → Type 0
    adds st m found m' = told.Does moves (added (word_at st.spot) st.first found) m m'

    abbrev pub sets_bits : Step → Seat T A → ℕ → Seat T A → Type 0
    sets_bits st m found m' = told.Does moves (bits_set (word_at st.spot) st.first found) m m'

    abbrev pub keeps_bits : Step → Seat T A → ℕ → Seat T A → Type 0
    keeps_bits st m found m' = told.Does moves (bits_kept (word_at st.spot) st.first found) m m'

    -- the flag of this slot is read, or set
    abbrev pub reads_flag : ℕ → Step → Seat T A → ℕ → Seat T A → Type 0
    reads_flag i st m found m' = told.Does moves (loaded (flag_in st.spot i) (bit_at found i)) m m'

    abbrev pub sets_flag : ℕ → Step → Seat T A → ℕ → Seat T A → Type 0
    sets_flag i st m found m' = told.Does moves (stored (flag_in st.spot i) 1) m m'

    -- an operation that leaves all cells as they are
    abbrev pub happens : Deed T → Step → Seat T A → ℕ → Seat T A → Type 0
    happens d st m found m' = told.Does moves d m m'

    -- where there is no block of this number the operation on it was made, and otherwise nothing
    abbrev pub misses : Deed T → Step → Seat T A → ℕ → Seat T A → Type 0
    misses d st m found m' = (n : ℕ) → deed_block d ≡ Some n → (found ≤ n → told.Does moves d m m') × (n < found → m' ≡ m)
