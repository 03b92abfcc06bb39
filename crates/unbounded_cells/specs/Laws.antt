-- What a machine of an unbounded queue says of blocks: a party's next operation is made on a block in use, and on one that is given back no other's is.
use Rattle.std.specs.Prelude.{◌≡◌, ℕ, ◌<◌, ◌≤◌, ◌^◌, List, length, Option, None, Some}
use mathlib.Core.Option.{some}
use lib.ListN.{get_elem?}
use Rattle.concurrent_queue.specs.Bridge.{Event, does}
use Rattle.concurrent_queue.specs.Contents.{Contents, slot_at}
use Rattle.concurrent_queue.specs.Deeds.{Deed, loaded, stored, exchanged, added, bits_set, bits_kept, did_put, did_take, spared, retired}
use Rattle.concurrent_queue.specs.machine.BlocksDenotes.{times}
use Rattle.concurrent_queue.specs.declared.cells.QueueForm.{QueueForm}
use Rattle.concurrent_queue.specs.declared.cells.QueueForm.TheVariants.{Unbounded}
use Rattle.concurrent_queue.specs.declared.cells.Slot.{Slot}
use Rattle.concurrent_queue.specs.declared.cells.Slot.TheVariants.{At, In}
use Rattle.concurrent_queue.specs.declared.cells.Word.{Word}
use Rattle.concurrent_queue.specs.declared.cells.Word.TheVariants.{Next, Reads, Written}
use Rattle.concurrent_queue.specs.declared.history.rule.View.{View}
use Rattle.concurrent_queue.specs.history.Keeps.{HistoryOf, Tally}

abbrev pub word_block : Word → Option ℕ
word_block (Next b) = Some b
word_block (Reads b) = Some b
word_block (Written b i) = Some b
word_block _ = None

abbrev pub slot_block : Slot → Option ℕ
slot_block (At i) = None
slot_block (In b i) = Some b

-- a flag is only read, or set to 1
abbrev pub word_is_no_flag : Word → Type 0
word_is_no_flag (Written b i) = ⊥
word_is_no_flag _ = Unit {0}

abbrev pub flag_is_one : Word → ℕ → Type 0
flag_is_one (Written b i) x = x ≡ 1
flag_is_one _ x = Unit {0}

module _ {T : Type 0} where
  -- the block on which an operation is made, if it is made on one's word or slot, or gives one back
  abbrev pub deed_block : Deed T → Option ℕ
  deed_block (loaded w x) = word_block w
  deed_block (stored w x) = word_block w
  deed_block (exchanged w x y o) = word_block w
  deed_block (added w x o) = word_block w
  deed_block (bits_set w x o) = word_block w
  deed_block (bits_kept w x o) = word_block w
  deed_block (did_put at v o) = slot_block at
  deed_block (did_take at o) = slot_block at
  deed_block (spared o) = None
  deed_block (retired b) = Some b

  abbrev pub OnFlags : Deed T → Type 0
  OnFlags (stored w x) = flag_is_one w x
  OnFlags (exchanged w x y o) = word_is_no_flag w
  OnFlags (added w x o) = word_is_no_flag w
  OnFlags (bits_set w x o) = word_is_no_flag w
  OnFlags (bits_kept w x o) = word_is_no_flag w
  OnFlags _ = Unit {0}

module _ {T A : Type 0} (moves : QueueForm → A → Event T → A → Type 0) where
  -- this operation may be the party's next
  abbrev pub IsNext : View T A → Deed T → Type 0
  IsNext v d = (a : A) × moves Unbounded v.state (does (Some d)) a

  -- `sized n` says that there is a history of n events
  module _ (history : HistoryOf T A) (sized : ℕ → List (View T A) → Contents T → Tally → Type 0) where
    -- there was a history as long as there are positions
    abbrev pub Long : Type 0
    Long = (views : List (View T A)) × (c : Contents T) × (t : Tally) × (n : ℕ) × sized n views c t × (2 ^ 61 ≤ n)

    pub record KeepsBlocks : Type 0 where
      -- each history has a length
      pub measured : (views : List (View T A)) (c : Contents T) (t : Tally) → history Unbounded views c t → (n : ℕ) × sized n views c t
      -- there are no more blocks than events
      pub few : (views : List (View T A)) (c : Contents T) (t : Tally) (n : ℕ) → sized n views c t → length c.blocks ≤ n
      -- in a short one an operation on a block is made on one in use
      pub in_use : (views : List (View T A)) (c : Contents T) (t : Tally) (n : ℕ) → sized n views c t → n < 2 ^ 61
          → (p : ℕ) (v : View T A) (d : Deed T) (b : ℕ) → get_elem? views p ≡ some v → IsNext v d → deed_block d ≡ Some b → (b < length c.blocks) × (times b c.spares ≡ 0)
      -- and all slots of a block that is given back are empty
      pub emptied : (views : List (View T A)) (c : Contents T) (t : Tally) (n : ℕ) → sized n views c t → n < 2 ^ 61
          → (p : ℕ) (v : View T A) (b i : ℕ) → get_elem? views p ≡ some v → IsNext v (retired b) → i < 31 → slot_at c (In b i) ≡ None
      -- of a flag nothing else is asked than to be read or set
      pub flags : (v : View T A) (d : Deed T) → IsNext v d → OnFlags d
