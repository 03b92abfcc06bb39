-- What it is to have been shown a thing, by what a trace says of each operation and of a message on its way.
use Rattle.concurrent_queue.specs.Deeds.{Deed, loaded, stored, exchanged, added, bits_set, bits_kept, did_put, spared, retired, put_answer}
use Rattle.concurrent_queue.specs.declared.cells.Slot.{Slot}
use Rattle.concurrent_queue.specs.declared.seen.Shown.{Shown}
use Rattle.concurrent_queue.specs.declared.seen.Shown.TheVariants.{Loaded, Stored, Exchanged, Added, BitsSet, BitsKept, Put, Spared, Retired}

module _ {T X : Type 0} (did : Deed T → X → X → Type 0) (brought : Slot → T → X → X → Type 0) where
  -- this was seen between the two
  abbrev pub Sees : Shown → X → X → Type 0
  Sees (Loaded at found) a b = did (loaded at found) a b
  Sees (Stored at value) a b = did (stored at value) a b
  Sees (Exchanged at expected next answer) a b = did (exchanged at expected next answer) a b
  Sees (Added at by found) a b = did (added at by found) a b
  Sees (BitsSet at bits found) a b = did (bits_set at bits found) a b
  Sees (BitsKept at bits found) a b = did (bits_kept at bits found) a b
  Sees (Put at done) a b = (before : X) (message : T) → brought at message before a → did (did_put at message (put_answer message done)) before b
  Sees (Spared answer) a b = did (spared answer) a b
  Sees (Retired block) a b = did (retired block) a b
