-- The cells of a ring that was just made.
use Rattle.std.specs.Prelude.{ℕ, List, [], ◌∷◌, ◌++◌, Option, None}
use Rattle.std.proofs.Common.{zero, suc}
use Rattle.concurrent_queue.specs.Contents.{Contents, no_contents}
use Rattle.concurrent_queue.specs.declared.cells.QueueForm.TheVariants.{Bounded}

-- 0, 1, and so on
abbrev pub numbers_below : ℕ → List ℕ
numbers_below zero = []
numbers_below (suc n) = numbers_below n ++ n ∷ []

module _ {T : Type 0} where
  abbrev pub vacant_slots : ℕ → List (Option T)
  vacant_slots zero = []
  vacant_slots (suc n) = vacant_slots n ++ None ∷ []

  -- an open and empty ring
  abbrev pub empty_ring : ℕ → Contents T
  empty_ring cap = record (no_contents (Bounded cap)) { stamps = numbers_below cap; slots = vacant_slots cap }
