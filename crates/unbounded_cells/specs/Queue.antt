-- The length of a history of the queue's own machine.
use Rattle.std.specs.Prelude.{◌≡◌, ℕ, List, length}
use Rattle.concurrent_queue.specs.Contents.{Contents}
use Rattle.concurrent_queue.specs.declared.cells.QueueForm.TheVariants.{Unbounded}
use Rattle.concurrent_queue.specs.declared.history.party.Standing.{Standing}
use Rattle.concurrent_queue.specs.declared.history.rule.View.{View}
use Rattle.concurrent_queue.specs.history.Keeps.{Tally}
use Rattle.concurrent_queue.specs.history.Runs.{IsQueueHistory}

module _ {T : Type 0} where
  abbrev pub sized : ℕ → List (View T (Standing T)) → Contents T → Tally → Type 0
  sized n views c t = (h : IsQueueHistory Unbounded views c) × (length h.events ≡ n)
