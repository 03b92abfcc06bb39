-- One history of the cells of a queue: what all parties did, in one order, and which part of it each party's view vouches for. It
-- speaks of no table, and of no machine.
use Rattle.std.specs.Prelude.{◌≡◌, ℕ, ◌≤◌, List, [], ◌∷◌, length}
use mathlib.Core.Option.{some}
use lib.ListN.{get_elem?}
use Rattle.concurrent_queue.specs.Bridge.{Event, Happening, own, InOneOrder}
use Rattle.concurrent_queue.specs.Contents.{Contents}
use Rattle.concurrent_queue.specs.Made.{new_cells}
use Rattle.concurrent_queue.specs.declared.cells.QueueForm.{QueueForm}
use Rattle.concurrent_queue.specs.declared.history.rule.View.{View}

module _ {T A : Type 0} (moves : QueueForm → A → Event T → A → Type 0) where
  -- these events lead a party's machine from the one state to the other
  abbrev pub Walks : QueueForm → A → List (Event T) → A → Type 0
  Walks form a [] b = b ≡ a
  Walks form a (x ∷ xs) b = (m : A) × moves form a x m × Walks form m xs b

  module _ (first : A) where
    -- there is one history, which leads from the cells of a new queue to the cells as they are. What each party did is what its machine
    -- does, up to the state that its view says; and a party that hasn't come yet has done nothing
    pub record IsHistory (form : QueueForm) (views : List (View T A)) (c : Contents T) : Type 0 where
      pub events : List (Happening T)
      pub order : InOneOrder events (new_cells form) c
      pub each : (p : ℕ) (v : View T A) → get_elem? views p ≡ some v → Walks form first (own p events) v.state
      pub apart : (p : ℕ) → length views ≤ p → own p events ≡ []
