-- What a step tells its seat, and the first seat.
use Rattle.std.specs.Prelude.{◌≡◌, ℕ, true, Option, None, Some}
use Rattle.growing_table.specs.State.{Step, Me, me}
use Rattle.concurrent_queue.specs.Bridge.{Event, does}
use Rattle.concurrent_queue.specs.Deeds.{Deed}
use Rattle.concurrent_queue.specs.declared.cells.QueueForm.{QueueForm}
use Rattle.concurrent_queue.specs.declared.cells.QueueForm.TheVariants.{Unbounded}
use Rattle.concurrent_queue.specs.history.Shared.{going_on, first_view}
use Rattle.unbounded_cells.specs.declared.rule.BlockView.{BlockView}

module _ {T A : Type 0} where
  -- the first seat of a table, which has the lock of the spare list
  abbrev pub first_seat : A → BlockView T A
  first_seat a = record { party = first_view a Unbounded; held = None; keeper = true; top = 0; link = None; cleared = 0 }

  -- its party's machine has gone on
  abbrev pub on_with : BlockView T A → A → BlockView T A
  on_with v a = record v { party = going_on v.party a }

  module _ (moves : QueueForm → A → Event T → A → Type 0) where
    -- its machine made this operation, and nothing else of the seat has changed
    abbrev pub Does : Deed T → Me (Option T) (BlockView T A) → Me (Option T) (BlockView T A) → Type 0
    Does d m m' = moves Unbounded m.view.party.state (does (Some d)) m'.view.party.state × (m' ≡ me (on_with m.view m'.view.party.state) m.hand)

    abbrev pub makes : (ℕ → Deed T) → Step → Me (Option T) (BlockView T A) → ℕ → Me (Option T) (BlockView T A) → Type 0
    makes d st m found m' = Does (d found) m m'
