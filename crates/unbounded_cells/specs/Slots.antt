-- What a step on the guard of a slot tells its seat.
use Rattle.std.specs.Prelude.{◌≡◌, ◌≢◌, ℕ, Option, None, Some, Ok, Err}
use Rattle.growing_table.specs.State.{Spot, own, within, count, Step, Me, me}
use Rattle.concurrent_queue.specs.Bridge.{Event, does}
use Rattle.concurrent_queue.specs.Deeds.{Deed, did_put, did_take}
use Rattle.concurrent_queue.specs.declared.cells.QueueForm.{QueueForm}
use Rattle.concurrent_queue.specs.declared.cells.QueueForm.TheVariants.{Unbounded}
use Rattle.concurrent_queue.specs.declared.cells.Slot.TheVariants.{In}
use Rattle.unbounded_cells.specs.Told.{on_with}
use Rattle.unbounded_cells.specs.Words.{Seat}
use Rattle.unbounded_cells.specs.declared.rule.BlockView.{BlockView}

module _ {T A : Type 0} where
  -- the seat has this slot out, or none
  abbrev pub holds : BlockView T A → Option (ℕ × ℕ × Option T) → BlockView T A
  holds v held = record v { held = held }

  module _ (moves : QueueForm → A → Event T → A → Type 0) where
    -- the slot whose guard was won: its content was x, and the history has y there from now on
    abbrev pub Won : ℕ → ℕ → Option T → Option T → Deed T → Seat T A → Seat T A → Type 0
    Won n i x y d m m' = moves Unbounded m.view.party.state (does (Some d)) m'.view.party.state × (m' ≡ me (holds (on_with m.view m'.view.party.state) (Some (n, i, y))) (Some (n, i, x)))

    -- a message is taken out of a slot in the step that wins its guard; if another seat has it nothing was done
    abbrev pub TakesAt : ℕ → ℕ → Seat T A → ℕ → Seat T A → Type 0
    TakesAt n i m found m' = (found ≡ 0 → (x : Option T) × Won n i x None (did_take (In n i) x) m m') × (found ≢ 0 → m' ≡ m)

    -- this message is put into a slot in the step that wins its guard, or is returned
    abbrev pub PutOn : ℕ → ℕ → T → Option T → Seat T A → Seat T A → Type 0
    PutOn n i v None m m' = Won n i None (Some v) (did_put (In n i) v (Ok tt)) m m'
    PutOn n i v (Some y) m m' = Won n i (Some y) (Some y) (did_put (In n i) v (Err v)) m m'

    abbrev pub PutsAt : ℕ → ℕ → T → Seat T A → ℕ → Seat T A → Type 0
    PutsAt n i v m found m' = (found ≡ 0 → (x : Option T) × PutOn n i v x m m') × (found ≢ 0 → m' ≡ m)

    abbrev pub takes_at : Spot → Seat T A → ℕ → Seat T A → Type 0
    takes_at (own k) m found m' = Unit {0}
    takes_at (within n i) m found m' = TakesAt n i m found m'
    takes_at count m found m' = Unit {0}

    abbrev pub takes : Step → Seat T A → ℕ → Seat T A → Type 0
    takes st m found m' = takes_at st.spot m found m'

    abbrev pub puts_at : Spot → Option T → Seat T A → ℕ → Seat T A → Type 0
    puts_at (within n i) (Some v) m found m' = PutsAt n i v m found m'
    puts_at (within n i) None m found m' = Unit {0}
    puts_at (own k) o m found m' = Unit {0}
    puts_at count o m found m' = Unit {0}

    abbrev pub puts : Option T → Step → Seat T A → ℕ → Seat T A → Type 0
    puts o st m found m' = puts_at st.spot o m found m'

  -- the slot and its guard are given back
  abbrev pub gives : Step → Seat T A → ℕ → Seat T A → Type 0
  gives st m found m' = m' ≡ me (holds m.view None) None
