-- What the functions say of a table, its seats and places.
use Rattle.std.specs.Prelude.{◌≡◌, ℕ, suc, Bool, Option}
use mathlib.Core.Option.{some}
use lib.ListN.{get_elem?}
use denote.RawPtr.{Ptr}
use Rattle.growing_table.specs.State.{Me}
use Rattle.growing_table.specs.Laid.{plain_me}
use Rattle.growing_table.specs.declared.seat.GrowingSeat.{GrowingSeat}
use Rattle.growing_table.specs.declared.seat.Place.{Place}
use Rattle.growing_table.specs.declared.table.GrowingTable.{GrowingTable}

module _ {T V A : Type 0} where
  -- what the seat knows, and the slot that is out with it
  abbrev pub me_of : GrowingSeat T V A → Me (Option T) V
  me_of s = plain_me s.seat.me

  -- its number among the views
  abbrev pub number_of : GrowingSeat T V A → ℕ
  number_of s = s.seat.id

  -- whether it makes the blocks
  abbrev pub makes_blocks : GrowingSeat T V A → Bool
  makes_blocks s = s.seat.me.view.maker

  -- it knows where the block lies
  abbrev pub Finds : GrowingSeat T V A → Place T → Type 0
  Finds s p = get_elem? s.seat.me.view.chart.places (suc (suc p.number)) ≡ some p.link.ptr

  -- the second knows each place that the first knew
  abbrev pub Recognizes : GrowingSeat T V A → GrowingSeat T V A → Type 0
  Recognizes old new = (k : ℕ) (p : Ptr) → get_elem? old.seat.me.view.chart.places k ≡ some p → get_elem? new.seat.me.view.chart.places k ≡ some p

  -- the same seat, which still knows each place that it knew
  abbrev pub IsSame : GrowingSeat T V A → GrowingSeat T V A → Type 0
  IsSame old new = (new.seat.rows ≡ old.seat.rows) × (new.seat.heap ≡ old.seat.heap) × (new.seat.id ≡ old.seat.id) × (new.seat.me.view.cells ≡ old.seat.me.view.cells) × Recognizes old new

  -- and makes the blocks if it did
  abbrev pub Follows : GrowingSeat T V A → GrowingSeat T V A → Type 0
  Follows old new = IsSame old new × (makes_blocks new ≡ makes_blocks old)

  module _ {K P : Type 0} where
    -- what the table was told at the start
    abbrev pub about : GrowingTable T V K P A → K
    about t = t.rows.key.about

    -- the seat is one of this table
    abbrev pub Sits : GrowingTable T V K P A → GrowingSeat T V A → Type 0
    Sits t s = (s.seat.rows ≡ t.rows.id) × (s.seat.heap ≡ t.rows.heap) × (s.seat.me.view.cells ≡ t.cells)
