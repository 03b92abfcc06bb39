-- What a seat of an unbounded queue's table knows of its party, and the seat that lies behind the lock of the spare list.
use Rattle.std.specs.Prelude.{◌≡◌, ℕ, true, false, Option, None, Some}
use Rattle.std.specs.declared.alloc.Global.{Global}
use Rattle.growing_table.specs.Seats.{me_of, makes_blocks, Sits, Finds}
use Rattle.growing_table.specs.declared.seat.GrowingSeat.{GrowingSeat}
use Rattle.growing_table.specs.declared.seat.Place.{Place}
use Rattle.growing_table.specs.declared.table.GrowingTable.{GrowingTable}
use Rattle.concurrent_queue.specs.declared.history.rule.View.{View}
use Rattle.unbounded_cells.specs.declared.rule.BlockView.{BlockView}
use Rattle.unbounded_cells.specs.declared.table.Keeper.{Keeper}

module _ {T A H : Type 0} where
  -- what the seat knows of its party
  abbrev pub party_of : GrowingSeat T (BlockView T A) H → View T A
  party_of s = (me_of s).view.party

  -- both are seats of one table
  abbrev pub SameTable : GrowingSeat T (BlockView T A) H → GrowingSeat T (BlockView T A) H → Type 0
  SameTable old new = (new.seat.rows ≡ old.seat.rows) × (new.seat.heap ≡ old.seat.heap) × (new.seat.me.view.cells ≡ old.seat.me.view.cells)

  -- the second is the first, of the same party, which may have gone on
  abbrev pub IsSameParty : GrowingSeat T (BlockView T A) H → GrowingSeat T (BlockView T A) H → Type 0
  IsSameParty old new = SameTable old new × ((party_of new).who ≡ (party_of old).who) × ((party_of new).form ≡ (party_of old).form) × ((party_of new).over ≡ (party_of old).over)

  -- no slot is out with it
  abbrev pub HasNoSlot : GrowingSeat T (BlockView T A) H → Type 0
  HasNoSlot s = ((me_of s).hand ≡ None) × ((me_of s).view.held ≡ None)

  -- it has no right to the spare list
  abbrev pub HasNoLock : GrowingSeat T (BlockView T A) H → Type 0
  HasNoLock s = ((me_of s).view.keeper ≡ false) × (makes_blocks s ≡ false)

  -- it knows the place, if there is one
  abbrev pub KnowsPlace : GrowingSeat T (BlockView T A) H → Option (Place T) → Type 0
  KnowsPlace s last = (place : Place T) → last ≡ Some place → Finds s place

module _ {T A P : Type 0} where
  -- what the lock of the spare list keeps: the seat is one of this table, makes its blocks, and has the right to the list
  abbrev pub IsKeeper : GrowingTable T (BlockView T A) (Unit {0}) P Global → ℕ → Keeper T A → Type 0
  IsKeeper t n k = Sits t k.seat × (makes_blocks k.seat ≡ true) × ((me_of k.seat).hand ≡ None) × ((me_of k.seat).view.keeper ≡ true) × ((party_of k.seat).spent ≡ false)
