-- What each step on the rows tells the seat that makes it.
use Rattle.std.specs.Prelude.{◌≡◌, ℕ, suc, ◌+◌, ◌-◌, ◌^◌, ◌≤◌, ◌||◌, Bool, true, false, [], ◌∷◌, length, Some, None}
use mathlib.Core.Option.{some}
use lib.ListN.{get_elem?}
use denote.RawPtr.{Ptr, InBlock}
use Rattle.atomic_blocks.specs.Cells as cells
use Rattle.growing_table.specs.State.{Me, Step, step, own, within, count}
use Rattle.growing_table.specs.declared.sight.Sight.{Sight}
use Rattle.growing_table.specs.Laid.{KitMe, IsAt, entry, sight, plain_me, Holding}

module _ {S V : Type 0} where
  -- what it knew of where rows lie, it knows
  abbrev pub Recalls : KitMe S V → KitMe S V → Type 0
  Recalls m n = ((k : ℕ) (p : Ptr) → get_elem? m.view.chart.places k ≡ some p → get_elem? n.view.chart.places k ≡ some p) × (n.view.cells ≡ m.view.cells) × (n.view.maker ≡ m.view.maker) × Holding n

  abbrev pub Stays : KitMe S V → KitMe S V → Type 0
  Stays m n = Recalls m n × (n.view.made ≡ m.view.made) × (n.view.plan.places ≡ m.view.plan.places) × (n.spare ≡ m.spare)

  -- a step on a word of the table's own
  abbrev pub on_own : (Step → Me S V → ℕ → Me S V → Type 0) → cells.Step → KitMe S V → ℕ → KitMe S V → Type 0
  on_own then st m r n = Stays m n × then (step (own st.index) st.first st.second) (plain_me m) r (plain_me n)

  -- a step on a word of a block
  abbrev pub on_block : (Step → Me S V → ℕ → Me S V → Type 0) → cells.Step → KitMe S V → ℕ → KitMe S V → Type 0
  on_block then st m r n = Stays m n × then (step (within (st.row - 2) st.index) st.first st.second) (plain_me m) r (plain_me n)

  -- the number of blocks is read
  abbrev pub on_count : (Step → Me S V → ℕ → Me S V → Type 0) → cells.Step → KitMe S V → ℕ → KitMe S V → Type 0
  on_count then st m r n = Stays m n × (r + 2 ≡ length n.view.chart.places) × (r + 2 ≤ 2 ^ 39) × (m.view.maker ≡ true → r ≡ m.view.made) × then (step count 0 0) (plain_me m) r (plain_me n)

  -- a new seat comes
  abbrev pub on_entry : (Step → Me S V → ℕ → Me S V → Type 0) → cells.Step → KitMe S V → ℕ → KitMe S V → Type 0
  on_entry then st m r n = (n.view.cells ≡ m.view.cells) × (n.view.maker ≡ false) × then (step (own st.index) 0 0) (plain_me m) r (plain_me n)

  -- the link to a block is read, which says where it lies
  abbrev pub saw_link : ℕ → ℕ → KitMe S V → Ptr → KitMe S V → Type 0
  saw_link k i m q n = (n ≡ m) × ((b d j : ℕ) (p : Ptr) → get_elem? m.view.chart.places (suc (suc b)) ≡ some p → IsAt b d j → k ≡ (entry m.view.cells d j).0 → i ≡ (entry m.view.cells d j).1 → (q ≡ p) × InBlock p)

  abbrev pub with_plan : KitMe S V → Ptr → KitMe S V
  with_plan m q = cells.me (sight m.view.client m.view.cells m.view.at m.view.chart.places m.view.maker m.view.made (q ∷ [])) m.hand m.spare

  -- the link to the block that will be made is entered
  abbrev pub wrote_link : ℕ → ℕ → KitMe S V → Ptr → KitMe S V → Type 0
  wrote_link k i m q n = n ≡ with_plan m q

  -- the block joins
  abbrev pub on_making : (Step → Me S V → ℕ → Me S V → Type 0) → cells.Step → KitMe S V → ℕ → KitMe S V → Type 0
  on_making then st m r n = Recalls m n × (n.view.made ≡ m.view.made + 1) × (n.spare ≡ None) × ((x : cells.Row S) → m.spare ≡ Some x → get_elem? n.view.chart.places (suc (suc m.view.made)) ≡ some x.at)
      × then (step count 0 0) (plain_me m) m.view.made (plain_me n)

abbrev pub made_by : Bool → ℕ → ℕ → ℕ
made_by true a b = a
made_by false a b = b

module _ {V : Type 0} where
  abbrev pub with_client : Sight V → Bool → V → Sight V
  with_client v maker w = sight w v.cells v.at v.chart.places maker v.made []

  -- a new seat, beside one that knows as much
  abbrev pub new_seat : Sight V → Bool → V → Sight V
  new_seat v maker w = sight w v.cells 0 v.chart.places maker v.made []

  abbrev pub joined : Sight V → Sight V → V → Sight V
  joined v w x = sight x v.cells v.at v.chart.places (v.maker || w.maker) (made_by v.maker v.made w.made) []

  -- a seat that went into another
  abbrev pub over : V → Sight V
  over w = sight w 0 0 [] false 0 []
