-- Which rows of the kit a growing table is.
-- Row 0 has the table's own words. Row 1 has the number of blocks, and in its cell d the link to the block that has the number 2 ^ d - 1. The block n lies in row n + 2.
-- That block has 2 ^ d cells more than others, with the links to the blocks after it up to the number 2 ^ (d + 1) - 1.
use Rattle.std.specs.Prelude.{◌≡◌, ℕ, zero, suc, ◌+◌, ◌^◌, ◌<◌, ◌≤◌, Bool, true, false, List, [], ◌∷◌, map, length, replicate, Option, Some, None}
use mathlib.Core.Option.{some}
use lib.ListN.{get_elem?}
use mathlib.Core.Path.{refl}
use denote.RawPtr.{Ptr, InBlock, block_ptr, null_ptr}
use Rattle.atomic_blocks.specs.Cells as cells
use Rattle.growing_table.specs.State.{BlockState, State, Me, me, block_of, state}
use Rattle.growing_table.specs.declared.sight.Known.{Known}
use Rattle.growing_table.specs.declared.sight.Sight.{Sight}

pub in_block_prop : (p : Ptr) → IsProp (InBlock p)
in_block_prop (block_ptr b o) x y = refl
in_block_prop null_ptr x y = absurd x

abbrev pub known : List Ptr → Known
known ps = record { marker = record {}; places = ps }

abbrev pub sight : {V : Type 0} → V → ℕ → ℕ → List Ptr → Bool → ℕ → List Ptr → Sight V
sight w n at chart maker made plan = record { client = w; cells = n; at = at; chart = known chart; maker = maker; made = made; plan = known plan }

-- a seat that makes no blocks
abbrev pub novice : {V : Type 0} → ℕ → List Ptr → V → Sight V
novice n chart w = sight w n 0 chart false 0 []

-- a seat that makes the blocks, of which there are so many
abbrev pub maker : {V : Type 0} → ℕ → List Ptr → ℕ → V → Sight V
maker n chart made w = sight w n 0 chart true made []

abbrev pub client : {V : Type 0} → Sight V → V
client v = v.client

-- the first of a list, at most so many
abbrev pub front : {A : Type 0} → List A → ℕ → List A
front [] n = []
front (x ∷ xs) zero = []
front (x ∷ xs) (suc n) = x ∷ front xs n

-- n + 1 is 2 ^ d, and j more, which are fewer
abbrev pub IsAt : ℕ → ℕ → ℕ → Type 0
IsAt n d j = (2 ^ d + j ≡ n + 1) × (j < 2 ^ d)

-- the row and the cell that have the link to a block
abbrev pub entry : ℕ → ℕ → ℕ → ℕ × ℕ
entry n d zero = (1, d)
entry n d (suc j) = (2 ^ d + 1, n + suc j)

-- that cell lies in the row at p, as far as it is known where the rows lie
abbrev pub Found : Ptr → List Ptr → ℕ → ℕ → Ptr → Type 0
Found top chart d zero p = (p ≡ top) × (d < 64)
Found top chart d (suc j) p = get_elem? chart (2 ^ d + 1) ≡ some p

-- the row at p has the link to the block b in its cell i
abbrev pub Reaches : ℕ → Ptr → List Ptr → ℕ → ℕ → Ptr → ℕ → Type 0
Reaches n top chart b k p i = (d : ℕ) × (j : ℕ) × IsAt b d j × (k ≡ (entry n d j).0) × (i ≡ (entry n d j).1) × Found top chart d j p

-- how many cells the block has for such links
abbrev pub more_cells : ℕ → ℕ → ℕ
more_cells d zero = 2 ^ d
more_cells d (suc j) = 0

abbrev pub Rows : Type 0 → Type 0
Rows S = List (cells.Row S)

-- what the kit keeps of the rows and seats, and what of one of them
abbrev pub KitState : Type 0 → Type 0 → Type 0
KitState S V = cells.State S (Sight V)

abbrev pub KitMe : Type 0 → Type 0 → Type 0
KitMe S V = cells.Me S (Sight V)

abbrev pub hand_of : {S : Type 0} → ℕ → Option (Ptr × ℕ × S) → Option (ℕ × ℕ × S)
hand_of n None = None
hand_of n (Some h) = Some (n, h.1, h.2)

module _ {S : Type 0} where
  abbrev pub word : cells.Cell S → ℕ
  word c = c.word

  abbrev pub home : cells.Cell S → Option S
  home c = c.home

  abbrev pub at : cells.Row S → Ptr
  at r = r.at

  abbrev pub places : Rows S → List Ptr
  places rows = map at rows

  abbrev pub plain_block : ℕ → cells.Row S → BlockState S
  plain_block n r = block_of (map word (front r.cells n)) (map home (front r.cells n))

  abbrev pub plain_words : Rows S → List ℕ
  plain_words rows = map word (cells.row rows 0).cells

  abbrev pub plain_blocks : ℕ → Rows S → List (BlockState S)
  plain_blocks n [] = []
  plain_blocks n (x ∷ []) = []
  plain_blocks n (x ∷ y ∷ rows) = map (plain_block n) rows

  -- the cells of a new block of this number, which lies at p
  abbrev pub IsNext : ℕ → ℕ → Ptr → List (cells.Cell (Option S)) → Type 0
  IsNext n k p cs = (d : ℕ) × (j : ℕ) × IsAt k d j × (cs ≡ replicate (n + more_cells d j) (cells.cell 0 p (Some None)))

  -- the block k is laid, and its link stands in its entry
  abbrev pub Entered : ℕ → Rows S → ℕ → ℕ → ℕ → Type 0
  Entered n rows k d j = InBlock (cells.row rows (suc (suc k))).at × (length (cells.row rows (suc (suc k))).cells ≡ n + more_cells d j) × (cells.link_of rows (entry n d j).0 (entry n d j).1 ≡ (cells.row rows (suc (suc k))).at)

  -- a table of `wide` words whose blocks have n words and slots each
  pub record Laid (wide n : ℕ) (root top : Ptr) (rows : Rows S) : Type 0 where
    pub tall : 2 ≤ length rows
    pub few : length rows ≤ 2 ^ 39
    pub small : (wide ≤ 2 ^ 39) × (n ≤ 2 ^ 39)
    pub root_at : (cells.row rows 0).at ≡ root
    pub root_long : length (cells.row rows 0).cells ≡ wide
    pub top_at : (cells.row rows 1).at ≡ top
    pub top_long : length (cells.row rows 1).cells ≡ 64
    pub counted : cells.word_of rows 1 0 + 2 ≡ length rows
    pub entered : (k d j : ℕ) → suc (suc k) < length rows → IsAt k d j → Entered n rows k d j

  -- what a seat knows of the rows: where some lie; and the one that makes blocks, how many there are, and the link to the next one
  pub record Knows {V : Type 0} (n : ℕ) (rows : Rows S) (v : Sight V) : Type 0 where
    pub sized : 0 < v.cells → v.cells ≡ n
    pub charted : (k : ℕ) (p : Ptr) → get_elem? v.chart.places k ≡ some p → (k < length rows) × ((cells.row rows k).at ≡ p)
    pub whole : v.maker ≡ true → v.made + 2 ≡ length rows
    pub planned : v.maker ≡ true → (p : Ptr) → v.plan.places ≡ p ∷ [] → (d j : ℕ) → IsAt v.made d j → cells.link_of rows (entry n d j).0 (entry n d j).1 ≡ p

module _ {S V : Type 0} where
  -- what a client knows of its seat
  abbrev pub plain_me : KitMe S V → Me S V
  plain_me m = me m.view.client (hand_of m.view.at m.hand)

  -- the slot that is out is of a block that the seat knows
  abbrev pub Holding : KitMe S V → Type 0
  Holding m = (h : Ptr × ℕ × S) → m.hand ≡ Some h → (get_elem? m.view.chart.places (suc (suc m.view.at)) ≡ some h.0) × (h.1 < m.view.cells)

  pub record Grown (wide n : ℕ) (root top : Ptr) (holds : State S V → Type 0) (s : KitState S V) : Type 0 where
    pub laid : Laid wide n root top s.rows
    pub knows : (j : ℕ) (v : Sight V) → get_elem? s.views j ≡ some v → Knows n s.rows v
    pub single : (j k : ℕ) (v w : Sight V) → get_elem? s.views j ≡ some v → get_elem? s.views k ≡ some w → v.maker ≡ true → w.maker ≡ true → j ≡ k
    pub agreed : holds (state (plain_words s.rows) (plain_blocks n s.rows) (map client s.views))
