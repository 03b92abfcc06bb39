-- The rows of a table that no thread shares any more, of which the blocks from some number on are freed.
use Rattle.std.specs.Prelude.{◌≡◌, ℕ, suc, ◌+◌, ◌^◌, ◌<◌, ◌≤◌, [], length}
use denote.RawPtr.{Ptr, InBlock}
use Rattle.atomic_blocks.specs.Cells.{row, AllHome}
use Rattle.growing_table.specs.Laid.{Rows, IsAt, Entered}

pub record Ending {S : Type 0} (wide n : ℕ) (root top : Ptr) (count : ℕ) (rows : Rows S) : Type 0 where
  pub small : n ≤ 2 ^ 39
  pub few : count ≤ 2 ^ 39
  pub root_at : (row rows 0).at ≡ root
  pub root_long : length (row rows 0).cells ≡ wide
  pub root_home : AllHome (row rows 0).cells
  pub top_at : (row rows 1).at ≡ top
  pub top_long : length (row rows 1).cells ≡ 64
  pub top_home : AllHome (row rows 1).cells
  pub left : (k d j : ℕ) → k < count → IsAt k d j → Entered n rows k d j × AllHome (row rows (suc (suc k))).cells
  pub gone : (k : ℕ) → count ≤ k → (row rows (suc (suc k))).cells ≡ []

-- the last block lies there, and has so many cells
abbrev pub IsLast : {S : Type 0} → Rows S → ℕ → Ptr → ℕ → Type 0
IsLast rows number p len = ((row rows (number + 2)).at ≡ p) × (length (row rows (number + 2)).cells ≡ len) × (0 < len) × InBlock p × AllHome (row rows (number + 2)).cells
