-- A table of two marks: word i is at least as large as each seat says that its list i is long.
use Rattle.std.specs.Prelude.{◌≡◌, ℕ, ◌≤◌, [], length, slice_index_or}
use mathlib.Core.Option.{some}
use lib.ListN.{get_elem?}
use Rattle.atomic_table.specs.Table.{State, Me, Step}
use Rattle.keyed_lock_tests.specs.declared.lists.Says.{Says}

abbrev pub says : ℕ → ℕ → Says
says i n = record { list = i; length = n }

abbrev pub AreMarks : State Unit Says → Type 0
AreMarks s = (2 ≤ length s.words) × ((j : ℕ) (v : Says) → get_elem? s.views j ≡ some v → v.length ≤ slice_index_or s.words v.list 0)

-- a new seat says that its list has nothing
abbrev pub begins : Step Unit → Me Unit Says → ℕ → Me Unit Says → Type 0
begins st m found m' = m' ≡ (says st.word 0, [])

-- its list is as long as the operand is now
abbrev pub becomes : Step Unit → Me Unit Says → ℕ → Me Unit Says → Type 0
becomes st m found m' = m' ≡ (says m.0.list st.first, m.1)

-- the word is at least so large
abbrev pub finds : Step Unit → Me Unit Says → ℕ → Me Unit Says → Type 0
finds st m found m' = (m' ≡ m) × ((n : ℕ) → m.0 ≡ says st.word n → n ≤ found)
