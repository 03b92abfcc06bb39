-- A table in which the word of a slot is its guard: while it is 0, the slot is at home.
use Rattle.std.specs.Prelude.{◌≡◌, ◌≢◌, ℕ, ◌<◌, List, length, Option, Some, None, slice_index_or}
use Rattle.growing_table.specs.State.{BlockState, State, Me, Spot, Step, own, within, count, block}

module _ {S : Type 0} where
  abbrev pub Sound : BlockState S → Type 0
  Sound b = (length b.words ≡ length b.homes) × ((j : ℕ) → j < length b.homes → slice_index_or b.words j 0 ≡ 0 → (y : S) × (slice_index_or b.homes j None ≡ Some y))

  abbrev pub AllSound : List (BlockState S) → Type 0
  AllSound bs = (n : ℕ) → Sound (block bs n)

module _ {S V : Type 0} where
  abbrev pub Guarded : State S V → Type 0
  Guarded s = AllSound s.blocks

  abbrev pub Won : Spot → Me S V → ℕ → Me S V → Type 0
  Won (own i) m r m' = Unit {0}
  Won (within n j) m r m' = (r ≡ 0 → (y : S) × (m'.hand ≡ Some (n, j, y))) × (r ≢ 0 → m' ≡ m)
  Won count m r m' = Unit {0}

  -- a guard was set, or was found set
  abbrev pub won : Step → Me S V → ℕ → Me S V → Type 0
  won st m r m' = Won st.spot m r m'

  abbrev pub gave : Step → Me S V → ℕ → Me S V → Type 0
  gave st m r m' = m'.hand ≡ None

  abbrev pub looked : Step → Me S V → ℕ → Me S V → Type 0
  looked st m r m' = m'.hand ≡ m.hand
