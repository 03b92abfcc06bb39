-- The rule of a table that threads share: a slot is out exactly where its guard is won, by the one seat whose view says so. Of
-- the words that are no guards nothing is said.
use Rattle.std.specs.Prelude.{◌≡◌, ◌≢◌, ℕ, ◌<◌, ◌≤◌, ◌⊎◌, ◌∷◌, length, List, Option, Some, None, slice_index_or}
use mathlib.Core.Option.{some, none}
use lib.ListN.{get_elem?}
use Rattle.atomic_table.specs.Table.{State, Me, Step, rest}

-- a seat: the slot that its view says it holds, and the slots that it really holds
abbrev pub Seated : Type 0 → Type 0
Seated T = Me (Option T) (Option ℕ)

-- the first words are 0
abbrev pub AreFree : ℕ → List ℕ → Type 0
AreFree n words = (i : ℕ) → i < n → slice_index_or words i 0 ≡ 0

module _ {T : Type 0} where
  -- the slot is at home, its guard is 0, and no seat's view says that it holds it
  abbrev pub IsFree : State (Option T) (Option ℕ) → ℕ → Type 0
  IsFree s i = (slice_index_or s.words i 0 ≡ 0) × ((x : Option T) × (get_elem? s.homes i ≡ some (some x))) × ((j : ℕ) → get_elem? s.views j ≢ some (Some i))

  -- the slot is out, its guard is 1, and just one seat's view says that it holds it
  abbrev pub IsWon : State (Option T) (Option ℕ) → ℕ → Type 0
  IsWon s i = (j : ℕ) × (slice_index_or s.words i 0 ≡ 1) × (get_elem? s.homes i ≡ some none) × (get_elem? s.views j ≡ some (Some i)) × ((k : ℕ) → get_elem? s.views k ≡ some (Some i) → k ≡ j)

  pub record IsGuarded (s : State (Option T) (Option ℕ)) : Type 0 where
    pub wide : length s.homes ≤ length s.words
    pub each : (i : ℕ) → i < length s.homes → IsFree s i ⊎ IsWon s i

  -- ---- what a step tells its seat

  -- a new seat holds no slot
  abbrev pub sat : Step (Option T) → Seated T → ℕ → Seated T → Type 0
  sat st m found m' = m'.0 ≡ None

  -- a step on a word that is no guard leaves the seat as it was
  abbrev pub looked : Step (Option T) → Seated T → ℕ → Seated T → Type 0
  looked st m found m' = m' ≡ m

  -- if the guard was 0 the seat now holds the slot; else nothing was done
  abbrev pub won : Step (Option T) → Seated T → ℕ → Seated T → Type 0
  won st m found m' = (found ≡ 0 → (m'.0 ≡ Some st.word) × ((x : Option T) × (m'.1 ≡ (st.word, x) ∷ m.1))) × (found ≢ 0 → m' ≡ m)

  -- the seat holds no slot any more
  abbrev pub gave : Step (Option T) → Seated T → ℕ → Seated T → Type 0
  gave st m found m' = (m'.0 ≡ None) × (m'.1 ≡ rest m.1)
