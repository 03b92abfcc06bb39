-- The rule of a table of locks, whose values keep a fact about a key. The key is given when the table is made, and is no parameter of a type.
use Rattle.std.specs.Prelude.{◌≡◌, ◌≢◌, ◌⊎◌, ℕ, suc, ◌*◌, ◌^◌, ◌<◌, ◌≤◌, List, [], ◌∷◌, length, slice_index_or, Option, Some, None}
use mathlib.Core.Option.{some, none}
use lib.ListN.{get_elem?}
use Rattle.atomic_table.specs.Table.{State, Me, Step}
use Rattle.atomic_table.specs.Seated.{TableId}
use Rattle.keyed_lock.specs.declared.rule.Turn.{Turn}

abbrev pub turn : {K : Type 0} → K → Option ℕ → Turn K
turn k which = record { about = k; has = which }

-- these are values for the locks from number i on
abbrev pub KeepsFrom : {X : Type 0} → (ℕ → X → Type 0) → ℕ → List X → Type 0
KeepsFrom keep i [] = Unit {0}
KeepsFrom keep i (x ∷ xs) = keep i x × KeepsFrom keep (suc i) xs

-- the table has lock i: a slot for its value, and its word
abbrev pub HasLock : TableId → ℕ → Type 0
HasLock t i = (i < t.slots) × (16 * t.slots ≤ t.words) × (16 * t.slots < 2 ^ 64)

module _ {X K : Type 0} (keeps : K → ℕ → X → Type 0) (k : K) (s : State (Option X) (Turn K)) where
  -- nobody has the value of lock i: its word is 0, and the value is at home and keeps the fact
  abbrev pub IsFree : ℕ → Type 0
  IsFree i =
      (slice_index_or s.words (16 * i) 0 ≡ 0) × ((x : X) × (get_elem? s.homes i ≡ some (some (Some x))) × keeps k i x) × ((j : ℕ) → get_elem? s.views j ≢ some (turn k (Some i)))

  -- its word is 1 or 2, the value is out, and exactly one seat has it
  abbrev pub IsTaken : ℕ → Type 0
  IsTaken i =
      (j : ℕ) × (0 < slice_index_or s.words (16 * i) 0) × (slice_index_or s.words (16 * i) 0 ≤ 2) × (get_elem? s.homes i ≡ some none) × (get_elem? s.views j ≡ some (turn k (Some i)))
      × ((l : ℕ) → get_elem? s.views l ≡ some (turn k (Some i)) → l ≡ j)

  pub record AreLocks : Type 0 where
    pub wide : 16 * length s.homes ≤ length s.words
    pub keyed : (j : ℕ) (v : Turn K) → get_elem? s.views j ≡ some v → v.about ≡ k
    pub each : (i : ℕ) → i < length s.homes → IsFree i ⊎ IsTaken i

-- what a seat knows, and the values that it has
abbrev pub Seated : Type 0 → Type 0 → Type 0
Seated X K = Me (Option X) (Turn K)

module _ {X K : Type 0} where
  -- a seat that has no value
  abbrev pub waits : K → Seated X K
  waits k = (turn k None, [])

  -- a seat that has lock i's slot, in which this lies
  abbrev pub holds : K → ℕ → Option X → Seated X K
  holds k i x = (turn k (Some i), (i, x) ∷ [])

  -- a thread that tried to take the value of lock i has it now, or its seat is as it was
  abbrev pub Took : (K → ℕ → X → Type 0) → K → ℕ → Option X → Seated X K → Type 0
  Took keeps k i (Some x) m = keeps k i x × (m ≡ holds k i None)
  Took keeps k i None m = m ≡ waits k

  -- what a step tells its seat: it is a new one; it has the value if it found 0; it has given the value back
  abbrev pub sits : Step (Option X) → Seated X K → ℕ → Seated X K → Type 0
  sits st m found m' = m' ≡ waits m.0.about

  abbrev pub takes_it : (K → ℕ → X → Type 0) → Step (Option X) → Seated X K → ℕ → Seated X K → Type 0
  takes_it keeps st m found m' =
      (i : ℕ) → st.word ≡ 16 * i → (found ≡ 0 → (x : X) × keeps m.0.about i x × (m' ≡ holds m.0.about i (Some x))) × (found ≢ 0 → m' ≡ m)

  abbrev pub gives_it : Step (Option X) → Seated X K → ℕ → Seated X K → Type 0
  gives_it st m found m' = m' ≡ waits m.0.about
