-- A growing table as plain data, and what one step does to it.
-- It has words of its own, and blocks, numbered from 0 in the order in which they were made, each with words and slots. A slot is at home with a known value, or out with one seat.
use Rattle.std.specs.Prelude.{◌≡◌, ℕ, ◌<◌, ◌^◌, List, [], ◌∷◌, ◌++◌, length, Option, Some, None, slice_index_or, slice_set, replicate}
use mathlib.Core.Option.{some}
use lib.ListN.{get_elem?}

pub record BlockState (S : Type 0) : Type 0 where
  pub words : List ℕ
  pub homes : List (Option S)

pub record State (S V : Type 0) : Type 0 where
  pub words : List ℕ
  pub blocks : List (BlockState S)
  pub views : List V

-- a seat's view, and the slot that is out with it: its block's number, its own, and its value
pub record Me (S V : Type 0) : Type 0 where
  pub view : V
  pub hand : Option (ℕ × ℕ × S)

-- a word of the table's own, a word of a block, or the number of blocks, which only a new block changes
pub data Spot : Type 0 where
  own : ℕ → Spot
  within : ℕ → ℕ → Spot
  count : Spot

-- what is stepped on, and the operands
pub record Step : Type 0 where
  pub spot : Spot
  pub first : ℕ
  pub second : ℕ

abbrev pub step : Spot → ℕ → ℕ → Step
step x a b = record { spot = x; first = a; second = b }

-- A slot of a block is taken out, or given back
pub data Act (S : Type 0) : Type 0 where
  keeps : Act S
  takes : ℕ → ℕ → S → Act S
  gives : ℕ → ℕ → S → Act S

abbrev pub state : {S V : Type 0} → List ℕ → List (BlockState S) → List V → State S V
state ws bs vs = record { words = ws; blocks = bs; views = vs }

abbrev pub me : {S V : Type 0} → V → Option (ℕ × ℕ × S) → Me S V
me v h = record { view = v; hand = h }

abbrev pub words_with : List ℕ → Spot → ℕ → List ℕ
words_with ws (own i) x = slice_set ws i x
words_with ws (within n i) x = ws
words_with ws count x = ws

module _ {S : Type 0} where
  abbrev pub block_of : List ℕ → List (Option S) → BlockState S
  block_of ws hs = record { words = ws; homes = hs }

  -- a new block of n words and n slots
  abbrev pub blank : ℕ → S → BlockState S
  blank n x = block_of (replicate n 0) (replicate n (Some x))

  abbrev pub no_block : BlockState S
  no_block = block_of [] []

  abbrev pub block : List (BlockState S) → ℕ → BlockState S
  block bs n = slice_index_or bs n no_block

  abbrev pub home_of : List (BlockState S) → ℕ → ℕ → Option S
  home_of bs n j = slice_index_or (block bs n).homes j None

  abbrev pub with_home : List (BlockState S) → ℕ → ℕ → Option S → List (BlockState S)
  with_home bs n j h = slice_set bs n (block_of (block bs n).words (slice_set (block bs n).homes j h))

  abbrev pub word_of : List ℕ → List (BlockState S) → Spot → ℕ
  word_of ws bs (own i) = slice_index_or ws i 0
  word_of ws bs (within n i) = slice_index_or (block bs n).words i 0
  word_of ws bs count = length bs

  abbrev pub blocks_with : List (BlockState S) → Spot → ℕ → List (BlockState S)
  blocks_with bs (own i) x = bs
  blocks_with bs (within n i) x = slice_set bs n (block_of (slice_set (block bs n).words i x) (block bs n).homes)
  blocks_with bs count x = bs

  abbrev pub Has : List ℕ → List (BlockState S) → Spot → Type 0
  Has ws bs (own i) = i < length ws
  Has ws bs (within n i) = (n < length bs) × (i < length (block bs n).words)
  Has ws bs count = Unit {0}

  abbrev pub blocks_after : List (BlockState S) → Act S → List (BlockState S)
  blocks_after bs keeps = bs
  blocks_after bs (takes n j y) = with_home bs n j None
  blocks_after bs (gives n j y) = with_home bs n j (Some y)

module _ {S V : Type 0} where
  abbrev pub me_after : Me S V → V → Act S → Me S V
  me_after m w keeps = me w m.hand
  me_after m w (takes n j y) = me w (Some (n, j, y))
  me_after m w (gives n j y) = me w None

  abbrev pub Valid : List (BlockState S) → Me S V → Act S → Type 0
  Valid bs m keeps = Unit {0}
  Valid bs m (takes n j y) = home_of bs n j ≡ Some y
  Valid bs m (gives n j y) = m.hand ≡ Some (n, j, y)

  module _ (holds : State S V → Type 0) where
    -- with these words and blocks, the seat has a new view and an act that keep the rule, and `then` holds of the seat after
    abbrev pub Goes : List ℕ → List (BlockState S) → List V → ℕ → Me S V → (Me S V → Type 0) → Type 0
    Goes ws bs vs id m then = (w : V) × (a : Act S) × Valid bs m a × holds (state ws (blocks_after bs a) (slice_set vs id w)) × then (me_after m w a)

    -- Whatever the table is, the step may turn this word to f of what it was
    abbrev pub Allows : ℕ → Me S V → Spot → (ℕ → ℕ) → (ℕ → Me S V → Type 0) → Type 0
    Allows id m x f then = (s : State S V) → holds s → get_elem? s.views id ≡ some m.view → Has s.words s.blocks x → word_of s.words s.blocks x < 2 ^ 64
        → Goes (words_with s.words x (f (word_of s.words s.blocks x))) (blocks_with s.blocks x (f (word_of s.words s.blocks x))) s.views id m (then (word_of s.words s.blocks x))

    -- a block more may join, and is told its number
    abbrev pub Makes : ℕ → S → ℕ → Me S V → (ℕ → Me S V → Type 0) → Type 0
    Makes n x id m then = (s : State S V) → holds s → get_elem? s.views id ≡ some m.view → length s.blocks < 2 ^ 39
        → (w : V) × holds (state s.words (s.blocks ++ blank n x ∷ []) (slice_set s.views id w)) × then (length s.blocks) (me w m.hand)

    -- when a word is read, a new seat may have some view
    abbrev pub Enters : ℕ → (ℕ → V → Type 0) → Type 0
    Enters i then = (s : State S V) → holds s → i < length s.words → slice_index_or s.words i 0 < 2 ^ 64
        → (w : V) × holds (state s.words s.blocks (s.views ++ w ∷ [])) × then (slice_index_or s.words i 0) w

    -- a seat's view is cut in two, and a new seat has the second
    abbrev pub Splits : ℕ → V → V → V → Type 0
    Splits id v left right = (s : State S V) → holds s → get_elem? s.views id ≡ some v → holds (state s.words s.blocks (slice_set s.views id left ++ right ∷ []))

    -- a seat takes in another's view, and the other is spent
    abbrev pub Joins : ℕ → V → ℕ → V → V → V → Type 0
    Joins id v other w both spent = (s : State S V) → holds s → get_elem? s.views id ≡ some v → ¬ (other ≡ id) → get_elem? (slice_set s.views id both) other ≡ some w
        → holds (state s.words s.blocks (slice_set (slice_set s.views id both) other spent))
