-- What each step on the list of spare blocks tells the seat that has its lock.
use Rattle.std.specs.Prelude.{◌≡◌, ℕ, ◌+◌, ◌-◌, ◌<◌, ◌≤◌, true, Result, Option, None, Some, Ok, Err}
use Rattle.growing_table.specs.State.{Spot, Step, Me, me, own, within, count}
use Rattle.concurrent_queue.specs.Bridge.{Event, does}
use Rattle.concurrent_queue.specs.Deeds.{Deed, spared, retired}
use Rattle.concurrent_queue.specs.declared.cells.QueueForm.{QueueForm}
use Rattle.concurrent_queue.specs.declared.cells.QueueForm.TheVariants.{Unbounded}
use Rattle.concurrent_queue.specs.history.Shared.{going_on}
use Rattle.unbounded_cells.specs.Told.{Does, on_with}
use Rattle.unbounded_cells.specs.declared.rule.BlockView.{BlockView}

-- the block and the word on which a step is made
abbrev pub spot_block : Spot → ℕ
spot_block (own i) = 0
spot_block (within n i) = n
spot_block count = 0

abbrev pub spot_word : Spot → ℕ
spot_word (own i) = i
spot_word (within n i) = i
spot_word count = 0

module _ {T A : Type 0} where
  -- the view of the owner of the lock, once the list begins with this
  abbrev pub at_top : BlockView T A → ℕ → BlockView T A
  at_top v top = record v { top = top; link = None; cleared = 0 }

  -- and while it reads or clears words of the first spare block, or links another
  abbrev pub by_hand : BlockView T A → Option (ℕ × ℕ) → ℕ → BlockView T A
  by_hand v link cleared = record v { link = link; cleared = cleared }

  -- the word of the first spare block is read
  abbrev pub reads_top : Step → Me (Option T) (BlockView T A) → ℕ → Me (Option T) (BlockView T A) → Type 0
  reads_top st m found m' = (m' ≡ m) × (found ≡ m.view.top)

  -- a block's word of the next spare one is read, and is written
  abbrev pub reads_link : Step → Me (Option T) (BlockView T A) → ℕ → Me (Option T) (BlockView T A) → Type 0
  reads_link st m found m' = m' ≡ me (by_hand m.view (Some (spot_block st.spot, found)) m.view.cleared) m.hand

  abbrev pub writes_link : Step → Me (Option T) (BlockView T A) → ℕ → Me (Option T) (BlockView T A) → Type 0
  writes_link st m found m' = m' ≡ me (by_hand m.view (Some (spot_block st.spot, st.first)) m.view.cleared) m.hand

  -- one more of the three words of the first spare block is 0
  abbrev pub clears : Step → Me (Option T) (BlockView T A) → ℕ → Me (Option T) (BlockView T A) → Type 0
  clears st m found m' = m' ≡ me (by_hand m.view m.view.link (spot_word st.spot - 30)) m.hand

  module _ (moves : QueueForm → A → Event T → A → Type 0) where
    -- the party's machine made this operation, and the list begins with this from now on
    abbrev pub Leaves : Deed T → ℕ → Me (Option T) (BlockView T A) → Me (Option T) (BlockView T A) → Type 0
    Leaves d top m m' = moves Unbounded m.view.party.state (does (Some d)) m'.view.party.state × (m' ≡ me (at_top (on_with m.view m'.view.party.state) top) m.hand)

    -- the first spare block is taken
    abbrev pub takes_spare : Step → Me (Option T) (BlockView T A) → ℕ → Me (Option T) (BlockView T A) → Type 0
    takes_spare st m found m' = (b : ℕ) × (m.view.top ≡ b + 1) × Leaves (spared (Ok b)) st.first m m'

    -- a block is put on the list
    abbrev pub gives_back : Step → Me (Option T) (BlockView T A) → ℕ → Me (Option T) (BlockView T A) → Type 0
    gives_back st m found m' = (b : ℕ) × (st.first ≡ b + 1) × Leaves (retired b) st.first m m'

    -- none is spare, and a new one is made, or there is no memory
    abbrev pub makes_spare : Step → Me (Option T) (BlockView T A) → ℕ → Me (Option T) (BlockView T A) → Type 0
    makes_spare st m found m' = Leaves (spared (Ok found)) 0 m m'

    abbrev pub refuses_spare : Step → Me (Option T) (BlockView T A) → ℕ → Me (Option T) (BlockView T A) → Type 0
    refuses_spare st m found m' = Leaves (spared (Err (record {}))) 0 m m'

    -- the first spare block is looked for. It is there, or there was once a history as long as there are positions
    abbrev pub finds_spare : Step → Me (Option T) (BlockView T A) → ℕ → Me (Option T) (BlockView T A) → Type 0
    finds_spare st m found m' = (found < m.view.top → Does moves (spared (Err (record {}))) m m') × (m.view.top ≤ found → m' ≡ m)

  -- what the owner of the lock keeps while its party goes on
  abbrev pub GoesOn : Me (Option T) (BlockView T A) → Me (Option T) (BlockView T A) → Type 0
  GoesOn m m' = (m'.view.party ≡ going_on m.view.party m'.view.party.state) × (m'.view.held ≡ m.view.held) × (m'.view.keeper ≡ m.view.keeper) × (m'.hand ≡ m.hand)

  -- it has the lock of the spare list from now on, whose first block is this; nothing of it is read or cleared yet
  abbrev pub IsLocked : Me (Option T) (BlockView T A) → Me (Option T) (BlockView T A) → Type 0
  IsLocked m m' = (top : ℕ) × (m' ≡ me (record m.view { keeper = true; top = top; link = None; cleared = 0 }) m.hand)
