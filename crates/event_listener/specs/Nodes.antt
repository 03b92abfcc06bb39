-- What the private nodes hold.
use Rattle.std.specs.Prelude.{ℕ, ◌≡◌, ◌≤◌, ◌+◌, ◌^◌, ◌%◌, Bool, true, false, ◌==◌, ◌&&◌, not, if◌then◌else◌, Option, Some, None}
use Rattle.slab.specs.Slab.{slab_len}
use Rattle.event_listener.specs.declared.node.State.{State}
use Rattle.event_listener.specs.declared.node.State.TheVariants.{Waiting, Told}
use Rattle.event_listener.specs.declared.node.Node.{Node}
use Rattle.event_listener.specs.declared.node.Nodes.{Nodes}
use Rattle.event_listener.specs.declared.node.Seen.{Seen}

-- a number of 64 bits after one more, which is 0 after the greatest
abbrev pub more : ℕ → ℕ
more n = (n + 1) % 2 ^ 64

abbrev pub more_if : Bool → ℕ → ℕ
more_if counted n = if counted then more n else n

module _ {T W : Type 0} where
  abbrev pub is_told : State T W → Bool
  is_told (Waiting task) = false
  is_told (Told additional tag) = true

  -- whether the node has this serial, and then whether it is told
  abbrev pub found : Option (Node T W) → ℕ → Option Bool
  found None serial = None
  found (Some node) serial = if node.serial == serial then Some (is_told node.state) else None

  -- what a read of a place gives
  abbrev pub seen : Option (Node T W) → Option Seen
  seen None = None
  seen (Some node) = Some (record { serial = node.serial; after = node.after; is_told = is_told node.state })

  -- the visits after a read, where the node of the call's own serial counts for nothing, nor does a free place
  abbrev pub read_visits : Bool → Option ℕ → Option (Node T W) → ℕ → ℕ
  read_visits counted own None visits = visits
  read_visits counted None (Some node) visits = more_if counted visits
  read_visits counted (Some serial) (Some node) visits = more_if (counted && not (node.serial == serial)) visits

  -- the looks after one for a listener, where a free place counts for nothing
  abbrev pub found_looks : Option (Node T W) → ℕ → ℕ
  found_looks None looks = looks
  found_looks (Some node) looks = more looks

  -- the looks after one for a listener whose task is stored where it waits, which is a write besides
  abbrev pub stored_looks : Option (Node T W) → ℕ → ℕ → ℕ
  stored_looks None serial looks = looks
  stored_looks (Some node) serial looks = if (node.serial == serial) && not (is_told node.state) then more (more looks) else more looks

  -- the visits after a look, where the listener's own node counts for nothing either
  abbrev pub found_visits : Bool → Option (Node T W) → ℕ → ℕ → ℕ
  found_visits counted None serial visits = visits
  found_visits counted (Some node) serial visits = more_if (counted && not (node.serial == serial)) visits

  -- The nodes after a part of a call that makes none and takes none out: it looks at most so often, and visits as often
  -- where it is counted.
  pub record Stays (counted : Bool) (old new : Nodes T W) (most : ℕ) : Type 0 where
    pub len : slab_len new.slab ≡ slab_len old.slab
    pub capacity : new.slab.capacity ≡ old.slab.capacity
    pub visits : new.last ≤ old.last + most
    pub uncounted : counted ≡ false → new.last ≡ old.last
    pub looks : new.looks ≤ old.looks + most
