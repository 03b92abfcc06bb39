-- The order of listening, and what it says of keys.
use Rattle.std.specs.Prelude.{◌≡◌, ℕ, ◌<◌, List, [], ◌∷◌, ◌++◌, map, None}
use Rattle.event_listener.specs.declared.key.Key.{Key}
use Rattle.event_listener.specs.Lists.{Lists, ListView, serial_of, kind_of}

-- each of these numbers is greater than n
abbrev pub AllAbove : ℕ → List ℕ → Type 0
AllAbove n [] = Unit {0}
AllAbove n (m ∷ ms) = (n < m) × AllAbove n ms

-- each number is less than all behind it
abbrev pub Ascending : List ℕ → Type 0
Ascending [] = Unit {0}
Ascending (n ∷ ns) = AllAbove n ns × Ascending ns

-- the serials of these listeners
abbrev pub serials_of : {X : Type 0} → List (Key × X) → List ℕ
serials_of es = map (λ e. serial_of e.0) es

-- Serials are given in the order of listening. Those of the told listeners, then those of the waiting ones and then
-- the one to be given next ascend: so the told ones are the first in the order of listening, both lists keep that
-- order, and no key stands twice.
abbrev pub IsInOrder : {T W : Type 0} → Lists T W → ℕ → Type 0
IsInOrder lists next = Ascending (serials_of lists.told ++ serials_of lists.waiting ++ next ∷ [])

-- the key was given once, and its listener is off the list
pub record HasLeft {T W : Type 0} (view : ListView T W) (key : Key) : Type 0 where
  pub given : serial_of key < view.serials
  pub unlisted : kind_of view.lists key ≡ None
