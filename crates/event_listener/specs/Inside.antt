-- The fields of a list, seen as its two lists.
use Rattle.std.specs.Prelude.{ℕ, ◌-◌, ◌^◌, ◌<◌, ◌≤◌, List, ◌++◌, Option, None}
use Rattle.slab.specs.Slab.{slab_len}
use Rattle.event_listener.specs.declared.list.List.TheInside as list
use Rattle.event_listener.specs.Chain.{Link, Entry, Sound, after_of, before_of, entry_at, lists_at, walk}
use Rattle.event_listener.specs.Lists.{ListView}
use Rattle.event_listener.specs.Order.{IsInOrder}

module _ {T W : Type 0} where
  -- the links of the told chain
  abbrev pub told_after : list.Inside T W → Link
  told_after a = after_of a.told a.nodes.slab

  abbrev pub told_before : list.Inside T W → Link
  told_before a = before_of a.told a.nodes.slab

  -- the links of the waiting chain
  abbrev pub waiting_after : list.Inside T W → Link
  waiting_after a = after_of a.waiting a.nodes.slab

  abbrev pub waiting_before : list.Inside T W → Link
  waiting_before a = before_of a.waiting a.nodes.slab

  abbrev pub entries : list.Inside T W → ℕ → Option (Entry T W)
  entries a = entry_at a.nodes.slab

  -- the told nodes from the first to the last of their chain, then the waiting ones of theirs
  abbrev pub chain : list.Inside T W → List ℕ
  chain a = walk (told_after a) a.told_count None ++ walk (waiting_after a) (slab_len a.nodes.slab - a.told_count) None

  abbrev pub shown : list.Inside T W → ListView T W
  shown a =
      record {
        lists = lists_at (entries a) (chain a);
        visits = a.nodes.last;
        serials = a.serials;
        room = a.nodes.slab.capacity - slab_len a.nodes.slab;
        looks = a.nodes.looks;
      }

  -- what holds of the fields of every list
  pub record SoundBy (a : list.Inside T W) (ks ws : List ℕ) : Type 0 where
    pub within : slab_len a.nodes.slab ≤ a.nodes.slab.capacity
    pub fits : a.nodes.slab.capacity < 2 ^ 64
    pub sound : Sound (told_after a) (told_before a) (waiting_after a) (waiting_before a) (entries a) (slab_len a.nodes.slab) a.told_count a.serials ks ws
    pub in_order : IsInOrder (lists_at (entries a) (ks ++ ws)) a.serials

  abbrev pub IsSound : list.Inside T W → Type 0
  IsSound a = (ks : List ℕ) × (ws : List ℕ) × SoundBy a ks ws
