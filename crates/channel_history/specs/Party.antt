-- A party of a channel: where it stands, and what leads it on. It speaks of no cells.
use Rattle.std.specs.Prelude.{◌≡◌, ℕ, List, [], ◌∷◌, ◌++◌, map, None}
use mathlib.Core.Option as home
use lib.ListN.{get_elem?}
use Rattle.concurrent_queue.specs.declared.cells.QueueForm.{QueueForm}
use Rattle.channel_calls.specs.declared.ask.ChannelAsk.{ChannelAsk}
use Rattle.channel_calls.specs.declared.whole.Completed.{Completed}
use Rattle.channel_steps.specs.every_run.Bridge.{Act, on_queue, on_nothing, Event, begins, does, ActsTo}
use Rattle.channel_history.specs.declared.party.Belongings.{Belongings}
use Rattle.channel_history.specs.declared.party.Standing.{Standing}

module _ {W : Type 0} where
  abbrev pub nothing : Belongings W
  nothing = record { lists = []; handles = []; listeners = [] }

  -- what lay with two seats, together
  abbrev pub both : Belongings W → Belongings W → Belongings W
  both a b = record { lists = a.lists ++ b.lists; handles = a.handles ++ b.handles; listeners = a.listeners ++ b.listeners }

module _ {T W : Type 0} where
  -- a party that has done nothing
  abbrev pub fresh : Standing T W
  fresh = record { asked = []; stage = None; given = []; own = nothing }

  abbrev pub with_own : Belongings W → Standing T W → Standing T W
  with_own own s = record s { own = own }

  -- where each party stands, by its seat's view; one that hasn't come yet has done nothing
  abbrev pub standing_in : home.Option (Standing T W) → Standing T W
  standing_in (home.some s) = s
  standing_in home.none = fresh

  abbrev pub standing_of : List (Standing T W) → ℕ → Standing T W
  standing_of views p = standing_in (get_elem? views p)

  -- what a party's calls asked, by its events
  abbrev pub asks_of : List (Event T W) → List (ChannelAsk T W)
  asks_of [] = []
  asks_of (begins ask ∷ xs) = ask ∷ asks_of xs
  asks_of (does o ∷ xs) = asks_of xs

  -- by these events, each of which its machine makes, a party comes from the one standing to the other
  pub record Leads (form : QueueForm) (s : Standing T W) (xs : List (Event T W)) (t : Standing T W) : Type 0 where
    pub more : List (Completed T)
    pub acts : ActsTo form s.stage xs more t.stage
    pub given : t.given ≡ s.given ++ more
    pub asked : t.asked ≡ s.asked ++ asks_of xs

  -- an act that touches no cell, no list and no count
  abbrev pub TouchesNothing : Act T W → Type 0
  TouchesNothing on_nothing = Unit {0}
  TouchesNothing (on_queue None) = Unit {0}
  TouchesNothing o = ⊥

  abbrev pub TouchNothing : List (Act T W) → Type 0
  TouchNothing [] = Unit {0}
  TouchNothing (o ∷ os) = TouchesNothing o × TouchNothing os

  -- a party begins a call
  abbrev pub Begins : QueueForm → Standing T W → ChannelAsk T W → Standing T W → Type 0
  Begins form s ask t = Leads form s (begins ask ∷ []) t

  -- its call makes this act, after steps that touch nothing: an atomic operation of a thread, or its section on a list
  abbrev pub Makes : QueueForm → Standing T W → Act T W → Standing T W → Type 0
  Makes form s o t = (os : List (Act T W)) × TouchNothing os × Leads form s (map does (os ++ o ∷ [])) t

  -- its call ends, after steps that touch nothing
  abbrev pub Ends : QueueForm → Standing T W → Standing T W → Type 0
  Ends form s t = (os : List (Act T W)) × TouchNothing os × Leads form s (map does os) t × (t.stage ≡ None)
