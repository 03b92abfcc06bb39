-- The order of waking. Each name that may be woken has a place, and one that is woken comes last.
use Rattle.std.specs.Prelude.{◌∷◌, ◌++◌, if◌then◌else◌}
use Rattle.channel_world_runs.specs.Words.{Bool, List, [], Option, None, Some, Key, is_among, without_waiter, Call, Waiter, Op, Stream, plan_of, NameTable, OnReturn, Plan}
use Rattle.channel_world_runs.specs.NameTable.{is_name_pending}

-- the names that have a place, and those that were woken, in the order of their waking
pub record WakeOrder : Type 0 where
  pub places : List Waiter
  pub woken : List Waiter

abbrev pub no_places : WakeOrder
no_places = record { places = []; woken = [] }

-- those of these places that are marked, in order
abbrev pub marked_places : List (Waiter × Bool) → List Waiter
marked_places [] = []
marked_places (e ∷ es) = if e.1 then e.0 ∷ marked_places es else marked_places es

-- w has a place from now on, and was not woken
abbrev pub placed : Waiter → WakeOrder → WakeOrder
placed w o = record { places = w ∷ without_waiter w o.places; woken = without_waiter w o.woken }

-- the same, if it has a place
abbrev pub rested : Waiter → WakeOrder → WakeOrder
rested w o = if is_among w o.places then placed w o else o

-- w is woken: it comes last, if it has a place
abbrev pub woken_last : Waiter → WakeOrder → WakeOrder
woken_last w o =
    if is_among w o.places then record { places = without_waiter w o.places ++ w ∷ []; woken = without_waiter w o.woken ++ w ∷ [] } else o

-- w has no place any more
abbrev pub without_place : Waiter → WakeOrder → WakeOrder
without_place w o = record { places = without_waiter w o.places; woken = without_waiter w o.woken }

-- after a poll that left this listener, or none: with none it may not be woken any more
abbrev pub kept_place : Waiter → Option Key → WakeOrder → WakeOrder
kept_place w None o = without_place w o
kept_place w (Some key) o = o

-- once a call of this plan has begun: a name that is polled has a place, and one that is given up or dropped has none
abbrev pub order_planned : Plan → WakeOrder → WakeOrder
order_planned (Plan.Polls op) o = placed (Op op) o
order_planned (Plan.Streams receiver) o = placed (Stream receiver) o
order_planned (Plan.GivesUp op) o = without_place (Op op) o
order_planned (Plan.Drops handle) o = without_place (Stream handle) o
order_planned p o = o

module _ {T : Type 0} where
  -- those of these names that are pending are woken, one after another
  abbrev pub all_woken : NameTable T → List Waiter → WakeOrder → WakeOrder
  all_woken r [] o = o
  all_woken r (w ∷ ws) o = all_woken r ws (if is_name_pending r w then woken_last w o else o)

  -- once a call has begun
  abbrev pub order_begun : Call T → WakeOrder → WakeOrder
  order_begun c o = order_planned (plan_of c) o

  -- after a call with this to write back that left this listener, or none
  abbrev pub order_settled : OnReturn T → Option Key → WakeOrder → WakeOrder
  order_settled (OnReturn.Poll op) key o = kept_place (Op op) key o
  order_settled (OnReturn.PollNext receiver) key o = kept_place (Stream receiver) key o
  order_settled e key o = o
