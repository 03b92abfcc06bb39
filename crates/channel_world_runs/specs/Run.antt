-- One step of many parties' by names: what it is to the channel, what becomes of the name state, and why a run ends before it.
use Rattle.std.specs.Prelude.{◌≡◌, ◌∷◌, ◌++◌, ◌⊎◌}
use Rattle.channel_world_runs.specs.Words.{ℕ, List, [], slice_get, unwrap_or, Option, None, Some, remove, nothing_kept, Reply, Returned, Call, Waiter, WorldRefusal, NoMemory, Next, Configuration, ChannelStep, NameTable, Entry, Step}
use Rattle.channel_world_model.specs.declared.run.Stopped.{Stopped}
use Rattle.channel_world_runs.specs.Bookkeeping.{asks, on_return_of, names_begun, written_back}
use Rattle.channel_world_runs.specs.Order.{WakeOrder, all_woken, order_begun, order_settled}
use Rattle.channel_world_runs.specs.Refusal.{step_refusal}
use Rattle.channel_world_runs.specs.Calls.{Agent}
use Rattle.channel_world_runs.specs.declared.step.PartyId.{PartyId}

-- the names, those that may be woken and those that were, in the order of waking, and the parties at work in the order in which their calls
-- began
pub record NameState (T : Type 0) : Type 0 where
  pub name_table : NameTable T
  pub order : WakeOrder
  pub agents : List (Agent T)

module _ {T : Type 0} where
  -- ---- one step

  -- what a step by names is to the channel: a call asks what it asks given the names and the listeners held at this moment
  abbrev pub channel_step : NameTable T → Step T → ChannelStep T Waiter
  channel_step r (Step.Begin p c) = ChannelStep.Begin p.0 (asks r c)
  channel_step r (Step.Step p) = ChannelStep.Step p.0

  -- a call has begun
  abbrev pub name_state_begun : PartyId → Call T → NameState T → NameState T
  name_state_begun p c b = record {
    name_table = names_begun b.name_table c;
    order = order_begun c b.order;
    agents = b.agents ++ record { party = p.0; on_return = on_return_of b.name_table c } ∷ [];
  }

  abbrev pub with_woken : List Waiter → NameState T → NameState T
  with_woken names b = record b { order = all_woken b.name_table names b.order }

  -- the k-th call has ended, with this reply, and left this: it writes back what it has to, and its party is at work no more
  abbrev pub name_state_ended : ℕ → Agent T → Option (Reply T) → Option (Returned T) → NameState T → NameState T
  name_state_ended k a None kept b = b
  name_state_ended k a (Some r) kept b =
      let left : Returned T = unwrap_or kept nothing_kept in
      record {
        name_table = written_back a.on_return r left b.name_table;
        order = order_settled a.on_return left.key b.order;
        agents = remove b.agents k;
      }

  -- the name state after a step that answers this or nothing, leaves this and wakes these
  abbrev pub IsNameStateOf : Step T → Option (Reply T) → Option (Returned T) → List Waiter → NameState T → NameState T → Type 0
  IsNameStateOf (Step.Begin p c) reply kept names old new = new ≡ name_state_begun p c old
  IsNameStateOf (Step.Step p) reply kept names old new =
      (k : ℕ) × (a : Agent T) × (slice_get old.agents k ≡ Some a) × (a.party ≡ p.0)
      × (new ≡ name_state_ended k a reply kept (with_woken names old))

  -- after one with this entry
  abbrev pub IsNameStateAfter : Step T → Entry T → Option (Returned T) → NameState T → NameState T → Type 0
  IsNameStateAfter x e kept old new = IsNameStateOf x e.reply kept e.woken.items old new

  -- a step that was made: nothing refuses it, the channel's step of it has this entry's mark, woken names and reply, and the
  -- name state is as it is to be
  pub record StepIsMade (b : NameState T) (s : Configuration T Waiter) (x : Step T) (e : Entry T) (c : NameState T) (t : Configuration T Waiter) : Type 0 where
    pub not_refused : step_refusal b.name_table b.agents x ≡ None
    pub kept : Option (Returned T)
    pub next : Next s (channel_step b.name_table x) (record { mark = e.mark; reply = e.reply; kept = kept }) e.woken.items t
    pub name_state : IsNameStateAfter x e kept b c

  -- ---- the end of a run

  -- a step is refused for the first reason that there is, or for want of room if there is none
  abbrev pub MayRefuseStep : NameState T → Step T → WorldRefusal → Type 0
  MayRefuseStep b x why = (step_refusal b.name_table b.agents x ≡ Some why) ⊎ ((step_refusal b.name_table b.agents x ≡ None) × (why ≡ NoMemory))

  abbrev pub MayStopAt : NameState T → Step T → Option WorldRefusal → Type 0
  MayStopAt b x None = step_refusal b.name_table b.agents x ≡ None
  MayStopAt b x (Some why) = MayRefuseStep b x why

  -- the list is at its end, or the step in front is refused, at the place that says how many were made
  abbrev pub StopsAt : NameState T → List (Step T) → ℕ → Option Stopped → Type 0
  StopsAt b left made None = left ≡ []
  StopsAt b [] made (Some stopped) = ⊥
  StopsAt b (x ∷ xs) made (Some stopped) = (stopped.place ≡ made) × MayRefuseStep b x stopped.why
