-- A name that was woken is told, and one that wasn't waits to be woken under its own name.
use Rattle.std.specs.Prelude.{◌≡◌, ◌⊎◌}
use Rattle.channel_world_runs.specs.Words.{List, Some, keys_of, Channel, listeners, ListenerRef, WaitList, Waiter, ActiveCall, Configuration}
use Rattle.channel_world_runs.specs.Owners.{IsAmong, NoneTwice, All, NameStatus, retired, polled, waits, status, holding, subject, WaitsToWake, AnyOf}
use Rattle.channel_world_runs.specs.Run.{NameState}
use Rattle.channel_world_runs.specs.Calls.{Agent}

-- nothing lives under the name any more, or a poll of it is under way
abbrev pub IsAway : NameStatus → Type 0
IsAway p = (p ≡ retired) ⊎ ((line : WaitList) × (p ≡ polled line))

-- each name that is pending, or may be once its poll has ended, has a place
abbrev pub NeedsPlace : NameStatus → Type 0
NeedsPlace p = ((h : ListenerRef) × (p ≡ waits h)) ⊎ ((line : WaitList) × (p ≡ polled line))

module _ {T W : Type 0} where
  -- the listener was told
  abbrev pub IsTold : ListenerRef → Channel T W → Type 0
  IsTold h c = IsAmong h.key (keys_of (listeners h.line c.wait_lists).told)

module _ {T : Type 0} where
  -- it was told just where its name is among these, who were woken; else it waits to wake it
  abbrev pub IsMarked : Waiter → List Waiter → ListenerRef → Channel T Waiter → Type 0
  IsMarked w woken h c = (IsAmong w woken × IsTold h c) ⊎ ((IsAmong w woken → ⊥) × WaitsToWake h w c)

  -- nobody works at this name
  abbrev pub NoneWorks : Waiter → List (Agent T) → Type 0
  NoneWorks w agents = All (λ a. subject a.on_return ≡ Some w → ⊥) agents

  -- a call that works at this name has this listener in hand
  abbrev pub Works : Waiter → ListenerRef → List (Agent T) → List (ActiveCall T Waiter) → Type 0
  Works w h agents us =
      (a : Agent T) × IsAmong a agents × (subject a.on_return ≡ Some w) × AnyOf
      (λ u. (u.party ≡ a.party) × (holding u.at ≡ Some h)) us

  -- The name for which a listener waits holds it, or a call that works there has it in hand; or the name can't be pending again
  -- before the listener has left.
  abbrev pub IsOwn : NameState T → List (ActiveCall T Waiter) → Waiter → ListenerRef → Type 0
  IsOwn b us w h =
      (status b.name_table w ≡ waits h)
      ⊎ (Works w h b.agents us ⊎ (IsAway (status b.name_table w) × NoneWorks w b.agents))

  -- Each name that is pending was woken and is told, or wasn't and waits to wake its own name. Only pending names were woken, none twice;
  -- and each that may be woken has a place.
  pub record WokenSound (b : NameState T) (s : Configuration T Waiter) : Type 0 where
    pub stands : (w : Waiter) (h : ListenerRef) → status b.name_table w ≡ waits h → IsMarked w b.order.woken h s.now
    pub pending : (w : Waiter) → IsAmong w b.order.woken → (h : ListenerRef) × (status b.name_table w ≡ waits h)
    pub once : NoneTwice b.order.woken
    pub placed : (w : Waiter) → NeedsPlace (status b.name_table w) → IsAmong w b.order.places
    pub tasks : (w : Waiter) (h : ListenerRef) → WaitsToWake h w s.now → IsOwn b s.under_way w h
