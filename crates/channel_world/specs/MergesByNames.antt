-- A merge whose calls are calls by names. What the headline says of names holds of it too: no step is refused, the name state and
-- the order of waking are as the bookkeeping has them, and nobody is left asleep under its name.
use Rattle.std.specs.Prelude.{◌≡◌, ◌∷◌}
use Rattle.channel_world.specs.Words.{ℕ, List, [], map, None, capacity_of, QueueForm, Parts, Call, Waiter, IsRun, Next, new_configuration, ChannelEntry as Entry, ChannelStep, Completed, MergeMoment, just_opened, Happening, steps_of, KeepsTheHeadline, IsOrListens, IsStepOf, asks, Owed, begin_refusal, step_refusal, first_name_table, NameState, IsNameStateOf, name_state_begun, observation_at, Step}
use Rattle.event_listener.specs.Notices.{Woken}
use Rattle.channel_world_runs.specs.Order.{no_places}

-- a step by names, beside the step of the channel that it is
pub record NamedStep (T : Type 0) : Type 0 where
  pub by_name : Step T
  pub of_channel : ChannelStep T Waiter

-- a moment of a merge, with the state of its names
pub record NamedMoment (T S : Type 0) : Type 0 where
  pub name_state : NameState T
  pub merge : MergeMoment T Waiter S

module _ {T : Type 0} where
  -- the name state of a channel that was just opened: its first sender and its first receiver live, and nobody is at work
  abbrev pub first_name_state : NameState T
  first_name_state = record { name_table = first_name_table; order = no_places; agents = [] }

module _ {T S : Type 0} (wakes : S → Waiter → S → Type 0) where
  -- ---- what is asked

  -- Of these steps, from this moment and this name state on, each begin is that of a call by names, which nothing refuses. It asks what
  -- this call asks, but that a poll may ask its listener first. Its name state is what the steps before it, with their entries, have made
  -- of this one: whatever name state that is, and whomever they woke.
  abbrev pub BeginByNames : NameState T → MergeMoment T Waiter S → List (ChannelStep T Waiter) → List (Entry T) → List (MergeMoment T Waiter S) → Type 0
  BeginByNames b m (ChannelStep.Begin p a ∷ ys) (e ∷ es) (n ∷ ns) =
      (c : Call T) × (begin_refusal b.name_table c ≡ None) × IsOrListens (asks b.name_table c) a × BeginByNames (name_state_begun (record { 0 = p }) c b) n ys es ns
  BeginByNames b m (ChannelStep.Step p ∷ ys) (e ∷ es) (n ∷ ns) =
      (names : List Waiter) (after : NameState T) → Next m.configuration (ChannelStep.Step p) e names n.configuration → Woken wakes m.sink names n.sink
      → IsNameStateOf (Step.Step (record { 0 = p })) e.reply e.kept names b after → BeginByNames after n ys es ns
  BeginByNames b m ys es ns = Unit {0}

  -- ---- what is said

  -- a step by names, from the moment m to the moment n
  pub record SaysByNames (m : NamedMoment T S) (x : NamedStep T) (e : Entry T) (n : NamedMoment T S) : Type 0 where
    -- none of the seven reasons refuses it
    pub accepted : step_refusal m.name_state.name_table m.name_state.agents x.by_name ≡ None
    -- it is what this step by names is to the channel; a poll may ask its listener first
    pub step : IsStepOf m.name_state.name_table x.by_name x.of_channel
    -- it wakes these, in order, and nobody else
    pub names : List Waiter
    pub next : Next m.merge.configuration x.of_channel e names n.merge.configuration
    pub woken : Woken wakes m.merge.sink names n.merge.sink
    -- A call that begins has its names, and its party is at work. A name that is woken comes last in the order of waking. And a call that
    -- answers has written back to its names what it left to them.
    pub name_state : IsNameStateOf x.by_name e.reply e.kept names m.name_state n.name_state
    -- beside one that is pending and was not woken, there is no message, free place or closing for which no woken one and no call under way
    -- is responsible
    pub owed : Owed (observation_at n.name_state n.merge.configuration)

  -- the run that a merge is, as its headline tells it, is one by names from the opening of a channel
  pub record IsByNames {form : QueueForm} {events : List (Happening T Waiter)} {given : ℕ → List (Completed T)} {sink : S}
      {last : Parts T Waiter} {woken : S} (k : KeepsTheHeadline wakes form events given sink last woken) : Type 0 where
    pub at_first : Owed {T = T} (observation_at first_name_state (new_configuration (capacity_of form)))
    pub steps : List (NamedStep T)
    pub to : NamedMoment T S
    pub run : IsRun SaysByNames (record { name_state = first_name_state; merge = just_opened form sink }) steps k.is.trace to
    -- its steps are those of the merge, each with its name, and its moments are those of the merge, each with its name state
    pub same_steps : map (λ (x : NamedStep T). x.of_channel) steps ≡ steps_of events
    pub same_moments : map (λ (n : NamedMoment T S). n.merge) run.moments ≡ k.is.run.moments

-- a merge that keeps the headline, and whose begins are those of calls by names
abbrev pub MergesByNamesAreRuns : (T S : Type 0) → (S → Waiter → S → Type 0) → Type 0
MergesByNamesAreRuns T S wakes =
    (form : QueueForm) (events : List (Happening T Waiter)) (given : ℕ → List (Completed T)) (sink : S) (last : Parts T Waiter) (woken : S)
    (k : KeepsTheHeadline wakes form events given sink last woken)
    → BeginByNames wakes first_name_state (just_opened form sink) (steps_of events) k.is.trace k.is.run.moments → IsByNames wakes k
