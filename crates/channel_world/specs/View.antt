-- What a world shows: its names, how many messages it holds, its capacity, whether it is closed, and how many calls of each kind
-- are under way. What it is made of only the words of this file name, and no clause of a caller says anything of it. That is agreed:
-- to the logic the words are open, so that a proof can read the parts off them.
use Rattle.channel_world.specs.Words.{ℕ, Bool, List, Option, refl, Coded, code_by, Parts, count, Reply, Side, State, Waiter, Configuration, tally, is_lowering, is_closing, left_of, Observation, NameState, Moment, WorldState, NameTable, Entry, Step}
use Rattle.channel_calls.specs.Plain.{parts_of}
use Rattle.channel_steps.specs.declared.party.Party.{Party}
use Rattle.channel_world_runs.specs.WorldState as world_state
use Rattle.channel_world_runs.specs.Runs as runs
use Rattle.channel_world.specs.Kinds.{takings_of}
use Rattle.channel_world.specs.World as world

pub record WorldView (T : Type 0) : Type 0 where
  inside : WorldState T

module _ {T : Type 0} where
  abbrev pub view_of : WorldState T → WorldView T
  view_of f = record { inside = f }

  -- views differ where what is inside differs
  abbrev pub view_code : Coded (WorldState T) → Coded (WorldView T)
  view_code c = code_by (WorldState T) c (λ (w : WorldView T). w.inside) view_of (λ _. refl)

  -- ---- what it shows

  -- names, messages, capacity and flag; and how many calls under way are sending, are receiving, have closed it, and how many
  -- places they have freed and not announced
  abbrev pub observation_of : WorldView T → Observation T
  observation_of w = world_state.observation_of w.inside

  abbrev pub names_in : WorldView T → NameTable T
  names_in w = (observation_of w).name_table

  -- those that were woken, in the order of their waking
  abbrev pub woken_in : WorldView T → List Waiter
  woken_in w = (observation_of w).woken

  abbrev pub messages_in : WorldView T → ℕ
  messages_in w = (observation_of w).messages

  abbrev pub capacity_in : WorldView T → Option ℕ
  capacity_in w = (observation_of w).capacity

  abbrev pub is_closed : WorldView T → Bool
  is_closed w = (observation_of w).closed

  -- how many calls are under way
  abbrev pub calls_in : WorldView T → ℕ
  calls_in w = world_state.calls_in w.inside

  -- how many messages these calls have taken
  abbrev pub taken_in : WorldView T → ℕ
  taken_in w = takings_of w.inside.calls.items

  -- these calls, each at its stage
  abbrev pub active_calls : WorldView T → List (Party T Waiter)
  active_calls w = world_state.parties_of w.inside

  -- the count of senders or of receivers
  abbrev pub count_in : Side → WorldView T → ℕ
  count_in side w = count side (world_state.parts_in w.inside).wait_lists

  -- how many drops of strong handles of this side are under way whose next step lowers the count; what they drop lives under no name
  abbrev pub to_lower : Side → WorldView T → ℕ
  to_lower side w = tally (λ (p : Party T Waiter). is_lowering side p.call.stage) (active_calls w)

  -- how many drops of the last one are under way that are at closing the channel
  abbrev pub to_close : Side → WorldView T → ℕ
  to_close side w = tally (λ (p : Party T Waiter). is_closing side p.call.stage) (active_calls w)

  -- with no call under way: the state of the model. While calls are made one at a time this is all that a world is
  abbrev pub at_rest : WorldView T → State T
  at_rest w = world.at_rest w.inside

  -- ---- what is said of it

  abbrev pub IsQuiet : WorldView T → Type 0
  IsQuiet w = world_state.IsQuiet w.inside

  abbrev pub TellsQuiet : WorldView T → Bool → Type 0
  TellsQuiet w quiet = world_state.TellsQuiet w.inside quiet

  abbrev pub HasPositions : ℕ → WorldView T → Type 0
  HasPositions n w = world_state.HasPositions n w.inside

  abbrev pub IsJustOpened : Option ℕ → WorldView T → Type 0
  IsJustOpened capacity w = world_state.IsJustOpened capacity w.inside

  -- it stands in this configuration, which is its invariant, or in some
  abbrev pub StandsIn : WorldView T → Configuration T Waiter → Type 0
  StandsIn w s = world_state.StandsIn w.inside s

  abbrev pub Stands : WorldView T → Type 0
  Stands w = world_state.Stands w.inside

  -- steps led from this configuration to one in which it stands, with these replies
  abbrev pub Led : Configuration T Waiter → List (Reply T) → WorldView T → Type 0
  Led s replies w = world_state.Led s replies w.inside

  abbrev pub LeadsOn : WorldView T → List (Reply T) → WorldView T → Type 0
  LeadsOn old replies new = world_state.LeadsOn old.inside replies new.inside

  -- ---- what the sentences of a run and the laws look at

  -- names, with those that may be woken and the parties at work
  abbrev pub name_state_of : WorldView T → NameState T
  name_state_of w = record { name_table = w.inside.name_table; order = w.inside.order; agents = world_state.agents_of w.inside }

  abbrev pub moment_of : WorldView T → Configuration T Waiter → Moment T
  moment_of w s =
      let parts : Parts T Waiter = parts_of w.inside.channel in
      record { parts = parts; configuration = s; name_state = name_state_of w; left = λ party. left_of party parts (active_calls w) }

  abbrev pub RanTo : List (Step T) → List (Step T) → WorldView T → List (Entry T) → WorldView T → Type 0
  RanTo steps left old trace new = runs.RanTo steps left old.inside trace new.inside

  -- ---- what the functions of a world say to each other

  abbrev pub has_one_place : WorldView T → Bool
  has_one_place w = w.inside.has_one_place

  abbrev pub accepted_by_now : WorldView T → ℕ
  accepted_by_now w = w.inside.accepted
