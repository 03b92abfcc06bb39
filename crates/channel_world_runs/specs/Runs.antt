-- Runs: what may follow from steps of many parties in any order, by names, and what holds at each moment of them.
use Rattle.std.specs.Prelude.{◌≡◌, ◌+◌, ◌<◌, ◌≤◌, ◌∷◌, ◌++◌}
use Rattle.channel_world_runs.specs.Words.{ℕ, List, [], length, None, Parts, Waiter, most_left, IsRun, Accounts, Touches, Configuration, OthersQuiet, blocks_after, Entry, Step}
use Rattle.channel_world_runs.specs.declared.world_state.WorldState.{WorldState}
use Rattle.channel_steps.specs.Count.{brought_in, taken_out}
use Rattle.channel_world_runs.specs.WorldState.{parts_in, parties_of, name_state_of, StandsIn}
use Rattle.channel_world_runs.specs.WorldInvariant.{WorldInvariant}
use Rattle.channel_world_runs.specs.Left.{left_of, calls_of_others, wanted_of}
use Rattle.channel_world_runs.specs.Run.{NameState, StepIsMade, channel_step}

-- a moment: what the cells hold, the channel with its calls under way, the name state, and how many more steps of its own the call of
-- each party makes at most, if the others are quiet
pub record Moment (T : Type 0) : Type 0 where
  pub parts : Parts T Waiter
  pub configuration : Configuration T Waiter
  pub name_state : NameState T
  pub left : ℕ → ℕ

module _ {T : Type 0} where
  -- that of a channel by names, in a configuration
  abbrev pub moment_of : WorldState T → Configuration T Waiter → Moment T
  moment_of f s =
      record { parts = parts_in f; configuration = s; name_state = name_state_of f; left = λ party. left_of party (parts_in f) (parties_of f) }

  -- it is the moment of this channel, which stands in its configuration
  pub record IsOf (f : WorldState T) (m : Moment T) : Type 0 where
    pub moment : m ≡ moment_of f m.configuration
    pub stands : StandsIn f m.configuration

  -- no call has more steps of its own left than these, if the others are quiet
  abbrev pub FewLeft : Moment T → Type 0
  FewLeft m = (party : ℕ) → m.left party ≤ most_left (wanted_of party m.configuration.under_way)

  -- what holds at every moment: it is one of a channel that stands in its configuration, all is kept, and few steps are left
  pub record Holds (m : Moment T) : Type 0 where
    pub world_state : WorldState T
    pub is : IsOf world_state m
    pub kept : WorldInvariant m.name_state m.configuration
    pub few : FewLeft m

  -- if the others are quiet a step of a call that does not end it leaves it fewer
  abbrev pub ComesNearer : Moment T → Step T → Entry T → Moment T → Type 0
  ComesNearer m (Step.Begin p c) e n = Unit {0}
  ComesNearer m (Step.Step p) e n =
      e.reply ≡ None → OthersQuiet m.configuration.now (calls_of_others p.0 m.configuration.under_way) → n.left p.0 < m.left p.0

  -- a step leads from one moment to the next: nothing refused it, at most one cell, list or count differs after it, the blocks are
  -- those that it leaves, and its call comes nearer to its end where the others let it
  pub record LeadsBy (m : Moment T) (x : Step T) (e : Entry T) (n : Moment T) : Type 0 where
    pub touches : Touches (channel_step m.name_state.name_table x) m.parts n.parts
    pub blocks : n.configuration.blocks ≡ blocks_after n.parts.cells.form m.configuration.blocks m.parts.cells n.parts.cells
    pub made : StepIsMade m.name_state m.configuration x e n.name_state n.configuration
    pub nearer : ComesNearer m x e n
    pub holds : Holds n

  -- ---- numbers

  -- how many messages came in by the steps with these entries, and how many went out
  abbrev pub accepted_in : List (Entry T) → ℕ
  accepted_in [] = 0
  accepted_in (e ∷ es) = brought_in e.mark + accepted_in es

  abbrev pub left_in : List (Entry T) → ℕ
  left_in [] = 0
  left_in (e ∷ es) = taken_out e.mark + left_in es

  -- ---- a list of steps

  -- a run of the first steps of a list, from a configuration in which it stood, to one in which it stands
  pub record Ran (steps left : List (Step T)) (old : WorldState T) (trace : List (Entry T)) (new : WorldState T)
      (s : Configuration T Waiter) : Type 0 where
    pub made : List (Step T)
    pub last : Configuration T Waiter
    pub first : steps ≡ made ++ left
    pub run : IsRun LeadsBy (moment_of old s) made trace (moment_of new last)
    pub stands : StandsIn new last
    pub accounts : Accounts s last
    pub numbers : length last.now.queue.items + left_in trace ≡ length s.now.queue.items + accepted_in trace

  -- so it is from each configuration in which it stood
  abbrev pub RanTo : List (Step T) → List (Step T) → WorldState T → List (Entry T) → WorldState T → Type 0
  RanTo steps left old trace new = (s : Configuration T Waiter) → StandsIn old s → Ran steps left old trace new s
