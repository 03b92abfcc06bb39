-- What the parts of an interleaved channel stand for.
use Rattle.std.specs.Prelude.{◌≡◌, ◌⊎◌, ◌+◌, ◌≤◌, ◌<◌, ◌++◌, ◌^◌}
use Rattle.channel_world_runs.specs.Words.{ℕ, Bool, true, false, List, [], map, length, Option, None, count_by, Parts, Reply, Call, Waiter, all_left, left_at, new_configuration, Accounts, Touches, ActiveCall, Configuration, Represents, OthersQuiet, blocks_after, takings, Party, Activity, CallUnderWay, Entry, Step}
use Rattle.channel_world_runs.specs.declared.world_state.WorldState.{WorldState}
use Rattle.concurrent_queue.specs.Capacity.{capacity_of}
use Rattle.concurrent_queue.specs.Step.{closed_in}
use Rattle.channel_calls.specs.Plain.{parts_of}
use Rattle.channel_world_runs.specs.Activity.{activity_of}
use Rattle.channel_world_runs.specs.Calls.{Agent, agent_of}
use Rattle.channel_world_runs.specs.Owed.{Observation, Owed, is_sending, is_receiving, all_unannounced}
use Rattle.channel_world_runs.specs.Owners.{All}
use Rattle.channel_world_runs.specs.WorldInvariant.{WorldInvariant}
use Rattle.channel_world_runs.specs.Positions.{brings, is_one_place, yet_in}
use Rattle.channel_world_runs.specs.NameTable.{first_name_table}
use Rattle.channel_world_runs.specs.Order.{no_places}
use Rattle.channel_world_runs.specs.Run.{NameState, StepIsMade, channel_step}
use Rattle.channel_world_runs.specs.Reaches.{Reaches}

module _ {T : Type 0} where
  -- ---- its calls under way, in the order in which they began

  -- the parties, each with its call at its stage
  abbrev pub parties_of : WorldState T → List (Party T Waiter)
  parties_of f = map (λ (c : CallUnderWay T). c.party) f.calls.items

  -- the parties at work, with what is to be written back
  abbrev pub agents_of : WorldState T → List (Agent T)
  agents_of f = map agent_of f.calls.items

  -- what the calls are to those that wait, and have done
  abbrev pub activities_of : WorldState T → List Activity
  activities_of f = map (λ (c : CallUnderWay T). c.activity) f.calls.items

  -- ---- what it shows

  abbrev pub name_state_of : WorldState T → NameState T
  name_state_of f = record { name_table = f.name_table; order = f.order; agents = agents_of f }

  abbrev pub parts_in : WorldState T → Parts T Waiter
  parts_in f = parts_of f.channel

  -- what it shows as it is, of no configuration
  abbrev pub observation_of : WorldState T → Observation T
  observation_of f = record {
    name_table = f.name_table;
    woken = f.order.woken;
    messages = f.messages;
    capacity = capacity_of (parts_in f).cells.form;
    closed = closed_in (parts_in f).cells;
    sending = count_by (λ (c : CallUnderWay T). is_sending c.activity.role) f.calls.items;
    receiving = count_by (λ (c : CallUnderWay T). is_receiving c.activity.role) f.calls.items;
    closers = count_by (λ (c : CallUnderWay T). c.activity.has_closed) f.calls.items;
    freed = all_unannounced f.calls.items;
  }

  -- no more messages were accepted than are counted, and with those that the calls under way may yet bring they are within the
  -- positions of a queue
  pub record AreCounted (f : WorldState T) (s : Configuration T Waiter) : Type 0 where
    pub accepted : s.now.queue.accepted ≤ f.accepted
    pub within : f.accepted + yet_in s.under_way < 2 ^ 61

  -- it has one place alone, so there are no positions to be used up
  abbrev pub HasOnePlace : WorldState T → Type 0
  HasOnePlace f = f.has_one_place ≡ true

  -- The cells and the calls under way stand for this configuration, which holds as many messages as are counted. Where it has more than one
  -- place, those that were accepted are counted too. What is noted of each call under way is what it is and has done there; none
  -- has taken more than were removed.
  pub record Shown (f : WorldState T) (s : Configuration T Waiter) : Type 0 where
    pub shows : Represents (parts_in f) (parties_of f) s
    pub place : f.has_one_place ≡ is_one_place s.now.queue.capacity
    pub positions : HasOnePlace f ⊎ AreCounted f s
    pub messages : f.messages ≡ length s.now.queue.items
    pub activities : activities_of f ≡ map activity_of s.under_way
    pub few : All (λ (u : ActiveCall T Waiter). takings u.marks ≤ s.now.queue.removed) s.under_way

  -- no call is under way
  abbrev pub IsQuiet : WorldState T → Type 0
  IsQuiet f = f.calls.items ≡ []

  -- whether no call is under way
  pub record TellsQuiet (f : WorldState T) (quiet : Bool) : Type 0 where
    pub told : quiet ≡ true → IsQuiet f
    pub busy : quiet ≡ false → IsQuiet f → ⊥

  -- how many messages it holds
  abbrev pub messages_in : WorldState T → ℕ
  messages_in f = f.messages

  -- how many calls are under way
  abbrev pub calls_in : WorldState T → ℕ
  calls_in f = length f.calls.items

  -- there are positions for so many more messages; one place alone needs none
  abbrev pub HasPositions : ℕ → WorldState T → Type 0
  HasPositions n f = HasOnePlace f ⊎ (f.accepted + n < 2 ^ 61)

  -- a call that may bring a message has a position for it, beside those that the calls under way may yet bring
  abbrev pub HasPosition : Call T → WorldState T → Type 0
  HasPosition c f = brings f.name_table c ≡ true → HasPositions (calls_in f + 1) f

  -- nothing is changed but the room that was taken
  pub record IsSame (f g : WorldState T) : Type 0 where
    pub channel : g.channel ≡ f.channel
    pub calls : g.calls.items ≡ f.calls.items
    pub name_table : g.name_table ≡ f.name_table
    pub order : g.order ≡ f.order
    pub messages : g.messages ≡ f.messages
    pub accepted : g.accepted ≡ f.accepted
    pub place : g.has_one_place ≡ f.has_one_place

  -- The channel by names stands in this configuration: its cells and calls under way stand for it, all that every step keeps holds in it,
  -- and each that is pending and was not woken is owed no more than is to come.
  pub record StandsIn (f : WorldState T) (s : Configuration T Waiter) : Type 0 where
    pub shown : Shown f s
    pub kept : WorldInvariant (name_state_of f) s
    pub owed : Owed (observation_of f)

  -- it stands in some configuration, as it always does
  pub record Stands (f : WorldState T) : Type 0 where
    pub configuration : Configuration T Waiter
    pub stands : StandsIn f configuration

  -- a channel that was just opened: its first sender and its first receiver live, and nobody is at work
  pub record IsJustOpened (capacity : Option ℕ) (f : WorldState T) : Type 0 where
    pub stands : StandsIn f (new_configuration capacity)
    pub name_state : name_state_of f ≡ record { name_table = first_name_table; order = no_places; agents = [] }

  -- the steps that are left to the calls under way, in the order in which they began
  abbrev pub lefts_in : WorldState T → List ℕ
  lefts_in f = all_left (parts_in f) (parties_of f)

  -- if the others are quiet, a step that does not end its call leaves it fewer
  abbrev pub Nearer : (x : Step T) (old : WorldState T) (e : Entry T) (new : WorldState T) (s t : Configuration T Waiter) → StepIsMade (name_state_of old) s x e (name_state_of new) t → Type 0
  Nearer (Step.Begin p c) old e new s t made = Unit {0}
  Nearer (Step.Step p) old e new s t made =
      e.reply ≡ None → OthersQuiet s.now (made.next.before ++ made.next.behind)
      → left_at (length made.next.before) (lefts_in new) < left_at (length made.next.before) (lefts_in old)

  -- a step that was made, from any configuration that was shown
  pub record LedByStep (x : Step T) (old : WorldState T) (e : Entry T) (new : WorldState T) (s : Configuration T Waiter) : Type 0 where
    pub after : Configuration T Waiter
    pub touches : Touches (channel_step old.name_table x) (parts_in old) (parts_in new)
    pub blocks : after.blocks ≡ blocks_after (parts_in new).cells.form s.blocks (parts_in old).cells (parts_in new).cells
    pub made : StepIsMade (name_state_of old) s x e (name_state_of new) after
    pub nearer : Nearer x old e new s after made
    pub shown : Shown new after

  abbrev pub LeadsByStep : Step T → WorldState T → Entry T → WorldState T → Type 0
  LeadsByStep x old e new = (s : Configuration T Waiter) → Shown old s → LedByStep x old e new s

  -- From a configuration in which it stood steps of parties, on which just these replies were given, led to one in which it stands; what
  -- left it, followed by what it holds, is what it held followed by what came, in order.
  pub record Led (s : Configuration T Waiter) (replies : List (Reply T)) (new : WorldState T) : Type 0 where
    pub last : Configuration T Waiter
    pub way : Reaches s replies last
    pub stands : StandsIn new last
    pub accounts : Accounts s last

  -- so it is from each configuration in which it stood
  abbrev pub LeadsOn : WorldState T → List (Reply T) → WorldState T → Type 0
  LeadsOn old replies new = (s : Configuration T Waiter) → StandsIn old s → Led s replies new
