-- What is carried through all that is done to a world, one thing after another; and how many messages a world holds at most.
use Rattle.std.specs.Prelude.{◌≤◌, ◌++◌}
use Rattle.channel_world.specs.Words.{List, [], map, Option, None, Some, IfSome, Reply, Waiter, Configuration, Settled}
use Rattle.channel_world_model.specs.declared.run.CallRun.{CallRun}
use Rattle.channel_world_model.specs.declared.run.Done.{Done}
use Rattle.channel_world.specs.View.{messages_in, capacity_in, Stands, Led, LeadsOn, WorldView}

-- what the calls of a list replied, in order
abbrev pub replied_in : {T : Type 0} → List (Done T) → List (Reply T)
replied_in {T} done = map (λ (d : Done T). d.reply) done

-- the same of a list of calls that may not have been begun
abbrev pub replied_if : {T : Type 0} → Option (CallRun T) → List (Reply T)
replied_if None = []
replied_if (Some run) = replied_in run.done.items

-- and the polls of a settling
abbrev pub polls_replied : {T : Type 0} → List (Settled T) → List (Reply T)
polls_replied {T} polls = map (λ (p : Settled T). p.reply) polls

module _ {T : Type 0} where
  -- What was done to a world led it to another one, with these replies: so it is from each configuration in which it stood.
  pub record LeadsTo (old : WorldView T) (replies : List (Reply T)) (new : WorldView T) : Type 0 where
    pub on : LeadsOn old replies new

-- if nothing is done, each world leads to itself
abbrev pub StaysWhereItIs : Type 0 → Type 0
StaysWhereItIs T = (a : WorldView T) → LeadsTo a [] a

-- Where what is done first leads from a world to a second, and what is done then from there to a third, all of it leads from the
-- first to the third, with the replies of the one followed by those of the other.
abbrev pub LeadsOnInTurn : Type 0 → Type 0
LeadsOnInTurn T = (a b c : WorldView T) (rs ss : List (Reply T)) → LeadsTo a rs b → LeadsTo b ss c → LeadsTo a (rs ++ ss) c

-- The same from one configuration: what was led from it to a world, and leads from there to another, is led from it to that one.
abbrev pub LeadsFurther : Type 0 → Type 0
LeadsFurther T = (b c : WorldView T) (s : Configuration T Waiter) (rs ss : List (Reply T)) → Led s rs b → LeadsTo b ss c → Led s (rs ++ ss) c

-- A world never holds more messages than its capacity, calls under way or not.
abbrev pub HoldsWhatFits : Type 0 → Type 0
HoldsWhatFits T = (w : WorldView T) → Stands w → IfSome (capacity_in w) (λ most. messages_in w ≤ most)
