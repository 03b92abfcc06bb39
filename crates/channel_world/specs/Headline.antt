-- The headline: what every run of steps promises, of every list of steps, from any world, wherever the list ends.
use Rattle.std.specs.Prelude.{◌≡◌, ◌++◌}
use Rattle.channel_world.specs.Words.{List, [], length, Option, StopsAt, Entry, Step, Waiter, Stopped, Spent, IsRun, Configuration, AddUp}
use Rattle.channel_world.specs.Marked.{all_taken, all_brought}
use Rattle.channel_world.specs.Sentences.{MomentSays, StepSays}
use Rattle.channel_world.specs.StepsLeft.{EndInARow}
use Rattle.channel_world.specs.TheEnd.{GiveNothing, NothingComesAfter}
use Rattle.channel_world.specs.View.{name_state_of, moment_of, StandsIn, WorldView}

module _ {T : Type 0} where
  -- The world `old`, standing in the configuration `from`, was given the steps `steps`; `left` were left, and it became `new`. A
  -- configuration is a plain channel with its calls under way, each with the moments and the marks since its begin. A world's invariant is
  -- that it stands in a configuration: a proof that uses this record passes it on and need not open it.
  pub record Headline (steps left : List (Step T)) (old : WorldView T) (trace : List (Entry T)) (stopped : Option Stopped)
      (new : WorldView T) (from : Configuration T Waiter) : Type 0 where
    -- the steps that were made, and the configuration at the end
    pub made : List (Step T)
    pub to : Configuration T Waiter
    pub first : steps ≡ made ++ left
    pub stands : StandsIn new to
    -- what is said of a moment is said of the first one; and what is said of a step, and of the moment after it, of each step of the
    -- run that they are
    pub at_first : MomentSays (moment_of old from)
    pub run : IsRun StepSays (moment_of old from) made trace (moment_of new to)
    -- what left the channel, followed by what it holds, is what it held followed by what it accepted, in order
    pub accounts : AddUp from (all_taken from trace run.moments) (all_brought from made trace run.moments) to
    -- once a receive answered closed, or a stream ended, in these steps or before them, no call that begins later gives a message
    pub after_the_end : NothingComesAfter steps trace
    pub ended_before : Spent from.now → GiveNothing [] steps trace
    -- if the others are quiet (no other call under way has a mark but Nothing, and an unbounded channel has had its first taking or
    -- there is no other call), a call makes no more steps than it has left at most before the one that ends it, if its are the next:
    -- from each moment on, so in front of the list too
    pub ends_soon : EndInARow from made trace run.moments
    -- the run stops at the first step that is refused, which stays in front, for the first reason that there is
    pub stops : StopsAt (name_state_of new) left (length trace) stopped
