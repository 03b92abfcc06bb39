-- What is known of the end by calls under way, in a form that every step keeps.
use Rattle.std.specs.Prelude.{List, [], ◌∷◌}
use Rattle.channel_calls.specs.Moves.{Channel}
use Rattle.channel_steps.specs.Moments.{MarkedMoment, Spent}
use Rattle.channel_steps.specs.Configuration.{ActiveCall, Configuration}
use Rattle.channel_steps.specs.every_run.Ends.{IsStill, Each, KnowsTheEnd}

module _ {T W : Type 0} where
  -- it was over at each of these moments
  abbrev pub AllSpent : List (Channel T W) → Type 0
  AllSpent [] = Unit {0}
  AllSpent (c ∷ cs) = Spent c × AllSpent cs

  -- these marks brought no message, took none and closed nothing
  abbrev pub StillDeeds : List (MarkedMoment T W) → Type 0
  StillDeeds [] = Unit {0}
  StillDeeds (d ∷ ds) = IsStill d.mark × StillDeeds ds

  -- a call that began when it was over, and so saw nothing else, brought and took nothing
  abbrev pub IsLate : ActiveCall T W → Type 0
  IsLate u = AllSpent u.seen → StillDeeds u.marks

  pub record EndSound (s : Configuration T W) : Type 0 where
    pub knows : KnowsTheEnd s
    pub late : Each IsLate s.under_way
