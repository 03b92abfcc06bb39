-- Which listeners wait on a list of a channel.
use Rattle.std.specs.Prelude.{◌≡◌, List, [], ◌∷◌, Option, ◌⊎◌}
use Rattle.event_listener.specs.declared.key.Key.{Key}
use Rattle.channel_calls.specs.Moves.{Channel}
use Rattle.channel_calls.specs.Parts.{listeners}
use Rattle.channel_calls.specs.declared.stage.WaitList.{WaitList}
use Rattle.channel_steps.specs.Configuration.{ActiveCall}

module _ {W : Type 0} where
  -- this listener stands on this list
  abbrev pub IsIn : Key → List (Key × Option W) → Type 0
  IsIn key [] = ⊥
  IsIn key (w ∷ ws) = (w.0 ≡ key) ⊎ IsIn key ws

  -- and none stands twice
  abbrev pub Apart : List (Key × Option W) → Type 0
  Apart [] = Unit {0}
  Apart (w ∷ ws) = (IsIn w.0 ws → ⊥) × Apart ws

module _ {T W : Type 0} where
  -- this listener waits, on this list
  abbrev pub Waits : WaitList → Key → Channel T W → Type 0
  Waits line key c = IsIn key (listeners line c.wait_lists).waiting

  abbrev pub WaitApart : WaitList → Channel T W → Type 0
  WaitApart line c = Apart (listeners line c.wait_lists).waiting

  -- at least one of the calls under way
  abbrev pub Any : (ActiveCall T W → Type 0) → List (ActiveCall T W) → Type 0
  Any P [] = ⊥
  Any P (u ∷ us) = P u ⊎ Any P us
