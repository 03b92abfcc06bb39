-- What steps of one party promise: they are a run of so many of its steps, which ends with the one that answers.
use Rattle.std.specs.Prelude.{◌≡◌, ◌+◌, ◌∷◌, ◌++◌}
use Rattle.channel_world.specs.Words.{ℕ, Bool, List, [], length, Option, None, Some, is_some, IfSome, step_refusal, MayRefuseStep, Entry, PartyId, Step, WorldRefusal, Stopped}
use Rattle.channel_world.specs.View.{name_state_of, RanTo, WorldView}

module _ {T : Type 0} where
  -- how many steps were asked for: those that were made, and the one that was refused
  abbrev pub steps_asked : List (Entry T) → Option Stopped → ℕ
  steps_asked trace None = length trace
  steps_asked trace (Some stopped) = length trace + 1

  -- the one that was refused stays in front, and it is the last that was asked for
  abbrev pub refused_of : PartyId → Option Stopped → List (Step T)
  refused_of p None = []
  refused_of p (Some stopped) = Step.Step p ∷ []

  -- none of them answers
  abbrev pub AreSilent : List (Entry T) → Type 0
  AreSilent [] = Unit {0}
  AreSilent (e ∷ es) = (e.reply ≡ None) × AreSilent es

  -- one that answers is the last one, and no step is asked for after it
  abbrev pub EndsWithAnswer : List (Entry T) → Option Stopped → Type 0
  EndsWithAnswer [] stopped = Unit {0}
  EndsWithAnswer (e ∷ es) stopped = IfSome e.reply (λ r. (es ≡ []) × (stopped ≡ None)) × EndsWithAnswer es stopped

  -- ---- one step, within the run

  -- one more step of this party was made; if it does not answer, nothing but want of room refuses the next one
  pub record StepsOnce (p : PartyId) (old : WorldView T) (before : List (Entry T)) (answered : Bool) (after : List (Entry T))
      (new : WorldView T) : Type 0 where
    pub entry : Entry T
    pub written : after ≡ before ++ entry ∷ []
    pub told : answered ≡ is_some entry.reply
    pub ran : RanTo (Step.Step p ∷ []) [] old (entry ∷ []) new
    pub goes_on : entry.reply ≡ None → step_refusal (name_state_of new).name_table (name_state_of new).agents (Step.Step p) ≡ None

  -- it is refused, for the first reason that there is, and nothing is written
  pub record IsRefused (p : PartyId) (old : WorldView T) (before : List (Entry T)) (why : WorldRefusal) (after : List (Entry T))
      (new : WorldView T) : Type 0 where
    pub unwritten : after ≡ before
    pub ran : RanTo (Step.Step p ∷ []) (Step.Step p ∷ []) old [] new
    pub reason : MayRefuseStep (name_state_of new) (Step.Step p) why
