-- Two clones of a sender, merged, by names.
use Rattle.std.specs.Prelude.{◌∷◌}
use Rattle.channel_world.proofs.Words.{List, [], drop, inl, refl, MergeMoment, just_opened, steps_of, TryClone, Waiter, ChannelEntry as Entry, ChannelStep, NameState, name_state_begun, first_name_state, BeginByNames}
use Rattle.channel_steps.specs.every_run.BridgeRow.{two_clones}
use Rattle.channel_world.specs.MergesByNamesRow.{TwoClonesByNames}

module _ {T S : Type 0} (wakes : S → Waiter → S → Type 0) where
  -- ---- no more begins

  abbrev AreSteps : List (ChannelStep T Waiter) → Type 0
  AreSteps [] = Unit {0}
  AreSteps (ChannelStep.Begin p a ∷ ys) = ⊥
  AreSteps (ChannelStep.Step p ∷ ys) = AreSteps ys

  only_steps : (ys : List (ChannelStep T Waiter)) → AreSteps ys → (b : NameState T) (m : MergeMoment T Waiter S) (es : List (Entry T)) (ns : List (MergeMoment T Waiter S))
      → BeginByNames wakes b m ys es ns
  only_steps [] h b m es ns = tt
  only_steps (ChannelStep.Begin p a ∷ ys) h b m es ns = absurd h
  only_steps (ChannelStep.Step p ∷ ys) h b m [] ns = tt
  only_steps (ChannelStep.Step p ∷ ys) h b m (e ∷ es) [] = tt
  only_steps (ChannelStep.Step p ∷ ys) h b m (e ∷ es) (n ∷ ns) = λ names after next woken name_state. only_steps ys h after n es ns

  -- ---- the two begins

  abbrev name_state_of_one : NameState T
  name_state_of_one = name_state_begun (record { 0 = 1 }) (TryClone (record { 0 = 0 }) (record { 0 = 2 })) first_name_state

  abbrev name_state_of_two : NameState T
  name_state_of_two = name_state_begun (record { 0 = 2 }) (TryClone (record { 0 = 0 }) (record { 0 = 3 })) name_state_of_one

  second : (m : MergeMoment T Waiter S) (es : List (Entry T)) (ns : List (MergeMoment T Waiter S)) → BeginByNames wakes name_state_of_one m (drop 1 (steps_of two_clones)) es ns
  second m [] ns = tt
  second m (e ∷ es) [] = tt
  second m (e ∷ es) (n ∷ ns) = (TryClone (record { 0 = 0 }) (record { 0 = 3 }), refl, inl refl, only_steps (drop 2 (steps_of two_clones)) tt name_state_of_two n es ns)

  pub begins_by_names : (m : MergeMoment T Waiter S) (es : List (Entry T)) (ns : List (MergeMoment T Waiter S)) → BeginByNames wakes first_name_state m (steps_of two_clones) es ns
  begins_by_names m [] ns = tt
  begins_by_names m (e ∷ es) [] = tt
  begins_by_names m (e ∷ es) (n ∷ ns) = (TryClone (record { 0 = 0 }) (record { 0 = 2 }), refl, inl refl, second n es ns)

pub two_clones_by_names : (T S : Type 0) (wakes : S → Waiter → S → Type 0) → TwoClonesByNames T S wakes
two_clones_by_names T S wakes form given sink last woken k = begins_by_names wakes (just_opened form sink) k.is.trace k.is.run.moments
