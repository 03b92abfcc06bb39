-- Whole runs of calls, one at a time. Which growths are refused is free; all else is a function of state and call.
use Rattle.std.specs.Prelude.{◌≡◌, ◌⊎◌, ◌∷◌}
use Rattle.channel_world_model.specs.Words.{List, [], Option, None, Some, Call, Done, WorldRefusal}
use Rattle.channel_world_model.specs.State.{State}
use Rattle.channel_world_model.specs.Refusal.{refusal}
use Rattle.channel_world_model.specs.Refused.{Answers}
use Rattle.channel_world_model.specs.declared.refusal.WorldRefusal.TheVariants.{NoMemory}

-- A call is not begun for this reason, or is begun. Room for its answer may be refused to any call that nothing else
-- refuses.
abbrev pub MayStop : {T : Type 0} → State T → Call T → Option WorldRefusal → Type 0
MayStop s c None = refusal s c ≡ None
MayStop s c (Some why) = (refusal s c ≡ Some why) ⊎ ((refusal s c ≡ None) × (why ≡ NoMemory))

-- a list of calls may end here: at its end, or before a call that is not begun
abbrev pub Stops : {T : Type 0} → State T → List (Call T) → Option WorldRefusal → Type 0
Stops s [] why = why ≡ None
Stops s (c ∷ cs) None = ⊥
Stops s (c ∷ cs) (Some why) = MayStop s c (Some why)

-- an accepted call may be done so, and lead to the state t
abbrev pub MayBeDone : {T : Type 0} → State T → Call T → Done T → State T → Type 0
MayBeDone s c d t = (refusal s c ≡ None) × Answers s c (record { after = t; reply = d.reply; woken = d.woken.items })

-- From s the calls may be done so, leave the calls `rest` undone for the reason why, and go on to the state t.
abbrev pub Runs : {T : Type 0} → State T → List (Call T) → List (Done T) → Option WorldRefusal → List (Call T) → State T → Type 0
Runs s calls [] why rest t = (rest ≡ calls) × (t ≡ s) × Stops s calls why
Runs s [] (d ∷ ds) why rest t = ⊥
Runs s (c ∷ cs) (d ∷ ds) why rest t = (mid : State _) × MayBeDone s c d mid × Runs mid cs ds why rest t
