-- Names that a step wakes.
use Rattle.std.specs.Prelude.{◌≡◌, ◌<◌, ◌≤◌, ◌++◌, ◌∷◌}
use Rattle.channel_world_runs.specs.Words.{[], vec_len, vec_capacity, Waiter}
use Rattle.channel_world_runs.specs.declared.woken.Woken.{Woken}

-- if there is room, the name comes after all before it
abbrev pub Hears : Woken → Waiter → Woken → Type 0
Hears old w new = vec_len old.names < vec_capacity old.names → (new.names.items ≡ old.names.items ++ w ∷ []) × (vec_capacity old.names ≤ vec_capacity new.names)
