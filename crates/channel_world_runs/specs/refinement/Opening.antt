-- What a channel that was just opened shows.
use Rattle.channel_world_runs.specs.Words.{ℕ, Option, None, Channel, new_channel, AwakeIn, State, start, Waiter, KeysHeld}
use Rattle.channel_world_runs.specs.refinement.Refines.{Refines}

-- no operation and no stream holds a listener's key
abbrev pub nothing_held : KeysHeld
nothing_held = λ w. None

-- A channel of any capacity that was just opened shows the start, with no key held; and nobody is asleep there.
abbrev pub OpeningIsOver : Type 0 → Type 0
OpeningIsOver T =
    (capacity : Option ℕ) →
    let channel : Channel T Waiter = new_channel capacity in
    let s : State T = start capacity in
    Refines nothing_held channel s × AwakeIn s
