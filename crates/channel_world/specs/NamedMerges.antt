-- A merge whose tasks are of any kind, as the wakers of threads. Each of its calls is given a name beside its task. If with these names
-- its begins are those of calls by names, then it is a run by names.
use Rattle.std.specs.Prelude.{◌∷◌}
use Rattle.channel_world.specs.Words.{ℕ, List, [], map, QueueForm, Parts, ChannelAsk, CloneHandle, Senders, Completed, just_opened, Happening, two_clones, Waiter}
use Rattle.channel_steps.specs.every_run.Named.{KeepsItByNames, WakesNamed, name_of, steps_asking}
use Rattle.channel_steps.specs.every_run.Tasks.{ask_by}
use Rattle.channel_world.specs.MergesByNames.{first_name_state, BeginByNames, IsByNames}

-- what the begins of a merge have to be, where the calls ask this, with their names
abbrev pub BeginsAreNamed : {T W S : Type 0} (wakes : S → W → S → Type 0) {form : QueueForm} {events : List (Happening T W)} {given : ℕ → List (Completed T)} {sink : S}
    {last : Parts T W} {woken : S} {named : List (ChannelAsk T (W × Waiter))} → KeepsItByNames wakes form events given sink last woken named → Type 0
BeginsAreNamed wakes {form} {events} {given} {sink} {last} {woken} {named} k =
    BeginByNames (WakesNamed wakes) first_name_state (just_opened form sink) (steps_asking events (map (λ a. ask_by name_of a) named)) k.headline.is.trace k.headline.is.run.moments

abbrev pub NamedMergesAreRuns : (T W S : Type 0) → (S → W → S → Type 0) → Type 0
NamedMergesAreRuns T W S wakes =
    (form : QueueForm) (events : List (Happening T W)) (given : ℕ → List (Completed T)) (sink : S) (last : Parts T W) (woken : S) (named : List (ChannelAsk T (W × Waiter)))
    (k : KeepsItByNames wakes form events given sink last woken named) → BeginsAreNamed wakes k → IsByNames (WakesNamed wakes) k.headline

-- so are those of two clones at once, which have no tasks
abbrev pub TwoClonesAreNamed : (T W S : Type 0) → (S → W → S → Type 0) → Type 0
TwoClonesAreNamed T W S wakes =
    (form : QueueForm) (given : ℕ → List (Completed T)) (sink : S) (last : Parts T W) (woken : S)
    (k : KeepsItByNames wakes form two_clones given sink last woken (CloneHandle Senders ∷ CloneHandle Senders ∷ [])) → BeginsAreNamed wakes k
