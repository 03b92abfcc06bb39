-- A merge in which names are put for the tasks. Tasks may be anything, as the wakers of threads: what a merge of calls does, and what
-- each of its calls answers, doesn't hang on them. So each task may have a name beside it, chosen anew for each call.
use Rattle.std.specs.Prelude.{◌≡◌, ℕ, List, [], ◌∷◌, map, length, None}
use Rattle.concurrent_queue.specs.declared.cells.QueueForm.{QueueForm}
use Rattle.concurrent_queue.specs.Bridge.{HasCells}
use Rattle.channel_calls.specs.Deeds.{Deed}
use Rattle.channel_calls.specs.Parts.{Parts}
use Rattle.channel_calls.specs.Walks.{WalkedFrom}
use Rattle.channel_calls.specs.declared.ask.ChannelAsk.{ChannelAsk}
use Rattle.channel_calls.specs.declared.reply.Reply.{Reply}
use Rattle.channel_calls.specs.declared.stage.Returned.{Returned}
use Rattle.channel_calls.specs.declared.stage.NextStep.{NextStep}
use Rattle.channel_steps.specs.declared.run.Step.{Step}
use Rattle.channel_steps.specs.declared.run.Step.TheVariants as step
use Rattle.channel_calls.specs.declared.whole.Completed.{Completed}
use Rattle.channel_steps.specs.every_run.Bridge.{Event, begins, does, Happening, Acts, own, steps_of, opened_parts, InOneOrder, LastsFor}
use Rattle.channel_steps.specs.every_run.BridgeHeadline.{KeepsTheHeadline}
use Rattle.channel_steps.specs.every_run.Tasks.{deed_by, turn_by, parts_by, ask_by, all_by}

-- ---- whose tasks are others

module _ {W V : Type 0} (put : W → V) where
  -- the deed is one in which these were put for the tasks of another, which was done
  abbrev pub DidSo : {T X : Type 0} → (Deed T W → X → X → Type 0) → Deed T V → X → X → Type 0
  DidSo {T} did d s t = (o : Deed T W) × (d ≡ deed_by put o) × did o s t

  -- a task is woken for which this one was put
  abbrev pub WakesSo : {S : Type 0} → (S → W → S → Type 0) → S → V → S → Type 0
  WakesSo wakes s v t = (w : W) × (v ≡ put w) × wakes s w t

  -- the task is woken that is put for this one
  abbrev pub WakesFor : {S : Type 0} → (S → V → S → Type 0) → S → W → S → Type 0
  WakesFor wakes s w t = wakes s (put w) t

-- A call that is walked to its answer is walked to the same answer, with the same left to its operation, where others are put for the
-- tasks in its turn and in its deeds: whatever these deeds were done to.
abbrev pub WalksHaveAnyTasks : {T W V X : Type 0} → (W → V) → (Deed T W → X → X → Type 0) → Type 0
WalksHaveAnyTasks {T} {W} {V} {X} put did =
    (turn : NextStep T W) (s : X) (r : Reply T) (kept : Returned T) (t : X) → WalkedFrom did turn s r kept t → WalkedFrom (DidSo put did) (turn_by put turn) s r kept t

-- ---- a merge

module _ {T W : Type 0} where
  -- what the calls ask, in the order of their begins
  abbrev pub with_asked : Event T W → List (ChannelAsk T W) → List (ChannelAsk T W)
  with_asked (begins a) more = a ∷ more
  with_asked (does o) more = more

  abbrev pub asks_of : List (Happening T W) → List (ChannelAsk T W)
  asks_of [] = []
  asks_of (x ∷ xs) = with_asked x.event (asks_of xs)

  -- the steps of these events, where others are put for what is asked at each begin
  abbrev pub step_asking : {V : Type 0} → ℕ → Event T W → List (ChannelAsk T V) → (List (ChannelAsk T V) → List (Step T V)) → List (Step T V)
  step_asking p (begins a) [] rest = []
  step_asking p (begins a) (x ∷ more) rest = step.Begin p x ∷ rest more
  step_asking p (does o) asks rest = step.Step p ∷ rest asks

  abbrev pub steps_asking : {V : Type 0} → List (Happening T W) → List (ChannelAsk T V) → List (Step T V)
  steps_asking [] asks = []
  steps_asking (x ∷ xs) asks = step_asking x.party x.event asks (λ more. steps_asking xs more)

-- Whatever parties do to a new channel, by the machine and in one order, they do so, with the same given to each, where others are put
-- for the tasks of all calls.
abbrev pub MergesHaveAnyTasks : {W V : Type 0} → (W → V) → (T S : Type 0) → (S → W → S → Type 0) → Type 0
MergesHaveAnyTasks {W} {V} put T S wakes =
    (form : QueueForm) (events : List (Happening T W)) (given : ℕ → List (Completed T)) (sink : S) (last : Parts T W) (woken : S)
    → ((p : ℕ) → Acts form None (own p events) (given p)) → InOneOrder wakes events (opened_parts form, sink) (last, woken)
    → ((p : ℕ) → Acts form None (own p (all_by put events)) (given p))
    × InOneOrder (WakesSo put wakes) (all_by put events) (opened_parts form, sink) (parts_by put last, woken)

-- A merge in which the calls ask just this, and which is the given one where these are put for their tasks.
pub record IsBehind {T W V S : Type 0} (put : W → V) (wakes : S → V → S → Type 0) (form : QueueForm) (events : List (Happening T V)) (given : ℕ → List (Completed T))
    (sink : S) (last : Parts T V) (woken : S) (asks : List (ChannelAsk T W)) : Type 0 where
  pub behind : List (Happening T W)
  pub events_are : all_by put behind ≡ events
  pub asks_are : asks_of behind ≡ asks
  pub parts : Parts T W
  pub parts_are : parts_by put parts ≡ last
  pub acts : (p : ℕ) → Acts form None (own p behind) (given p)
  pub in_one_order : InOneOrder (WakesFor put wakes) behind (opened_parts form, sink) (parts, woken)

-- Of a merge each call may be taken to have had any task for which the one that it has was put. Two calls that have the same one may
-- have had two: so there is such a merge behind it for whatever the calls asked then.
abbrev pub TasksMayTellMore : {W V : Type 0} → (W → V) → (T S : Type 0) → (S → V → S → Type 0) → Type 0
TasksMayTellMore {W} {V} put T S wakes =
    (form : QueueForm) (events : List (Happening T V)) (given : ℕ → List (Completed T)) (sink : S) (last : Parts T V) (woken : S) (asks : List (ChannelAsk T W))
    → ((p : ℕ) → Acts form None (own p events) (given p)) → InOneOrder wakes events (opened_parts form, sink) (last, woken)
    → map (λ a. ask_by put a) asks ≡ asks_of events → IsBehind put wakes form events given sink last woken asks

-- ---- names

module _ {W V : Type 0} where
  -- a task with a name beside it
  abbrev pub task_of : W × V → W
  task_of x = x.0

  abbrev pub name_of : W × V → V
  name_of x = x.1

  -- a task is woken that has this name beside it
  abbrev pub WakesNamed : {S : Type 0} → (S → W → S → Type 0) → S → V → S → Type 0
  WakesNamed wakes = WakesSo name_of (WakesFor task_of wakes)

-- The merge in which the task of each call has the name beside it that this call was given. With the names alone for tasks it keeps the
-- headline; and each party was given what it was given.
pub record KeepsItByNames {T W V S : Type 0} (wakes : S → W → S → Type 0) (form : QueueForm) (events : List (Happening T W)) (given : ℕ → List (Completed T))
    (sink : S) (last : Parts T W) (woken : S) (named : List (ChannelAsk T (W × V))) : Type 0 where
  pub both : IsBehind task_of wakes form events given sink last woken named
  pub headline : KeepsTheHeadline (WakesNamed wakes) form (all_by name_of both.behind) given sink (parts_by name_of both.parts) woken
  -- its steps are those of the given one, but that each begin has the name for its task
  pub steps : steps_of (all_by name_of both.behind) ≡ steps_asking events (map (λ a. ask_by name_of a) named)

-- whatever parties do to a new channel, with tasks of any kind, and whichever name each call is given beside its task
abbrev pub NamedMergesKeepTheHeadline : (T W V S : Type 0) → (S → W → S → Type 0) → Type 0
NamedMergesKeepTheHeadline T W V S wakes =
    (form : QueueForm) (events : List (Happening T W)) (given : ℕ → List (Completed T)) (sink : S) (last : Parts T W) (woken : S) (named : List (ChannelAsk T (W × V)))
    → HasCells form → LastsFor (length events) form → ((p : ℕ) → Acts form None (own p events) (given p))
    → InOneOrder wakes events (opened_parts form, sink) (last, woken) → map (λ a. ask_by task_of a) named ≡ asks_of events
    → KeepsItByNames wakes form events given sink last woken named
