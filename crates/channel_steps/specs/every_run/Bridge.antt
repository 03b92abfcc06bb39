-- Calls of one channel by any number of parties, each operation on a cell of the queue, each section on a list of listeners and
-- each operation on a count an event of its own. Of each party only this is asked, that its calls do what their machines do next and
-- go by the answers, whatever these are: so a call does over cells of any kind. Of the cells, that the events of all come in one
-- order, and that each answer is what the cells then gave.
use Rattle.std.specs.Prelude.{◌≡◌, ◌⊎◌, ℕ, ◌==◌, ◌<◌, ◌^◌, List, [], ◌∷◌, ◌++◌, length, map, Option, None, Some, MatchOption, if◌then◌else◌}
use Rattle.concurrent_queue.specs.Bridge.{HasCells}
use Rattle.concurrent_queue.specs.Bridge as queue
use Rattle.concurrent_queue.specs.Capacity.{capacity_of}
use Rattle.concurrent_queue.specs.Deeds as cell
use Rattle.concurrent_queue.specs.Effects as cell_effect
use Rattle.concurrent_queue.specs.Made.{new_cells}
use Rattle.concurrent_queue.specs.Parties.{call_under}
use Rattle.concurrent_queue.specs.machine.FastPath.{Leads}
use Rattle.concurrent_queue.specs.Walked.{CallMakes, StateMakes}
use Rattle.concurrent_queue.specs.Walked as whole
use Rattle.concurrent_queue.specs.declared.call.QueueReply.{QueueReply}
use Rattle.concurrent_queue.specs.declared.cells.QueueForm.{QueueForm}
use Rattle.concurrent_queue.specs.declared.queue_call.CallState.{CallState}
use Rattle.concurrent_queue.specs.declared.queue_call.QueueCall.{QueueCall}
use Rattle.event_listener.specs.Notices.{Woken}
use Rattle.channel_calls.specs.Asks.{first, kept_by}
use Rattle.channel_calls.specs.Deeds.{Deed, stepped, Done}
use Rattle.channel_calls.specs.Effects.{Does}
use Rattle.channel_calls.specs.Parts.{Parts, new_wait_lists}
use Rattle.channel_calls.specs.Walks as walks
use Rattle.channel_calls.specs.Walks.{Takes, ChannelMakes, WalkedFrom}
use Rattle.channel_calls.specs.declared.whole.Completed.{Completed}
use Rattle.channel_calls.specs.declared.ask.ChannelAsk.{ChannelAsk}
use Rattle.channel_calls.specs.declared.mark.Mark.{Mark}
use Rattle.channel_calls.specs.declared.reply.Reply.{Reply}
use Rattle.channel_calls.specs.declared.stage.Returned.{Returned}
use Rattle.channel_calls.specs.declared.stage.Stage.{Stage}
use Rattle.channel_steps.specs.Run.{IsRun, Next, NextConfiguration, Touches, new_configuration}
use Rattle.channel_steps.specs.Configuration.{Configuration, Represents}
use Rattle.channel_steps.specs.declared.party.Entry.{Entry}
use Rattle.channel_steps.specs.declared.party.Party.{Party}
use Rattle.channel_steps.specs.declared.run.Step.{Step}
use Rattle.channel_steps.specs.declared.run.Step.TheVariants as step

-- what one step of a call does: a step of its queue's call, which is one operation on a cell of the queue with its answer or touches
-- none; a section on a list or an operation on a count, with its answer; or nothing
pub data Act (T W : Type 0) : Type 0 where
  on_queue : Option (cell.Deed T) → Act T W
  on_wait_lists : Deed T W → Act T W
  on_nothing : Act T W

-- a party begins a call, or its call makes a step
pub data Event (T W : Type 0) : Type 0 where
  begins : ChannelAsk T W → Event T W
  does : Act T W → Event T W

-- an event, and whose it is
pub record Happening (T W : Type 0) : Type 0 where
  pub party : ℕ
  pub event : Event T W

-- a moment: what the cells hold, the parties with their calls under way, the channel with these calls, and the sink of woken tasks
pub record MergeMoment (T W S : Type 0) : Type 0 where
  pub parts : Parts T W
  pub parties : List (Party T W)
  pub configuration : Configuration T W
  pub sink : S

module _ {T : Type 0} where
  abbrev pub given_by : Option (Reply T) → Option (Returned T) → List (Completed T)
  given_by (Some r) (Some kept) = record { reply = r; kept = kept } ∷ []
  given_by _ _ = []

module _ {T W : Type 0} where
  -- ---- what is asked of each party

  -- what is known of cells between two steps: nothing but what the last step did, with its answer
  abbrev pub Notes : QueueForm → Deed T W → Act T W → Act T W → Type 0
  Notes form (stepped call next answer) before after =
      (o : Option (cell.Deed T)) × CallMakes cell.Notes form None call o next answer × (after ≡ on_queue o)
  Notes form d before after = after ≡ on_wait_lists d

  -- these are the events of a party whose call stands at this stage, or that has none, and what it is given: calls one after
  -- another, each step of which is its machine's, and the last of which may not have answered yet
  abbrev pub Acts : QueueForm → Option (Stage (QueueCall T) T W) → List (Event T W) → List (Completed T) → Type 0
  Acts form at [] given = given ≡ []
  Acts form None (begins ask ∷ xs) given = (at : Stage (QueueCall T) T W) × Takes (first ask) at None × Acts form (Some at) xs given
  Acts form (Some at) (does o ∷ xs) given =
      (m : Mark) × (next : Stage (QueueCall T) T W) × (answer : Option (Reply T)) × ChannelMakes (Notes form) at on_nothing o m next answer
      × MatchOption answer (Acts form (Some next) xs given)
      (λ r. (more : List (Completed T)) × (given ≡ record { reply = r; kept = kept_by next } ∷ more) × Acts form None xs more)
  Acts form at xs given = ⊥

  -- the same, of a party that is left at this stage by the last of them, or with no call under way
  abbrev pub ActsTo : QueueForm → Option (Stage (QueueCall T) T W) → List (Event T W) → List (Completed T) → Option (Stage (QueueCall T) T W) → Type 0
  ActsTo form at [] given to = (given ≡ []) × (to ≡ at)
  ActsTo form None (begins ask ∷ xs) given to = (at : Stage (QueueCall T) T W) × Takes (first ask) at None × ActsTo form (Some at) xs given to
  ActsTo form (Some at) (does o ∷ xs) given to =
      (m : Mark) × (next : Stage (QueueCall T) T W) × (answer : Option (Reply T)) × ChannelMakes (Notes form) at on_nothing o m next answer
      × MatchOption answer (ActsTo form (Some next) xs given to)
      (λ r. (more : List (Completed T)) × (given ≡ record { reply = r; kept = kept_by next } ∷ more) × ActsTo form None xs more to)
  ActsTo form at xs given to = ⊥

  -- at which stage a party's call stands, by the parties of a moment
  abbrev pub id_of : Party T W → ℕ
  id_of x = x.id

  abbrev pub stage_of : Party T W → Stage (QueueCall T) T W
  stage_of x = x.call.stage

  abbrev pub stage_at : ℕ → List (Party T W) → Option (Stage (QueueCall T) T W)
  stage_at p parties = call_under id_of stage_of p parties

  -- the events of one party, in their order
  abbrev pub own : ℕ → List (Happening T W) → List (Event T W)
  own p [] = []
  own p (x ∷ xs) = if x.party == p then x.event ∷ own p xs else own p xs

  -- ---- what they are

  abbrev pub step_of : ℕ → Event T W → Step T W
  step_of p (begins ask) = step.Begin p ask
  step_of p (does o) = step.Step p

  abbrev pub steps_of : List (Happening T W) → List (Step T W)
  steps_of [] = []
  steps_of (x ∷ xs) = step_of x.party x.event ∷ steps_of xs

  -- what a party was given in a run of these steps
  abbrev pub given_to : ℕ → List (Happening T W) → List (Entry T) → List (Completed T)
  given_to p (x ∷ xs) (e ∷ es) = if x.party == p then given_by e.reply e.kept ++ given_to p xs es else given_to p xs es
  given_to p _ _ = []

  -- a channel that was just opened
  abbrev pub opened_parts : QueueForm → Parts T W
  opened_parts form = record { cells = new_cells form; wait_lists = new_wait_lists }

  -- with nobody at work
  abbrev pub just_opened : {S : Type 0} → QueueForm → S → MergeMoment T W S
  just_opened form sink = record { parts = opened_parts form; parties = []; configuration = new_configuration (capacity_of form); sink = sink }

  module _ {S : Type 0} (wakes : S → W → S → Type 0) where
    -- ---- what is asked of the cells, and of the sink that gets the tasks that a step wakes

    abbrev pub Changes : Event T W → Parts T W × S → Parts T W × S → Type 0
    Changes (does (on_queue (Some d))) c e = cell_effect.Does d c.0.cells e.0.cells × (e.0.wait_lists ≡ c.0.wait_lists) × (e.1 ≡ c.1)
    Changes (does (on_wait_lists d)) c e = Done Does wakes d c e
    Changes _ c e = e ≡ c

    -- the events of all, one after another, each with the answer that the cells gave
    abbrev pub InOneOrder : List (Happening T W) → Parts T W × S → Parts T W × S → Type 0
    InOneOrder [] c e = e ≡ c
    InOneOrder (x ∷ xs) c e = (m : Parts T W × S) × Changes x.event c m × InOneOrder xs m e

    -- a step of a run: what the machine of the party's call does next. It wakes these, and at most one cell, list or count differs
    -- after it
    pub record NextMoment (m : MergeMoment T W S) (x : Step T W) (e : Entry T) (n : MergeMoment T W S) : Type 0 where
      pub names : List W
      pub next : Next m.configuration x e names n.configuration
      pub woken : Woken wakes m.sink names n.sink
      pub touches : Touches x m.parts n.parts

    -- a run from a channel that was opened over a queue of this form, with nobody at work, made just these steps, gave each party
    -- this, and left these cells and this sink. At its end each party stands where its own events have led its machine
    pub record IsRunOf (form : QueueForm) (events : List (Happening T W)) (given : ℕ → List (Completed T)) (sink : S) (last : Parts T W) (woken : S) : Type 0 where
      pub trace : List (Entry T)
      pub parties : List (Party T W)
      pub configuration : Configuration T W
      pub opened : let nobody : List (Party T W) = [] in Represents (opened_parts form) nobody (new_configuration (capacity_of form))
      pub run : IsRun NextMoment (just_opened form sink) (steps_of events) trace (record { parts = last; parties = parties; configuration = configuration; sink = woken })
      -- and so from configuration to configuration, of which the laws of all runs speak
      pub configurations : IsRun NextConfiguration (new_configuration (capacity_of form)) (steps_of events) trace configuration
      pub shown : Represents last parties configuration
      pub answers : (p : ℕ) → given_to p events trace ≡ given p
      pub stands : (p : ℕ) → ActsTo form None (own p events) (given p) (stage_at p parties)

-- the positions of a queue of this form last for so many steps; one slot counts none
abbrev pub LastsFor : ℕ → QueueForm → Type 0
LastsFor n form = (capacity_of form ≡ Some 1) ⊎ (n < 2 ^ 61)

-- whatever parties do to a new channel, each by the machine and all in one order, is a run, as long as its positions last
abbrev pub MergesAreRuns : (T W S : Type 0) → (S → W → S → Type 0) → Type 0
MergesAreRuns T W S wakes =
    (form : QueueForm) (events : List (Happening T W)) (given : ℕ → List (Completed T)) (sink : S) (last : Parts T W) (woken : S)
    → HasCells form → LastsFor (length events) form → ((p : ℕ) → Acts form None (own p events) (given p))
    → InOneOrder wakes events (opened_parts form, sink) (last, woken) → IsRunOf wakes form events given sink last woken

-- by whichever steps of its machine each party goes to `at` of it, there is such a run at whose end it stands there. A machine may make
-- a step in several ways, as a call of many messages does that has no room for a message more
abbrev pub PartiesStandWhereTheyWent : (T W S : Type 0) → (S → W → S → Type 0) → Type 0
PartiesStandWhereTheyWent T W S wakes =
    (form : QueueForm) (events : List (Happening T W)) (given : ℕ → List (Completed T)) (at : ℕ → Option (Stage (QueueCall T) T W)) (sink : S) (last : Parts T W) (woken : S)
    → HasCells form → LastsFor (length events) form → ((p : ℕ) → ActsTo form None (own p events) (given p) (at p))
    → InOneOrder wakes events (opened_parts form, sink) (last, woken)
    → (run : IsRunOf wakes form events given sink last woken) × ((p : ℕ) → stage_at p run.parties ≡ at p)

-- ---- whole calls over cells of any kind, as their contracts say it

module _ {T W X : Type 0} (did : Deed T W → X → X → Type 0) (cells_did : cell.Deed T → X → X → Type 0) where
  -- operations on the queue's cells lead a call of it from the one state to the other, as its machine makes them: to the call that goes
  -- on, or to its answer, after which nobody asks where it stands
  abbrev pub QueueWalks : QueueForm → QueueCall T → X → QueueCall T → Option (QueueReply T) → X → Type 0
  QueueWalks form call s next None t =
      (n : ℕ) × (x : X) × (at : CallState T) × Leads (StateMakes cells_did form) n s call.state x at
      × StateMakes cells_did form x at t (record { action = next.state; mark = next.mark; reply = None })
  QueueWalks form call s next (Some r) t = whole.WalkedFrom cells_did form call.state s r t

  -- what is done to the queue by a call of the channel is such a walk: one step or more of the queue's call
  abbrev pub QueueIsWalked : QueueForm → Type 0
  QueueIsWalked form =
      (call next : QueueCall T) (answer : Option (QueueReply T)) (s t : X) → did (stepped call next answer) s t → QueueWalks form call s next answer t

  -- these steps lead from the one state of the cells to the other
  abbrev pub Along : List (Act T W) → X → X → Type 0
  Along [] s t = t ≡ s
  Along (on_queue (Some d) ∷ os) s t = (m : X) × cells_did d s m × Along os m t
  Along (on_queue None ∷ os) s t = Along os s t
  Along (on_wait_lists d ∷ os) s t = (m : X) × did d s m × Along os m t
  Along (on_nothing ∷ os) s t = Along os s t

  -- a call that was walked to its answer has done steps that are its party's next events, whatever the party does then
  abbrev pub WalksAct : Type 0
  WalksAct =
      (form : QueueForm) (ask : ChannelAsk T W) (s t : X) (r : Reply T) (kept : Returned T) → QueueIsWalked form → WalkedFrom did (first ask) s r kept t
      → (os : List (Act T W)) × Along os s t
      × ((xs : List (Event T W)) (more : List (Completed T)) → Acts form None xs more → Acts form None (begins ask ∷ map does os ++ xs) (record { reply = r; kept = kept } ∷ more))

  -- and so has one that was walked to some stage and makes no more steps: its party's last events
  abbrev pub StandsAct : Type 0
  StandsAct =
      (form : QueueForm) (ask : ChannelAsk T W) (a b : Stage (QueueCall T) T W) (n : ℕ) (s t : X) → QueueIsWalked form → Takes (first ask) a None → walks.Leads did n s a t b
      → (os : List (Act T W)) × Along os s t × Acts form None (begins ask ∷ map does os) []

-- an operation on the cells of the queue, seen in the channel's; it wakes nobody
abbrev pub InCells : {T Q C S : Type 0} → (cell.Deed T → Q → Q → Type 0) → (C → Q) → cell.Deed T → C × S → C × S → Type 0
InCells did view d s t = did d (view s.0) (view t.0) × (t.1 ≡ s.1)
