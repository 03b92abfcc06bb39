-- Calls of one queue by any number of parties, each operation an event of its own. Of each party only this is asked, that its calls
-- do what their machines do next and go by the answers, whatever these are: so a call does over cells of any kind. Of the cells,
-- that the operations of all come in one order, and that each answer is what the cells then gave.
use Rattle.std.specs.Prelude.{◌≡◌, ℕ, ◌<◌, ◌≤◌, ◌^◌, ◌==◌, List, [], ◌∷◌, ◌++◌, map, Option, None, Some, MatchOption, option_to_list, if◌then◌else◌}
use Rattle.concurrent_queue.specs.Contents.{Contents}
use Rattle.concurrent_queue.specs.Deeds.{Deed, Notes}
use Rattle.concurrent_queue.specs.Effects.{Does}
use Rattle.concurrent_queue.specs.Made.{new_cells}
use Rattle.concurrent_queue.specs.Parties.{call_under, id_of, under_way_of}
use Rattle.concurrent_queue.specs.Queue.{Phase}
use Rattle.concurrent_queue.specs.Run.{Config, IsCounted, RanTo}
use Rattle.concurrent_queue.specs.Scene.{CallUnderWay}
use Rattle.concurrent_queue.specs.Step.{ActiveQueueCall, seat, FitsAt}
use Rattle.concurrent_queue.specs.Walked.{CallMakes, WalkedAsking}
use Rattle.concurrent_queue.specs.declared.call.QueueAsk.{QueueAsk}
use Rattle.concurrent_queue.specs.declared.call.QueueEntry.{QueueEntry}
use Rattle.concurrent_queue.specs.declared.call.QueueMark.TheVariants.{Nothing}
use Rattle.concurrent_queue.specs.declared.call.QueueReply.{QueueReply}
use Rattle.concurrent_queue.specs.declared.cells.QueueForm.{QueueForm}
use Rattle.concurrent_queue.specs.declared.cells.QueueForm.TheVariants.{Bounded, Unbounded}
use Rattle.concurrent_queue.specs.declared.queue_call.CallState.TheVariants.{Asked}
use Rattle.concurrent_queue.specs.declared.queue_call.QueueCall.{QueueCall}
use Rattle.concurrent_queue.specs.declared.run.Party.{Party}
use Rattle.concurrent_queue.specs.declared.run.QueueStep.{QueueStep}
use Rattle.concurrent_queue.specs.declared.run.QueueStep.TheVariants.{Begin, Step}

-- a party begins a call, or its call makes a step: an operation with its answer, or one that touches no cell
pub data Event (T : Type 0) : Type 0 where
  begins : QueueAsk T → Event T
  does : Option (Deed T) → Event T

-- an event, and whose it is
pub record Happening (T : Type 0) : Type 0 where
  pub party : ℕ
  pub event : Event T

-- a party's call under way, and how far it has come
pub record Caller (T : Type 0) : Type 0 where
  pub party : Party T
  pub phase : Phase T

module _ {T : Type 0} where
  -- ---- what is asked of each party

  abbrev pub asking : QueueAsk T → QueueCall T
  asking a = record { state = Asked a; mark = Nothing }

  -- these are the events and replies of a party that has this call under way, or none: calls one after another, each step of
  -- which is its machine's, and the last of which may not have replied yet
  abbrev pub Acts : QueueForm → Option (QueueCall T) → List (Event T) → List (QueueReply T) → Type 0
  Acts form at [] replies = replies ≡ []
  Acts form None (begins a ∷ xs) replies = Acts form (Some (asking a)) xs replies
  Acts form (Some call) (does o ∷ xs) replies =
      (next : QueueCall T) × (answer : Option (QueueReply T)) × CallMakes Notes form None call o next answer
      × MatchOption answer (Acts form (Some next) xs replies) (λ r. (more : List (QueueReply T)) × (replies ≡ r ∷ more) × Acts form None xs more)
  Acts form at xs replies = ⊥

  -- the call that a step leaves under way: none, once it has replied
  abbrev pub left_under_way : QueueCall T → Option (QueueReply T) → Option (QueueCall T)
  left_under_way next None = Some next
  left_under_way next (Some r) = None

  -- these events of a party lead its machine from the one call to the other, or from or to none
  abbrev pub EventsLead : QueueForm → Option (QueueCall T) → List (Event T) → Option (QueueCall T) → Type 0
  EventsLead form at [] to = to ≡ at
  EventsLead form None (begins a ∷ xs) to = EventsLead form (Some (asking a)) xs to
  EventsLead form (Some call) (does o ∷ xs) to =
      (next : QueueCall T) × (answer : Option (QueueReply T)) × CallMakes Notes form None call o next answer × EventsLead form (left_under_way next answer) xs to
  EventsLead form at xs to = ⊥

  -- the events of one party, in their order
  abbrev pub own : ℕ → List (Happening T) → List (Event T)
  own p [] = []
  own p (x ∷ xs) = if x.party == p then x.event ∷ own p xs else own p xs

  -- ---- what is asked of the cells

  abbrev pub Changes : Event T → Contents T → Contents T → Type 0
  Changes (begins a) c d = d ≡ c
  Changes (does None) c d = d ≡ c
  Changes (does (Some x)) c d = Does x c d

  -- the operations of all, one after another, each with the answer that the cells gave
  abbrev pub InOneOrder : List (Happening T) → Contents T → Contents T → Type 0
  InOneOrder [] c d = d ≡ c
  InOneOrder (x ∷ xs) c d = (m : Contents T) × Changes x.event c m × InOneOrder xs m d

  -- ---- what they are

  abbrev pub step_of : ℕ → Event T → QueueStep T
  step_of p (begins a) = Begin p a
  step_of p (does o) = Step p

  abbrev pub steps_of : List (Happening T) → List (QueueStep T)
  steps_of [] = []
  steps_of (x ∷ xs) = step_of x.party x.event ∷ steps_of xs

  -- what a party was answered in a run of these steps
  abbrev pub replies_to : ℕ → List (Happening T) → List (QueueEntry T) → List (QueueReply T)
  replies_to p (x ∷ xs) (e ∷ es) = if x.party == p then option_to_list e.reply ++ replies_to p xs es else replies_to p xs es
  replies_to p _ _ = []

  abbrev pub caller_party : Caller T → Party T
  caller_party x = x.party

  abbrev pub caller_seat : Caller T → ActiveQueueCall T
  caller_seat x = seat x.party.call x.phase

  -- whose a call is, and what it asks
  abbrev pub asked_by : Caller T → ℕ × QueueAsk T
  asked_by x = (x.party.id, x.phase.ask)

  abbrev pub seen_asking : CallUnderWay T → ℕ × QueueAsk T
  seen_asking u = (u.party, u.ask)

  -- the calls under way at this moment of a run are those of these parties, with which the cells mean its queue
  pub record AreUnderWay (parties : List (Party T)) (f : Config T) : Type 0 where
    pub callers : List (Caller T)
    pub parties_are : map caller_party callers ≡ parties
    pub under_way : map seen_asking f.scene.under_way ≡ map asked_by callers
    pub fits : FitsAt f.chain f.cells f.scene.now (map caller_seat callers)

  -- a run of a new queue, as `run_queue_steps` promises it, made just these steps, gave each party these replies and left these
  -- cells. The call that a party has under way at its end is where the party's own events have led its machine
  pub record IsRunOf (form : QueueForm) (events : List (Happening T)) (replies : ℕ → List (QueueReply T)) (last : Contents T) : Type 0 where
    pub trace : List (QueueEntry T)
    pub ran : RanTo form (steps_of events) [] trace None
    pub answers : (p : ℕ) → replies_to p events trace ≡ replies p
    pub cells : (counted : IsCounted form trace) → (ran.run counted).last.cells ≡ last
    pub parties : List (Party T)
    pub stands : (p : ℕ) → EventsLead form None (own p events) (call_under id_of under_way_of p parties)
    pub under_way : (counted : IsCounted form trace) → AreUnderWay parties (ran.run counted).last

-- a bounded queue has a slot at least, and 2^58 at most
abbrev pub HasCells : QueueForm → Type 0
HasCells (Bounded cap) = (0 < cap) × (cap ≤ 2 ^ 58)
HasCells Unbounded = Unit {0}

-- whatever parties do to a new queue, each by the machine and all in one order, is a run
abbrev pub MergesAreRuns : Type 0 → Type 0
MergesAreRuns T =
    (form : QueueForm) (events : List (Happening T)) (replies : ℕ → List (QueueReply T)) (last : Contents T)
    → HasCells form → ((p : ℕ) → Acts form None (own p events) (replies p)) → InOneOrder events (new_cells form) last
    → IsRunOf form events replies last

-- a party's events lead its machine to one place and no other
abbrev pub EventsLeadToOnePlace : Type 0 → Type 0
EventsLeadToOnePlace T =
    (form : QueueForm) (at : Option (QueueCall T)) (xs : List (Event T)) (to other : Option (QueueCall T)) → EventsLead form at xs to → EventsLead form at xs other → other ≡ to

-- ---- whole calls over cells of any kind, as their contracts say it

module _ {T S : Type 0} (did : Deed T → S → S → Type 0) where
  -- these steps lead from the one state of the cells to the other
  abbrev pub Along : List (Option (Deed T)) → S → S → Type 0
  Along [] s t = t ≡ s
  Along (None ∷ os) s t = Along os s t
  Along (Some d ∷ os) s t = (m : S) × did d s m × Along os m t

  -- a call that was walked to its answer has done steps that are its party's next events, whatever the party does then
  abbrev pub WalksAct : Type 0
  WalksAct =
      (form : QueueForm) (a : QueueAsk T) (s t : S) (r : QueueReply T) → WalkedAsking did form a s r t
      → (os : List (Option (Deed T))) × Along os s t
      × ((xs : List (Event T)) (more : List (QueueReply T)) → Acts form None xs more → Acts form None (begins a ∷ map does os ++ xs) (r ∷ more))
