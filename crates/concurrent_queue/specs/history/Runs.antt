-- What one history of a queue's cells is: a run of the queue, whose promise speaks of accounts, of replies and of the calls under way.
use Rattle.std.specs.Prelude.{◌≡◌, ◌⊎◌, ℕ, ◌≤◌, ◌^◌, List, [], ◌∷◌, ◌++◌, length, Option, None, Some, option_to_list}
use mathlib.Core.Option as home
use lib.ListN.{get_elem?}
use Rattle.concurrent_queue.specs.Bridge.{Event, Happening, begins, does, own, asking, left_under_way, HasCells, IsRunOf}
use Rattle.concurrent_queue.specs.Capacity.{capacity_of}
use Rattle.concurrent_queue.specs.Contents.{Contents}
use Rattle.concurrent_queue.specs.Deeds.{Notes}
use Rattle.concurrent_queue.specs.Touched.{HasLed, TouchesItsOwn}
use Rattle.concurrent_queue.specs.Walked.{CallMakes}
use Rattle.concurrent_queue.specs.declared.call.QueueAsk.{QueueAsk}
use Rattle.concurrent_queue.specs.declared.call.QueueReply.{QueueReply}
use Rattle.concurrent_queue.specs.declared.cells.QueueForm.{QueueForm}
use Rattle.concurrent_queue.specs.declared.queue_call.QueueCall.{QueueCall}
use Rattle.concurrent_queue.specs.history.History.{IsHistory}
use Rattle.concurrent_queue.specs.history.Joined.{EachOnce}
use Rattle.concurrent_queue.specs.history.Keeps.{HistoryOf}
use Rattle.concurrent_queue.specs.declared.history.rule.Counter.{Counter}
use Rattle.concurrent_queue.specs.declared.history.rule.CountStep.{CountStep}
use Rattle.concurrent_queue.specs.declared.history.party.Standing.{Standing}
use Rattle.concurrent_queue.specs.declared.history.rule.View.{View}

module _ {T : Type 0} where
  -- a party that has done nothing
  abbrev pub fresh : Standing T
  fresh = record { asked = []; call = None; replies = [] }

  -- it begins a call that asks this
  abbrev pub begun : QueueAsk T → Standing T → Standing T
  begun a s = record { asked = s.asked ++ a ∷ []; call = Some (asking a); replies = s.replies }

  -- a step of its call leaves this, and answers so
  abbrev pub after_step : Standing T → QueueCall T → Option (QueueReply T) → Standing T
  after_step s next reply = record { asked = s.asked; call = left_under_way next reply; replies = s.replies ++ option_to_list reply }

  -- a party begins a call where it has none under way, and goes on as the call's machine does, by the answers
  abbrev pub moves : QueueForm → Standing T → Event T → Standing T → Type 0
  moves form s (begins a) t = (s.call ≡ None) × (t ≡ begun a s)
  moves form s (does o) t =
      (call : QueueCall T) × (next : QueueCall T) × (reply : Option (QueueReply T))
      × (s.call ≡ Some call) × CallMakes Notes form None call o next reply × (t ≡ after_step s next reply)

  -- a new party has done nothing, or has begun a call; and a call begins without a step on a cell
  abbrev pub enters : QueueForm → Standing T → Type 0
  enters form t = (t ≡ fresh) ⊎ ((a : QueueAsk T) × moves form fresh (begins a) t)

  abbrev pub turns : QueueForm → Standing T → Standing T → Type 0
  turns form s t = (a : QueueAsk T) × moves form s (begins a) t

  -- it counts nothing, and nothing of what a party has goes to another
  abbrev pub counts : QueueForm → Standing T → Standing T → Counter → CountStep → ℕ → Type 0
  counts form s t which op n = ⊥

  abbrev pub both : Standing T → Standing T → Standing T
  both s t = s

  abbrev pub left : Standing T → Standing T
  left t = t

  abbrev pub parts : QueueForm → Standing T → Standing T → Standing T → Type 0
  parts form s stays goes = ⊥

  -- it has no call under way
  abbrev pub rests : Standing T → Type 0
  rests s = s.call ≡ None

  -- its next operation on the cells is the next one of this call
  abbrev pub calls : QueueForm → Standing T → QueueCall T → Type 0
  calls form s call = s.call ≡ Some call

  abbrev pub history : HistoryOf T (Standing T)
  history form views c t = IsHistory moves fresh form views c

  -- what the views say of each party: one that hasn't come yet has no call and no reply
  abbrev pub standing_in : home.Option (View T (Standing T)) → Standing T
  standing_in (home.some v) = v.state
  standing_in home.none = fresh

  abbrev pub standing_of : List (View T (Standing T)) → ℕ → Standing T
  standing_of views p = standing_in (get_elem? views p)

  abbrev pub IsQueueHistory : QueueForm → List (View T (Standing T)) → Contents T → Type 0
  IsQueueHistory form views c = IsHistory moves fresh form views c

  -- what a party's calls asked, by its events
  abbrev pub asks_of : List (Event T) → List (QueueAsk T)
  asks_of [] = []
  asks_of (begins a ∷ xs) = a ∷ asks_of xs
  asks_of (does o ∷ xs) = asks_of xs

  -- in these events each of these parties has asked, and was answered, what it says
  abbrev pub AllDid : List (Happening T) → (ℕ → List (QueueReply T)) → List (ℕ × Standing T) → Type 0
  AllDid events replies [] = Unit {0}
  AllDid events replies (x ∷ xs) = ((asks_of (own x.0 events) ≡ x.1.asked) × (replies x.0 ≡ x.1.replies)) × AllDid events replies xs

  -- what all parties did is a run of the queue. This one and each that was joined in is among them, with what it asked and was answered,
  -- and no party is counted twice
  abbrev pub IsRunWith : View T (Standing T) → Type 0
  IsRunWith v =
      (views : List (View T (Standing T))) × (c : Contents T) × (h : IsQueueHistory v.form views c)
      × IsRunOf v.form h.events (λ p. (standing_of views p).replies) c × (get_elem? views v.who ≡ home.some v)
      × AllDid h.events (λ p. (standing_of views p).replies) ((v.who, v.state) ∷ v.over) × EachOnce ((v.who, v.state) ∷ v.over)

-- one history of a queue's cells is a run of the queue, in which each party has got the replies that its view says
abbrev pub HistoriesAreRuns : Type 0 → Type 0
HistoriesAreRuns T =
    (form : QueueForm) (views : List (View T (Standing T))) (c : Contents T) → HasCells form → (h : IsQueueHistory form views c)
    → IsRunOf form h.events (λ p. (standing_of views p).replies) c

-- and each party's machine is where its view says. One slot counts no positions; in a ring there are fewer events than positions
abbrev pub HistoriesHaveLed : Type 0 → Type 0
HistoriesHaveLed T =
    (form : QueueForm) (views : List (View T (Standing T))) (c : Contents T) → HasCells form → (h : IsQueueHistory form views c)
    → (capacity_of form ≡ Some 1) ⊎ (length h.events ≤ 2 ^ 61)
    → HasLed form h.events c (λ p. (standing_of views p).call)

-- so each party's next operation is made on what is its own
abbrev pub HistoriesTouchTheirOwn : Type 0 → Type 0
HistoriesTouchTheirOwn T =
    (form : QueueForm) (views : List (View T (Standing T))) (c : Contents T) → HasCells form → (h : IsQueueHistory form views c)
    → (capacity_of form ≡ Some 1) ⊎ (length h.events ≤ 2 ^ 61)
    → (p : ℕ) (call : QueueCall T) → (standing_of views p).call ≡ Some call → TouchesItsOwn form c (λ q. (standing_of views q).call) p call
