-- What one history of a queue's cells accounts for: the messages that were accepted, those that have left and those that are held, and
-- whose calls brought them and took them.
use Rattle.std.specs.Prelude.{◌≡◌, ◌⊎◌, ℕ, ◌==◌, List, [], ◌∷◌, ◌++◌, length, None, Some, Ok, option_to_list, if◌then◌else◌}
use Rattle.concurrent_queue.specs.Bridge.{HasCells, IsRunOf}
use Rattle.concurrent_queue.specs.Capacity.{capacity_of}
use Rattle.concurrent_queue.specs.Contents.{Contents}
use Rattle.concurrent_queue.specs.Queue.{message}
use Rattle.concurrent_queue.specs.Run.{IsCounted}
use Rattle.concurrent_queue.specs.Step.{length_in, counted_in, items_in, Lies}
use Rattle.concurrent_queue.specs.declared.call.QueueAsk.{QueueAsk}
use Rattle.concurrent_queue.specs.declared.call.QueueAsk.TheVariants as ask
use Rattle.concurrent_queue.specs.declared.call.QueueReply.{QueueReply}
use Rattle.concurrent_queue.specs.declared.call.QueueReply.TheVariants as reply
use Rattle.concurrent_queue.specs.declared.cells.QueueForm.{QueueForm}
use Rattle.concurrent_queue.specs.history.Runs.{standing_of, IsQueueHistory}
use Rattle.concurrent_queue.specs.declared.history.party.Standing.{Standing}
use Rattle.concurrent_queue.specs.declared.history.rule.View.{View}

module _ {T : Type 0} where
  -- ---- what calls brought and took, by what they asked and were answered

  -- the message that a call brought
  abbrev pub brought : QueueAsk T → QueueReply T → List T
  brought (ask.Push v) (reply.Push (Ok u)) = v ∷ []
  brought (ask.ForcePush v) (reply.Force (Ok o)) = v ∷ []
  brought _ _ = []

  -- the message that a call took
  abbrev pub taken : QueueReply T → List T
  taken (reply.Pop (Ok v)) = v ∷ []
  taken (reply.Force (Ok o)) = option_to_list o
  taken _ = []

  -- what calls brought that were made one after another, and what they took
  abbrev pub brought_by : List (QueueAsk T) → List (QueueReply T) → List T
  brought_by (a ∷ asked) (r ∷ replies) = brought a r ++ brought_by asked replies
  brought_by _ _ = []

  abbrev pub taken_by : List (QueueReply T) → List T
  taken_by [] = []
  taken_by (r ∷ replies) = taken r ++ taken_by replies

  -- ---- what a call under way may have done already

  -- what was asked and has no answer yet: the call under way, if there is one
  abbrev pub unanswered : List (QueueAsk T) → List (QueueReply T) → List (QueueAsk T)
  unanswered asked [] = asked
  unanswered [] (r ∷ replies) = []
  unanswered (a ∷ asked) (r ∷ replies) = unanswered asked replies

  -- it has brought its message, or not yet
  abbrev pub MayBring : List (QueueAsk T) → List T → Type 0
  MayBring [] more = more ≡ []
  MayBring (a ∷ []) more = (more ≡ []) ⊎ (more ≡ message a)
  MayBring _ more = ⊥

  -- it has taken a message, if it is a pop or displaces one, or not yet
  abbrev pub MayTake : List (QueueAsk T) → List T → Type 0
  MayTake (ask.Pop ∷ []) more = (more ≡ []) ⊎ ((v : T) × (more ≡ v ∷ []))
  MayTake (ask.ForcePush w ∷ []) more = (more ≡ []) ⊎ ((v : T) × (more ≡ v ∷ []))
  MayTake (a ∷ b ∷ asked) more = ⊥
  MayTake _ more = more ≡ []

  -- ---- messages, each with the number of a party

  abbrev pub messages : List (ℕ × T) → List T
  messages [] = []
  messages (x ∷ xs) = x.1 ∷ messages xs

  -- those of one party, in their order
  abbrev pub of_party : ℕ → List (ℕ × T) → List T
  of_party p [] = []
  of_party p (x ∷ xs) = if x.0 == p then x.1 ∷ of_party p xs else of_party p xs

  -- what a party's answered calls brought, and what they took
  abbrev pub pushed : Standing T → List T
  pushed s = brought_by s.asked s.replies

  abbrev pub popped : Standing T → List T
  popped s = taken_by s.replies

  -- all messages that a party has brought, and all that it has taken: with that of a call under way, where it has come so far
  abbrev pub HasBrought : Standing T → List T → Type 0
  HasBrought s own = (more : List T) × (own ≡ pushed s ++ more) × MayBring (unanswered s.asked s.replies) more

  abbrev pub HasTaken : Standing T → List T → Type 0
  HasTaken s own = (more : List T) × (own ≡ popped s ++ more) × MayTake (unanswered s.asked s.replies) more

  -- this party has a call under way that brings this message
  abbrev pub IsBringing : Standing T → T → Type 0
  IsBringing s v = (a : QueueAsk T) × (unanswered s.asked s.replies ≡ a ∷ []) × (message a ≡ v ∷ [])

  -- what was accepted, each message with the party whose call brought it, and what has left, each with the party whose call took it. What
  -- has left, followed by what is held, is what was accepted, in order, each once. The cells say how many messages are held, and each lies in
  -- its slot or is still with the call that brings it
  pub record Accounts (form : QueueForm) (at : ℕ → Standing T) (c : Contents T) : Type 0 where
    pub accepted : List (ℕ × T)
    pub gone : List (ℕ × T)
    pub held : List T
    pub in_order : messages gone ++ held ≡ messages accepted
    pub each_brought : (p : ℕ) → HasBrought (at p) (of_party p accepted)
    pub each_took : (p : ℕ) → HasTaken (at p) (of_party p gone)
    pub ended : (p : ℕ) → (at p).call ≡ None → unanswered (at p).asked (at p).replies ≡ []
    pub long : length_in c ≡ length held
    pub chain : List ℕ
    pub lies : Lies chain c held (λ v. (p : ℕ) × IsBringing (at p) v)
    pub counted : (capacity_of form ≡ Some 1) ⊎ (counted_in c ≡ length accepted)
    pub at_rest : ((p : ℕ) → (at p).call ≡ None) → held ≡ items_in c

-- one history of a queue's cells is a run of the queue, and if no more messages were accepted in it than there are positions, it accounts
-- for all of them, by what each party's calls asked and were answered
abbrev pub HistoriesAreAccounted : Type 0 → Type 0
HistoriesAreAccounted T =
    (form : QueueForm) (views : List (View T (Standing T))) (c : Contents T) → HasCells form → (h : IsQueueHistory form views c)
    → (run : IsRunOf form h.events (λ p. (standing_of views p).replies) c)
    × (IsCounted form run.trace → Accounts form (λ p. standing_of views p) c)

-- the same of a history which is known to be a run
abbrev pub RunsAreAccounted : Type 0 → Type 0
RunsAreAccounted T =
    (form : QueueForm) (views : List (View T (Standing T))) (c : Contents T) (h : IsQueueHistory form views c)
    (run : IsRunOf form h.events (λ p. (standing_of views p).replies) c) → IsCounted form run.trace → Accounts form (λ p. standing_of views p) c

-- one call more, of a party whose calls were all answered, adds what it brought and took
abbrev pub CallsAddUp : Type 0 → Type 0
CallsAddUp T =
    (asked : List (QueueAsk T)) (replies : List (QueueReply T)) (a : QueueAsk T) (r : QueueReply T) → length asked ≡ length replies
    → (brought_by (asked ++ a ∷ []) (replies ++ r ∷ []) ≡ brought_by asked replies ++ brought a r) × (taken_by (replies ++ r ∷ []) ≡ taken_by replies ++ taken r)
    × (length (asked ++ a ∷ []) ≡ length (replies ++ r ∷ []))
