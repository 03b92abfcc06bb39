-- What single calls bring and take, and one whole history: a push beside a pop.
use Rattle.std.specs.Prelude.{◌≡◌, List, [], ◌∷◌, Some, Ok, Err, refl}
use Rattle.concurrent_queue.specs.Made.{new_cells}
use Rattle.concurrent_queue.specs.declared.call.QueueAsk.TheVariants as ask
use Rattle.concurrent_queue.specs.declared.call.QueueReply.TheVariants as reply
use Rattle.concurrent_queue.specs.declared.cells.QueueForm.TheVariants.{Bounded}
use Rattle.concurrent_queue.specs.declared.error.PushError.TheVariants.{Full}
use Rattle.queue_history.specs.Accounted.{brought_by, taken_by, unanswered, of_party, Accounts}
use Rattle.concurrent_queue.specs.history.Runs.{standing_of, IsQueueHistory}
use Rattle.concurrent_queue.specs.declared.history.party.Standing.{Standing}
use Rattle.concurrent_queue.specs.declared.history.rule.View.{View}

-- a refused push brings nothing, and one that displaces a message brings its own
accepted_pushes_bring : {T : Type 0} (v w x : T)
    → brought_by (ask.Push v ∷ ask.Push w ∷ ask.ForcePush x ∷ ask.Pop ∷ []) (reply.Push (Ok tt) ∷ reply.Push (Err (Full w)) ∷ reply.Force (Ok (Some v)) ∷ reply.Pop (Ok x) ∷ []) ≡ v ∷ x ∷ []
accepted_pushes_bring v w x = refl

-- and takes the one that it displaced
pops_take : {T : Type 0} (v w x : T) → taken_by (reply.Push (Ok tt) ∷ reply.Push (Err (Full w)) ∷ reply.Force (Ok (Some v)) ∷ reply.Pop (Ok x) ∷ []) ≡ v ∷ x ∷ []
pops_take v w x = refl

last_call_is_under_way : {T : Type 0} (v : T) → unanswered (ask.Push v ∷ ask.Pop ∷ []) (reply.Push (Ok tt) ∷ []) ≡ ask.Pop ∷ []
last_call_is_under_way v = refl

each_has_its_own : {T : Type 0} (v w x : T) → of_party 1 ((1, v) ∷ (2, w) ∷ (1, x) ∷ []) ≡ v ∷ x ∷ []
each_has_its_own v w x = refl

-- one party pushes into one slot while another pops: there is such a history, and of what it accounts for nothing else is accepted than the
-- one's message, nothing else taken, and nothing held
abbrev pub PushBesidePop : Type 0 → Type 0
PushBesidePop T =
    (v : T) → (views : List (View T (Standing T))) × IsQueueHistory (Bounded 1) views (new_cells (Bounded 1))
    × (a : Accounts (Bounded 1) (λ p. standing_of views p) (new_cells (Bounded 1)))
    × (a.accepted ≡ (1, v) ∷ []) × (a.gone ≡ (2, v) ∷ []) × (a.held ≡ [])
