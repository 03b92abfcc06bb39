-- What the witness of a party's calls says: which calls it made, one after another, and what they were answered.
use Rattle.std.specs.Prelude.{◌≡◌, List, [], ◌∷◌, ◌++◌, Option, Some}
use Rattle.atomic_table.specs.Seated.{TableId}
use Rattle.concurrent_queue.specs.declared.call.QueueAsk.{QueueAsk}
use Rattle.concurrent_queue.specs.declared.call.QueueReply.{QueueReply}
use Rattle.concurrent_queue.specs.declared.history.party.Standing.{Standing}
use Rattle.concurrent_queue.specs.declared.history.rule.View.{View}
use Rattle.concurrent_queue.specs.declared.shared.witnessed.Witnessed.{Witnessed}

module _ {T : Type 0} where
  abbrev pub view_of : Witnessed T → View T (Standing T)
  view_of w = w.witness.seat.me.0

  -- what its calls asked, in order, and what they were answered
  abbrev pub asked_in : Witnessed T → List (QueueAsk T)
  asked_in w = (view_of w).state.asked

  abbrev pub replied_in : Witnessed T → List (QueueReply T)
  replied_in w = (view_of w).state.replies

  -- the table of the queue that it makes calls of. Witnesses of one queue have the same
  abbrev pub table_of : Witnessed T → Option TableId
  table_of w = Some w.witness.seat.table_id

  -- of the same queue and the same party, and with the same parties joined in
  abbrev pub IsSameParty : Witnessed T → Witnessed T → Type 0
  IsSameParty a b =
      (table_of b ≡ table_of a) × ((view_of b).who ≡ (view_of a).who) × ((view_of b).over ≡ (view_of a).over)

  -- one call more, which asked this and was answered so
  abbrev pub HasCalled : Witnessed T → QueueAsk T → QueueReply T → Witnessed T → Type 0
  HasCalled a q r b = (asked_in b ≡ asked_in a ++ q ∷ []) × (replied_in b ≡ replied_in a ++ r ∷ []) × IsSameParty a b
