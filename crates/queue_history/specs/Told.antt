-- A look at a witness into which others were joined tells of one history, as what parties conclude asks it. And what a client with three
-- witnesses of one queue concludes.
use Rattle.std.specs.Prelude.{◌≡◌, ℕ, List, [], ◌∷◌, None}
use Rattle.concurrent_queue.specs.declared.call.QueueAsk.{QueueAsk}
use Rattle.concurrent_queue.specs.declared.call.QueueReply.{QueueReply}
use Rattle.concurrent_queue.specs.declared.cells.QueueForm.{QueueForm}
use Rattle.concurrent_queue.specs.declared.history.party.Standing.{Standing}
use Rattle.concurrent_queue.specs.declared.history.rule.View.{View}
use Rattle.concurrent_queue.specs.Witnessed.{table_of, view_of, asked_in, replied_in}
use Rattle.concurrent_queue.specs.declared.shared.witnessed.Witnessed.{Witnessed}
use Rattle.concurrent_queue.specs.history.Runs.{IsRunWith}
use Rattle.concurrent_queue.specs.history.Shared.{both_views}
use Rattle.queue_history.specs.Concluded.{party, AllReplied, InOneHistory, HaveConcluded, ThreeHaveConcluded}

abbrev pub LooksAreOfOneHistory : Type 0 → Type 0
LooksAreOfOneHistory T = (v : View T (Standing T)) → IsRunWith v → AllReplied (party v ∷ v.over) → InOneHistory v.form (party v ∷ v.over)

module _ {T : Type 0} where
  -- the party of this number, whose calls have ended: what they asked, and what they were answered
  abbrev pub ended_as : ℕ → List (QueueAsk T) → List (QueueReply T) → ℕ × Standing T
  ended_as p asked replies = (p, record { asked = asked; call = None; replies = replies })

  -- two witnesses of one queue
  abbrev pub IsOfSameQueue : Witnessed T → Witnessed T → Type 0
  IsOfSameQueue a b = table_of b ≡ table_of a

  -- a witness of no call yet, into which none was joined
  abbrev pub IsNew : Witnessed T → Type 0
  IsNew w = (asked_in w ≡ []) × (replied_in w ≡ []) × ((view_of w).over ≡ [])

  -- one view into which two were joined
  abbrev pub joined_three : View T (Standing T) → View T (Standing T) → View T (Standing T) → View T (Standing T)
  joined_three one other popper = both_views (both_views one other) popper

  -- in one history of a queue two parties were answered so and pushed, and one was answered so and popped: what is concluded of them
  pub record Conclusion (asked : List (QueueAsk T)) (replies : List (QueueReply T)) (asked_by_other : List (QueueAsk T)) (replies_to_other : List (QueueReply T)) (asked_by_popper : List (QueueAsk T)) (replies_to_popper : List (QueueReply T)) : Type 0 where
    pub form : QueueForm
    pub one : ℕ
    pub other : ℕ
    pub popper : ℕ
    pub concluded : ThreeHaveConcluded form (ended_as one asked replies) (ended_as other asked_by_other replies_to_other) (ended_as popper asked_by_popper replies_to_popper)

-- one witness into which two were joined, with none joined into them before
abbrev pub ThreeAreTold : Type 0 → Type 0
ThreeAreTold T =
    (one other popper : View T (Standing T)) → (one.over ≡ []) × (other.over ≡ []) × (popper.over ≡ [])
    → HaveConcluded one.form (party (joined_three one other popper) ∷ (joined_three one other popper).over)
    → Conclusion one.state.asked one.state.replies other.state.asked other.state.replies popper.state.asked popper.state.replies
