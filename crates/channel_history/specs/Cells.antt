-- What the cells of a channel's call ask and say that go by the view of its seat. One event of the history is one operation on a cell of
-- the queue, one section on a list or one operation on a count; a step that does none is no event of its own. So the view stays behind
-- the call by such a step, until the next event or the end of the call.
use Rattle.std.specs.Prelude.{◌≡◌, ◌⊎◌, true, [], Option, None, Some}
use Rattle.concurrent_queue.specs.Replies.{is_bounded, IsAsking, MayCall}
use Rattle.concurrent_queue.specs.declared.call.QueueAsk.{QueueAsk}
use Rattle.concurrent_queue.specs.declared.call.QueueReply.{QueueReply}
use Rattle.concurrent_queue.specs.declared.cells.QueueForm.{QueueForm}
use Rattle.concurrent_queue.specs.declared.queue_call.QueueCall.{QueueCall}
use Rattle.concurrent_queue.specs.history.Calls.{AsksCells}
use Rattle.channel_calls.specs.Deeds.{Deed, stepped as queue_stepped}
use Rattle.channel_calls.specs.Stands.{NotesDeed, NextDeed, NoDeed, MayGoOn, GoesOn, StaysOn}
use Rattle.channel_calls.specs.Tracked.{unmarked}
use Rattle.channel_calls.specs.Walks.{ChannelMakes}
use Rattle.channel_calls.specs.declared.mark.Mark.{Mark}
use Rattle.channel_calls.specs.declared.reply.Reply.{Reply}
use Rattle.channel_calls.specs.declared.stage.Returned.{Returned}
use Rattle.channel_calls.specs.declared.stage.Stage.{Stage}
use Rattle.channel_calls.specs.declared.stage.Stage.TheVariants.{Trying, Finished}
use Rattle.channel_history.specs.InHand.{IsOfKind, in_hand, in_hand_after, handles_at, handles_after}
use Rattle.channel_history.specs.Party.{with_own}
use Rattle.channel_history.specs.Steps.{stepped}
use Rattle.channel_history.specs.declared.party.Belongings.{Belongings}
use Rattle.channel_history.specs.declared.party.Standing.{Standing}

module _ {T W : Type 0} where
  -- ---- where a call stands

  abbrev pub HasEnded : Stage (QueueCall T) T W → Type 0
  HasEnded at = (kept : Returned T) × (at ≡ Finished kept)

  -- a call that shows this stage may be here: there, but for the mark of the queue's call, by which no step goes; or one step on that did
  -- nothing to any cell, list or count
  abbrev pub MayStand : Stage (QueueCall T) T W → Stage (QueueCall T) T W → Type 0
  MayStand shown at = (unmarked at ≡ unmarked shown) ⊎ NoDeed shown at

  -- of a call that has ended nothing is known, since it does nothing more
  abbrev pub StandsAt : Standing T W → Stage (QueueCall T) T W → Type 0
  StandsAt s at = HasEnded at ⊎ ((shown : Stage (QueueCall T) T W) × (s.stage ≡ Some shown) × MayStand shown at)

  -- no list lies with the seat of a call, and of listeners and handles just what the call has in hand
  abbrev pub Owns : Standing T W → Type 0
  Owns s =
      (s.own.lists ≡ [])
      × ((shown : Stage (QueueCall T) T W) → s.stage ≡ Some shown → (s.own.listeners ≡ in_hand shown) × (s.own.handles ≡ handles_at shown))

  -- A call of the queue is made whole, from its question to its answer, and so it has made no step; it doesn't ask for the capacity, which
  -- no cell answers; and what it may be answered is of its purpose's kind.
  abbrev pub Sound : QueueForm → Stage (QueueCall T) T W → Type 0
  Sound form (Trying call purpose) =
      (a : QueueAsk T) × IsAsking call a × AsksCells a × ((x : QueueReply T) → MayCall form call.state x → IsOfKind purpose x)
  Sound form at = Unit {0}

  -- a call of a channel with a bound stands at this stage whose seat's view is this
  abbrev pub Stands : QueueForm → Stage (QueueCall T) T W → Standing T W → Type 0
  Stands form at s = (is_bounded form ≡ true) × StandsAt s at × Owns s × Sound form at

  -- ---- what it does

  -- this deed, with this answer, is the call's next
  abbrev pub May : QueueForm → Deed T W → Standing T W → Type 0
  May form d s = (at : Stage (QueueCall T) T W) × (next : Stage (QueueCall T) T W) × Stands form at s × NextDeed at d next

  -- a step of the queue's call is all of its steps, up to an answer that it may be given
  abbrev pub Completes : QueueForm → Deed T W → Type 0
  Completes form (queue_stepped call after o) = (x : QueueReply T) × (o ≡ Some x) × MayCall form call.state x
  Completes form d = Unit {0}

  -- what lies with the seat of a call after a step from this stage
  abbrev pub own_after : Stage (QueueCall T) T W → Stage (QueueCall T) T W → Option (Reply T) → Belongings W
  own_after at next answer = record { lists = []; handles = handles_after at next answer; listeners = in_hand_after next answer }

  -- a call did this deed, got this answer and went on by it; its view shows then where it stands, and what it has in hand
  pub record Did (form : QueueForm) (d : Deed T W) (s t : Standing T W) : Type 0 where
    pub at : Stage (QueueCall T) T W
    pub next : Stage (QueueCall T) T W
    pub mark : Mark
    pub answer : Option (Reply T)
    pub stands : Stands form at s
    pub makes : ChannelMakes NotesDeed at None (Some d) mark next answer
    pub completes : Completes form d
    pub left : t ≡ with_own (own_after at next answer) (stepped s next answer)

-- what `ChannelCells` asks of cells, said of views: whoever may do just what a call does next, and does it, keeps to it
abbrev pub ViewsKeepWhatCellsAsk : Type 0 → Type 0 → Type 0
ViewsKeepWhatCellsAsk T W =
    (form : QueueForm) → MayGoOn {T = T} {W = W} (Stands form) (May form) × GoesOn {T = T} {W = W} (Stands form) (Did form) × StaysOn {T = T} {W = W} (Stands form)
