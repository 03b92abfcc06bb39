-- A call of the queue within a call of the channel: each of its operations on a cell is an event of its own, which moves the view's stage
-- on. What a machine of the queue's table has to say, and what all operations of such a call come to.
use Rattle.std.specs.Prelude.{◌≡◌, ◌⊎◌, Option, None, Some}
use Rattle.concurrent_queue.specs.Bridge.{Event, does}
use Rattle.concurrent_queue.specs.Deeds as cell
use Rattle.concurrent_queue.specs.Replies.{MayCall}
use Rattle.concurrent_queue.specs.Walked.{standing, CallMakes, Walked}
use Rattle.concurrent_queue.specs.declared.call.QueueReply.{QueueReply}
use Rattle.concurrent_queue.specs.declared.cells.QueueForm.{QueueForm}
use Rattle.concurrent_queue.specs.declared.queue_call.QueueCall.{QueueCall}
use Rattle.concurrent_queue.specs.history.Calls.{HasNoBlocks}
use Rattle.concurrent_queue.specs.history.OnCells.{IsOnCell, IsRefused}
use Rattle.channel_calls.specs.Deeds.{stepped as queue_stepped}
use Rattle.channel_calls.specs.Walks.{Heard}
use Rattle.channel_calls.specs.declared.reply.Reply.{Reply}
use Rattle.channel_calls.specs.declared.stage.Purpose.{Purpose}
use Rattle.channel_calls.specs.declared.stage.Stage.{Stage}
use Rattle.channel_calls.specs.declared.stage.Stage.TheVariants.{Trying}
use Rattle.channel_steps.specs.every_run.Bridge.{on_queue}
use Rattle.channel_history.specs.Cells.{StandsAt, Owns, Stands, May, Did}
use Rattle.channel_history.specs.Party.{Makes}
use Rattle.channel_history.specs.Steps.{stepped}
use Rattle.channel_history.specs.declared.party.Standing.{Standing}

module _ {T W : Type 0} where
  -- a call of the channel stands within this call of its queue, which was made for this; the queue has no blocks
  abbrev pub StandsWithin : QueueForm → QueueCall T → Purpose T W → Standing T W → Type 0
  StandsWithin form call purpose s = StandsAt s (Trying call purpose) × Owns s × HasNoBlocks (standing form call.state)

  -- the party's next operation on a cell is the next one of this call
  abbrev pub calls : QueueForm → Standing T W → QueueCall T → Type 0
  calls form s call = (purpose : Purpose T W) × StandsWithin form call purpose s

  -- it made this operation, got this answer and went on by it: to the next one, or by the queue's answer
  pub record Operates (form : QueueForm) (d : cell.Deed T) (s t : Standing T W) : Type 0 where
    pub call : QueueCall T
    pub after : QueueCall T
    pub purpose : Purpose T W
    pub reply : Option (QueueReply T)
    pub next : Stage (QueueCall T) T W
    pub answer : Option (Reply T)
    pub stands : StandsWithin form call purpose s
    pub makes : CallMakes cell.Notes form None call (Some d) after reply
    pub heard : Heard purpose after reply next answer
    pub left : t ≡ stepped s next answer

  -- a party of a channel begins no call of the queue but within one of the channel
  abbrev pub moves : QueueForm → Standing T W → Event T → Standing T W → Type 0
  moves form s (does (Some d)) t = Operates form d s t
  moves form s e t = ⊥

-- where a step of the queue's call may be done, the call of the channel stands within it; what it makes next may be made, and leads it
-- on; and that is the next act of its party
pub record QueueCallsMove (T W : Type 0) : Type 0 where
  pub allowed : (form : QueueForm) (s : Standing T W) (call after : QueueCall T) (o : Option (QueueReply T)) → May form (queue_stepped call after o) s
      → (purpose : Purpose T W) × Stands form (Trying call purpose) s
  pub within : (form : QueueForm) (s : Standing T W) (call : QueueCall T) (purpose : Purpose T W) → Stands form (Trying call purpose) s → calls form s call
  pub may : (form : QueueForm) (s : Standing T W) (call next : QueueCall T) (d : cell.Deed T) (reply : Option (QueueReply T))
      → calls form s call → CallMakes cell.Notes form None call (Some d) next reply → (t : Standing T W) × moves form s (does (Some d)) t
  pub led : (form : QueueForm) (s t : Standing T W) (call : QueueCall T) (d : cell.Deed T)
      → calls form s call → moves form s (does (Some d)) t
      → (next : QueueCall T) × (reply : Option (QueueReply T)) × CallMakes cell.Notes form None call (Some d) next reply × (reply ≡ None → calls form t next)
  pub acts : (form : QueueForm) (s t : Standing T W) (d : cell.Deed T) → moves form s (does (Some d)) t → Makes form s (on_queue (Some d)) t × (t.own ≡ s.own)

-- an operation on a cell moves the view on; one that a slot refused is no event, and leaves the view as it is
abbrev pub MovesView : {T W C : Type 0} → QueueForm → (C → Standing T W) → cell.Deed T → C → C → Type 0
MovesView form of d a b = IsOnCell d → moves form (of a) (does (Some d)) (of b) ⊎ (IsRefused d × (of b ≡ of a))

-- all steps of a call of the queue, from where a call of the channel begins it to its answer, are one deed of the channel's call
abbrev pub QueueCallsAreDeeds : Type 0 → Type 0 → Type 0 → Type 0
QueueCallsAreDeeds T W C =
    (form : QueueForm) (of : C → Standing T W) (call after : QueueCall T) (purpose : Purpose T W) (x : QueueReply T) (a b : C)
    → Stands form (Trying call purpose) (of a) → MayCall form call.state x → Walked (MovesView form of) form call a x b
    → Did form (queue_stepped call after (Some x)) (of a) (of b)
