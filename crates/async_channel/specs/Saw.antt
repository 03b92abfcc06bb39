-- What a trace saw of a deed on the cells of a channel that threads share.
use Rattle.std.specs.Prelude.{ℕ, Option, None, Some}
use Rattle.concurrent_queue.specs.Deeds as cell
use Rattle.concurrent_queue.specs.Walked.{StateMakes}
use Rattle.concurrent_queue.specs.Walked as whole
use Rattle.concurrent_queue.specs.machine.FastPath.{Leads}
use Rattle.concurrent_queue.specs.declared.call.QueueReply.{QueueReply}
use Rattle.concurrent_queue.specs.declared.cells.QueueForm.{QueueForm}
use Rattle.concurrent_queue.specs.declared.queue_call.CallState.{CallState}
use Rattle.concurrent_queue.specs.declared.queue_call.QueueCall.{QueueCall}
use Rattle.async_channel.specs.Handles.{Handle}
use Rattle.channel_calls.specs.Deeds.{Deed, stepped}

module _ {T X : Type 0} (did : cell.Deed T → X → X → Type 0) where
  -- a call of a queue of this form was walked by operations that were seen, these and no others: to this answer, or to where it stands now
  abbrev pub SawSteps : QueueForm → QueueCall T → X → QueueCall T → Option (QueueReply T) → X → Type 0
  SawSteps form call s next None t =
      (n : ℕ) × (x : X) × (at : CallState T) × Leads (StateMakes did form) n s call.state x at
      × StateMakes did form x at t (record { action = next.state; mark = next.mark; reply = None })
  SawSteps form call s next (Some r) t = whole.WalkedFrom did form call.state s r t

module _ {T W X : Type 0} (did : cell.Deed T → X → X → Type 0) where
  -- of steps of the queue's call its operations were seen, and of any other deed the deed
  abbrev pub Saw : (Deed T W → X → X → Type 0) → QueueForm → Deed T W → X → X → Type 0
  Saw shown form (stepped call next answer) s t = SawSteps did form call s next answer t
  Saw shown form d s t = shown d s t

module _ {T W X A : Type 0} (did : cell.Deed T → X → X → Type 0) (shown : Deed T W → X → X → Type 0) (entered : ℕ → X → X → Type 0) where
  -- the trace saw a call begin on this channel, by its seal; and then what the call did, said of whatever relation of deeds, and here of
  -- what was seen. A call on another channel shows that one's seal. It has a name of its own, so that a channel is put for an equal one
  unfoldable pub SeenOn : Handle → ((Deed T W → X → X → Type 0) → X → A → X → Type 0) → X → A → X → Type 0
  SeenOn channel Does before answer after = (here : X) × entered channel.seal before here × Does (Saw did shown channel.form) here answer after

-- of any deed but steps of the queue's call, of which the trace tells
abbrev pub DidBeside : {T W C : Type 0} → (Deed T W → C → C → Type 0) → Deed T W → C → C → Type 0
DidBeside did (stepped call next answer) a b = Unit {0}
DidBeside did d a b = did d a b
