-- What a call has in hand at each of its stages lies with its seat. An operation lends its listener to its poll, and keeps it where the
-- poll is pending; a handle that is dropped is lent to the call that lowers its count, and one that is made comes of the call that raised
-- it.
use Rattle.std.specs.Prelude.{◌≡◌, ◌≢◌, ◌⊎◌, List, [], ◌∷◌, Option, None, Some, option_to_list}
use Rattle.concurrent_queue.specs.declared.call.QueueReply.{QueueReply}
use Rattle.concurrent_queue.specs.declared.call.QueueReply.TheVariants.{Push, Pop, Close, Flag}
use Rattle.concurrent_queue.specs.declared.cells.QueueForm.{QueueForm}
use Rattle.concurrent_queue.specs.declared.queue_call.QueueCall.{QueueCall}
use Rattle.event_listener.specs.declared.key.Key.{Key}
use Rattle.futures.specs.declared.task.Poll.TheVariants.{Pending}
use Rattle.channel_calls.specs.Answered.{answered_next}
use Rattle.channel_calls.specs.Asks.{first, kept_by}
use Rattle.channel_calls.specs.Turns.{held_on, line_of, dropper}
use Rattle.channel_calls.specs.Walks.{Takes, ChannelMakes}
use Rattle.channel_calls.specs.declared.ask.ChannelAsk.{ChannelAsk}
use Rattle.channel_calls.specs.declared.ask.ChannelAsk.TheVariants.{PollSend, PollRecv, PollClosed, PollNext, RefusePoll, GiveUp, DropSender, DropReceiver}
use Rattle.channel_calls.specs.declared.mark.Mark.{Mark}
use Rattle.channel_calls.specs.declared.reply.Reply.{Reply}
use Rattle.channel_calls.specs.declared.reply.Reply.TheVariants as reply
use Rattle.channel_calls.specs.declared.stage.Closer.{Closer}
use Rattle.channel_calls.specs.declared.stage.Closer.TheVariants.{Receiver}
use Rattle.channel_calls.specs.declared.stage.ListenerRef.{ListenerRef}
use Rattle.channel_calls.specs.declared.stage.ListStep.{ListStep}
use Rattle.channel_calls.specs.declared.stage.ListStep.TheVariants as work
use Rattle.channel_calls.specs.declared.stage.Purpose.{Purpose}
use Rattle.channel_calls.specs.declared.stage.Purpose.TheVariants as purpose
use Rattle.channel_calls.specs.declared.stage.Side.{Side}
use Rattle.channel_calls.specs.declared.stage.Side.TheVariants.{Senders, Receivers}
use Rattle.channel_calls.specs.declared.stage.Stage.{Stage}
use Rattle.channel_calls.specs.declared.stage.Stage.TheVariants.{Trying, Working, Finished}
use Rattle.channel_calls.specs.declared.stage.WaitList.{WaitList}
use Rattle.channel_calls.specs.declared.stage.WaitList.TheVariants.{Sends, Receives, Streams, Closings}
use Rattle.channel_steps.specs.every_run.Bridge.{Act, on_wait_lists, on_nothing, Notes}
use Rattle.channel_history.specs.Keeps.{LeavesHandles, LeavesListeners}

abbrev pub listed_on : WaitList → Option Key → List ListenerRef
listed_on line key = option_to_list (held_on line key)

abbrev pub by_closer : Closer → List ListenerRef
by_closer (Receiver key) = listed_on Streams key
by_closer c = []

module _ {T : Type 0} where
  -- what an operation keeps that was answered so, and was left this key
  abbrev pub kept_on : Reply T → Option Key → List ListenerRef
  kept_on r None = []
  kept_on (reply.SendPoll Pending) key = listed_on Sends key
  kept_on (reply.RecvPoll Pending) key = listed_on Receives key
  kept_on (reply.Next Pending) key = listed_on Streams key
  kept_on (reply.ClosedPoll Pending) key = listed_on Closings key
  kept_on r key = []

module _ {T W : Type 0} where
  -- what is lent to a call
  abbrev pub lent_by : ChannelAsk T W → List ListenerRef
  lent_by (PollSend m l task) = listed_on Sends l.key
  lent_by (PollRecv l task) = listed_on Receives l.key
  lent_by (PollClosed key task) = listed_on Closings key
  lent_by (PollNext key task) = listed_on Streams key
  lent_by (RefusePoll line m key) = listed_on line key
  lent_by (GiveUp line m key) = listed_on line key
  lent_by (DropReceiver key) = listed_on Streams key
  lent_by ask = []

  abbrev pub by_purpose : Purpose T W → List ListenerRef
  by_purpose (purpose.Poll line key task) = listed_on line key
  by_purpose (purpose.Close c) = by_closer c
  by_purpose p = []

  abbrev pub by_work : ListStep T W → List ListenerRef
  by_work (work.TellReceive e) = option_to_list e.held
  by_work (work.TellStreams e) = option_to_list e.held
  by_work (work.TellSend e) = option_to_list e.held
  by_work (work.TellSends n e) = option_to_list e.held
  by_work (work.TellAll line c) = by_closer c
  by_work (work.Register w key task) = listed_on (line_of w) (Some key)
  by_work (work.Leave e) = option_to_list e.held
  by_work (work.Lower side key) = by_closer (dropper side key)
  by_work w = []

  abbrev pub in_hand : Stage (QueueCall T) T W → List ListenerRef
  in_hand (Trying call p) = by_purpose p
  in_hand (Working w) = by_work w
  in_hand (Finished kept) = []

  -- after a step, by which the call goes on or has answered
  abbrev pub in_hand_after : Stage (QueueCall T) T W → Option (Reply T) → List ListenerRef
  in_hand_after next None = in_hand next
  in_hand_after next (Some r) = kept_on r (kept_by next).key

  -- an act of a call leaves these listeners of those
  abbrev pub ActLeaves : Act T W → List ListenerRef → List ListenerRef → Type 0
  ActLeaves (on_wait_lists d) has left = LeavesListeners d has left
  ActLeaves o has left = left ≡ has

  -- a call of the queue that is made for this answers so, where this call has a listener in hand
  abbrev pub IsOfKind : Purpose T W → QueueReply T → Type 0
  IsOfKind (purpose.Poll Sends key task) (Push r) = Unit {0}
  IsOfKind (purpose.Poll Receives key task) (Pop r) = Unit {0}
  IsOfKind (purpose.Poll Streams key task) (Pop r) = Unit {0}
  IsOfKind (purpose.Poll Closings key task) (Flag b) = Unit {0}
  IsOfKind (purpose.Poll line key task) x = ⊥
  IsOfKind (purpose.Close c) (Close b) = Unit {0}
  IsOfKind (purpose.Close c) x = ⊥
  IsOfKind p x = Unit {0}

  -- its call of the queue answered in another kind, which none does, and ended this call
  abbrev pub IsLost : Stage (QueueCall T) T W → Option (Reply T) → Type 0
  IsLost (Trying call p) answer = (answer ≡ Some reply.Unit) × (by_purpose p ≢ [])
  IsLost at answer = ⊥

  -- ---- handles: one is lent to a call that drops it, until its count is lowered; and one is made by a count that was raised

  abbrev pub handles_lent : ChannelAsk T W → List Side
  handles_lent DropSender = Senders ∷ []
  handles_lent (DropReceiver key) = Receivers ∷ []
  handles_lent ask = []

  abbrev pub handles_at : Stage (QueueCall T) T W → List Side
  handles_at (Working (work.Lower side key)) = side ∷ []
  handles_at at = []

  abbrev pub handles_next : Stage (QueueCall T) T W → Option (Reply T) → List Side
  handles_next next None = handles_at next
  handles_next next (Some r) = []

  abbrev pub handles_made : Side → Stage (QueueCall T) T W → Option (Reply T) → List Side
  handles_made side next (Some reply.Made) = side ∷ []
  handles_made side next answer = handles_next next answer

  -- after a step of a call that stood there
  abbrev pub handles_after : Stage (QueueCall T) T W → Stage (QueueCall T) T W → Option (Reply T) → List Side
  handles_after (Working (work.Raise side n making)) next answer = handles_made side next answer
  handles_after at next answer = handles_next next answer

  abbrev pub ActLeavesHandles : Act T W → List Side → List Side → Type 0
  ActLeavesHandles (on_wait_lists d) has left = LeavesHandles d has left
  ActLeavesHandles o has left = left ≡ has

-- a call begins with what it is lent, and each of its steps leaves with its seat what the call then has in hand
pub record CallsHoldTheirOwn (T W : Type 0) : Type 0 where
  pub begins : (ask : ChannelAsk T W) (at : Stage (QueueCall T) T W) → Takes (first ask) at None → (in_hand at ≡ lent_by ask) × (handles_at at ≡ handles_lent ask)
  pub steps : (form : QueueForm) (at : Stage (QueueCall T) T W) (o : Act T W) (m : Mark) (next : Stage (QueueCall T) T W) (answer : Option (Reply T)) → ChannelMakes (Notes form) at on_nothing o m next answer
      → (ActLeaves o (in_hand at) (in_hand_after next answer) ⊎ IsLost at answer) × ActLeavesHandles o (handles_at at) (handles_after at next answer)
  -- an answer of the queue that is of its kind loses nothing
  pub answers : (p : Purpose T W) (x : QueueReply T) (next : Stage (QueueCall T) T W) (answer : Option (Reply T)) → Takes (answered_next p x) next answer → IsOfKind p x → in_hand_after next answer ≡ by_purpose p
