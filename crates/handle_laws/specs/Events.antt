-- What a call of a handle says that its trace saw, as the next events of a party in a merge.
use Rattle.std.specs.Prelude.{◌⊎◌, ℕ, List, [], ◌∷◌, ◌++◌, map, Bool, Option, None, Some, Result, Ok}
use Rattle.std.specs.Global.{Vec}
use Rattle.concurrent_queue.specs.Deeds as cell
use Rattle.concurrent_queue.specs.declared.cells.QueueForm.{QueueForm}
use Rattle.concurrent_queue.specs.declared.queue_call.QueueCall.{QueueCall}
use Rattle.event_listener.specs.declared.key.Key.{Key}
use Rattle.channel_calls.specs.Asks.{first}
use Rattle.channel_calls.specs.Blocks.{Blocks}
use Rattle.channel_calls.specs.Deeds.{Deed}
use Rattle.channel_calls.specs.Filling.{Fills}
use Rattle.channel_calls.specs.Turns.{leaving}
use Rattle.channel_calls.specs.Walks.{Takes, Leads, WalkedFrom, WalkedTo}
use Rattle.channel_calls.specs.declared.ask.ChannelAsk.{ChannelAsk}
use Rattle.channel_calls.specs.declared.ask.ChannelAsk.TheVariants.{CloneHandle, Upgrade, RecvMany, TryRecv}
use Rattle.channel_calls.specs.declared.blocked.Blocked.{Blocked}
use Rattle.channel_calls.specs.declared.error.HandleError.{HandleError}
use Rattle.channel_calls.specs.declared.error.Refused.{Refused}
use Rattle.channel_calls.specs.declared.error.TryRecvError.{TryRecvError}
use Rattle.channel_calls.specs.declared.reply.Reply.{Reply}
use Rattle.channel_calls.specs.declared.reply.Reply.TheVariants as reply
use Rattle.channel_calls.specs.declared.stage.Returned.{Returned}
use Rattle.channel_calls.specs.declared.stage.Side.{Side}
use Rattle.channel_calls.specs.declared.stage.Stage.{Stage}
use Rattle.channel_calls.specs.declared.whole.Completed.{Completed}
use Rattle.channel_steps.specs.every_run.Bridge.{Act, Event, begins, does, Acts, Along}
use Rattle.channel_steps.specs.every_run.BridgeBlocks.{InCalls, IsLeft, Rested}
use Rattle.async_channel.specs.Counts.{Clones, Upgrades}
use Rattle.async_channel.specs.Handles.{Handle}
use Rattle.async_channel.specs.Polls.{Polls, PollsSend}
use Rattle.async_channel.specs.Saw.{Saw, SeenOn}
use Rattle.async_channel.specs.Several.{ReceivesMany}

module _ {T W X : Type 0} (cells_did : cell.Deed T → X → X → Type 0) (saw : Deed T W → X → X → Type 0) where
  -- operations of a queue of this form and deeds on lists and counts were seen, one after another, from the one state of the trace to
  -- the other. They are the next events of a party that makes this call: it is given this answer, whatever the party does then
  abbrev pub HasEvents : QueueForm → ChannelAsk T W → X → Reply T → Returned T → X → Type 0
  HasEvents form ask s r kept t =
      (os : List (Act T W)) × Along saw cells_did os s t
      × ((xs : List (Event T W)) (more : List (Completed T)) → Acts form None xs more → Acts form None (begins ask ∷ map does os ++ xs) (record { reply = r; kept = kept } ∷ more))

  -- they are the last events of a party whose call makes no more steps
  abbrev pub HasLastEvents : QueueForm → ChannelAsk T W → X → X → Type 0
  HasLastEvents form ask s t = (os : List (Act T W)) × Along saw cells_did os s t × Acts form None (begins ask ∷ map does os) []

module _ {T W X : Type 0} (did : cell.Deed T → X → X → Type 0) (shown : Deed T W → X → X → Type 0) where
  -- a call that was seen to be walked to its answer has such events
  abbrev pub WalksAct : Type 0
  WalksAct =
      (form : QueueForm) (ask : ChannelAsk T W) (s : X) (r : Reply T) (kept : Returned T) (t : X)
      → WalkedFrom (Saw did shown form) (first ask) s r kept t → HasEvents did (Saw did shown form) form ask s r kept t

module _ {T W X : Type 0} (did : cell.Deed T → X → X → Type 0) (shown : Deed T W → X → X → Type 0) (entered : ℕ → X → X → Type 0) where
  -- as the clauses of handles say it, behind the call's beginning on this channel: of a call that no operation makes, of a poll, and of a poll of a send
  abbrev pub CallsAct : Type 0
  CallsAct =
      (channel : Handle) (ask : ChannelAsk T W) (s : X) (r : Reply T) (t : X)
      → SeenOn did shown entered channel (λ saw. WalkedTo saw (first ask)) s r t → (here : X) × entered channel.seal s here × (kept : Returned T) × HasEvents did (Saw did shown channel.form) channel.form ask here r kept t

  abbrev pub PollsAct : Type 0
  PollsAct =
      (channel : Handle) (asks : Option W → ChannelAsk T W) (s : X) (r : Reply T) (key : Option Key) (t : X)
      → SeenOn did shown entered channel (λ saw begin a end. Polls saw asks begin a key end) s r t
      → (here : X) × entered channel.seal s here × (message : Option T) × (task : Option W) × HasEvents did (Saw did shown channel.form) channel.form (asks task) here r (leaving key message) t

  abbrev pub SendPollsAct : Type 0
  SendPollsAct =
      (channel : Handle) (asks : Option W → ChannelAsk T W) (s : X) (r : Reply T) (key : Option Key) (message : Option T) (t : X)
      → SeenOn did shown entered channel (λ saw begin a end. PollsSend saw asks begin a key message end) s r t
      → (here : X) × entered channel.seal s here × (task : Option W) × HasEvents did (Saw did shown channel.form) channel.form (asks task) here r (leaving key message) t

  -- of a clone and of an upgrade that made a handle
  abbrev pub ClonesAct : Type 0
  ClonesAct =
      (channel : Handle) (side : Side) (s t : X)
      → SeenOn {A = Result Unit HandleError} did shown entered channel (λ saw. Clones saw side) s (Ok (record {})) t
      → (here : X) × entered channel.seal s here × (kept : Returned T) × HasEvents did (Saw did shown channel.form) channel.form (CloneHandle side) here reply.Made kept t

  abbrev pub UpgradesAct : Type 0
  UpgradesAct =
      (channel : Handle) (side : Side) (s t : X)
      → SeenOn {A = Result (Option Unit) HandleError} did shown entered channel (λ saw. Upgrades saw side) s (Ok (Some (record {}))) t
      → (here : X) × entered channel.seal s here × (kept : Returned T) × HasEvents did (Saw did shown channel.form) channel.form (Upgrade side) here reply.Made kept t

  -- of a receive of several messages, into a list of its own and into one that is there
  abbrev pub SeveralAct : Type 0
  SeveralAct =
      (channel : Handle) (limit : ℕ) (s : X) (r : Result (Vec T) (Refused TryRecvError Unit)) (t : X)
      → SeenOn did shown entered channel (λ saw. ReceivesMany saw limit) s r t
      → (here : X) × entered channel.seal s here × (answer : Result (List T) (Refused TryRecvError Unit)) × (kept : Returned T) × HasEvents did (Saw did shown channel.form) channel.form (RecvMany limit) here (reply.RecvMany answer) kept t

  abbrev pub FillsAct : Type 0
  FillsAct =
      (channel : Handle) (room : ℕ) (before : List T) (s : X) (r : Result ℕ TryRecvError) (after : List T) (t : X)
      → SeenOn did shown entered channel (λ saw begin a end. Fills saw room before begin a after end) s r t
      → (here : X) × entered channel.seal s here × (answer : Result (List T) (Refused TryRecvError Unit)) × (kept : Returned T) × HasEvents did (Saw did shown channel.form) channel.form (RecvMany room) here (reply.RecvMany answer) kept t

module _ {T W X : Type 0} (did : cell.Deed T → X → X → Type 0) (shown : Deed T W → X → X → Type 0) (parked : Option W → X → X → Type 0) (slept : X → X → Type 0) where
  -- what was seen of a call that blocks its thread, a deed on a list behind what the thread rested before it
  abbrev pub SawRested : QueueForm → Deed T W → X → X → Type 0
  SawRested form = Rested (Saw did shown form) parked slept

  -- such a call made whole calls one after another; a call without a task of its own may take any for the first poll
  abbrev pub BlocksAct : (ℕ → X → X → Type 0) → Type 0
  BlocksAct entered =
      (channel : Handle) (b : Blocked T) (task : W) (s : X) (r : Reply T) (kept : Returned T) (t : X)
      → SeenOn did shown entered channel (λ saw begin a end. Blocks saw parked slept b begin a kept end) s r t
      → (here : X) × entered channel.seal s here × (InCalls (SawRested channel.form) b here r kept t ⊎ IsLeft (SawRested channel.form) b here r kept t)

  -- each of which has its events, as has the first poll that stands for ever where no task was given
  abbrev pub RestedAct : Type 0
  RestedAct =
      (form : QueueForm) (ask : ChannelAsk T W) (s : X) (r : Reply T) (kept : Returned T) (t : X)
      → WalkedFrom (SawRested form) (first ask) s r kept t → HasEvents did (SawRested form) form ask s r kept t

  abbrev pub StandsAct : Type 0
  StandsAct =
      (form : QueueForm) (ask : ChannelAsk T W) (a b : Stage (QueueCall T) T W) (n : ℕ) (s t : X)
      → Takes (first ask) a None → Leads (SawRested form) n s a t b → HasLastEvents did (SawRested form) form ask s t
