-- What a call by names asks of its channel.
use Rattle.channel_world_model.specs.Words.{true, Option, None, Some, Call, Sender, Receiver, WeakSender, WeakReceiver, HandleId, OpId, Operation, Waiter, Op, Stream, Handle}
use Rattle.channel_calls.specs.Asks.{lent}
use Rattle.channel_calls.specs.declared.ask.ChannelAsk.{ChannelAsk}
use Rattle.channel_calls.specs.declared.stage.Side.TheVariants.{Senders, Receivers}
use Rattle.channel_world_model.specs.Names.{Names, at, own_message, waits_in}
use Rattle.channel_world_model.specs.Answer.{is_finished}
use Rattle.event_listener.specs.declared.key.Key.{Key}

-- the key of the listener that an operation or a stream holds
abbrev pub KeysHeld : Type 0
KeysHeld = Waiter → Option Key

-- ---- asks

-- the name that keeps the listener that a receiver's own stream leaves
abbrev pub stream_of : HandleId → Option Handle → Option Waiter
stream_of handle None = None
stream_of handle (Some h) = elim h.kind [
  | Sender ↦ None
  | Receiver ↦ Some (Stream handle)
  | WeakSender ↦ None
  | WeakReceiver ↦ None
]

module _ {T : Type 0} where
  -- of an operation, which holds this listener or none; a world never asks for one that doesn't live
  abbrev pub poll_asked : Option Key → OpId → Option (Operation T) → ChannelAsk T Waiter
  poll_asked key op (Some (Operation.Send handle (Some m))) = ChannelAsk.PollSend m (lent key) (Op op)
  poll_asked key op (Some (Operation.Send handle None)) = ChannelAsk.PollFinishedSend
  poll_asked key op (Some (Operation.Receive handle)) = ChannelAsk.PollRecv (lent key) (Op op)
  poll_asked key op (Some (Operation.Closing handle)) = ChannelAsk.PollClosed key (Op op)
  poll_asked key op None = ChannelAsk.Make

  abbrev pub refusal_asked : Option Key → Option (Operation T) → ChannelAsk T Waiter
  refusal_asked key (Some operation) = ChannelAsk.RefusePoll (waits_in operation) (own_message operation) key
  refusal_asked key None = ChannelAsk.Make

  abbrev pub giving_up_asked : Option Key → Option (Operation T) → ChannelAsk T Waiter
  giving_up_asked key (Some operation) = ChannelAsk.GiveUp (waits_in operation) (own_message operation) key
  giving_up_asked key None = ChannelAsk.Make

  -- of a handle, whose stream holds this listener or none
  abbrev pub drop_asked : Option Key → Option Handle → ChannelAsk T Waiter
  drop_asked key None = ChannelAsk.Make
  drop_asked key (Some h) = elim h.kind [
    | Sender ↦ ChannelAsk.DropSender
    | Receiver ↦ ChannelAsk.DropReceiver key
    | WeakSender ↦ ChannelAsk.DropWeak
    | WeakReceiver ↦ ChannelAsk.DropWeak
  ]

  abbrev pub clone_asked : Option Handle → ChannelAsk T Waiter
  clone_asked None = ChannelAsk.Make
  clone_asked (Some h) = elim h.kind [
    | Sender ↦ ChannelAsk.CloneHandle Senders
    | Receiver ↦ ChannelAsk.CloneHandle Receivers
    | WeakSender ↦ ChannelAsk.Make
    | WeakReceiver ↦ ChannelAsk.Make
  ]

  abbrev pub upgrade_asked : Option Handle → ChannelAsk T Waiter
  upgrade_asked None = ChannelAsk.Make
  upgrade_asked (Some h) = elim h.kind [
    | Sender ↦ ChannelAsk.Upgrade Senders
    | Receiver ↦ ChannelAsk.Upgrade Receivers
    | WeakSender ↦ ChannelAsk.Upgrade Senders
    | WeakReceiver ↦ ChannelAsk.Upgrade Receivers
  ]

  -- what a call that goes through one handle asks; one that makes an operation or a weak handle asks nothing
  abbrev pub plain_asked : Call T → ChannelAsk T Waiter
  plain_asked (Call.StreamIsTerminated receiver) = ChannelAsk.IsTerminated
  plain_asked (Call.TrySend sender msg) = ChannelAsk.TrySend msg
  plain_asked (Call.ForceSend sender msg) = ChannelAsk.ForceSend msg
  plain_asked (Call.TryRecv receiver) = ChannelAsk.TryRecv
  plain_asked (Call.RecvMany receiver limit) = ChannelAsk.RecvMany limit
  plain_asked (Call.Close handle) = ChannelAsk.Close
  plain_asked (Call.IsClosed handle) = ChannelAsk.IsClosed
  plain_asked (Call.IsEmpty handle) = ChannelAsk.IsEmpty
  plain_asked (Call.IsFull handle) = ChannelAsk.IsFull
  plain_asked (Call.Len handle) = ChannelAsk.Len
  plain_asked (Call.Capacity handle) = ChannelAsk.Capacity
  plain_asked (Call.SenderCount handle) = ChannelAsk.HandleCount Senders
  plain_asked (Call.ReceiverCount handle) = ChannelAsk.HandleCount Receivers
  plain_asked c = ChannelAsk.Make

  -- what a call asks of the channel
  abbrev pub asked : KeysHeld → Names T → Call T → ChannelAsk T Waiter
  asked held names (Call.Poll op) = poll_asked (held (Op op)) op (at op.0 names.operations)
  asked held names (Call.PollRefused op) = refusal_asked (held (Op op)) (at op.0 names.operations)
  asked held names (Call.GiveUp op) = giving_up_asked (held (Op op)) (at op.0 names.operations)
  asked held names (Call.SendIsTerminated op) = ChannelAsk.SendIsTerminated (is_finished (at op.0 names.operations))
  asked held names (Call.PollNext receiver) = ChannelAsk.PollNext (held (Stream receiver)) (Stream receiver)
  asked held names (Call.Drop handle) = drop_asked (held (Stream handle)) (at handle.0 names.handles)
  asked held names (Call.TryClone handle new) = clone_asked (at handle.0 names.handles)
  asked held names (Call.Upgrade weak new) = upgrade_asked (at weak.0 names.handles)
  asked held names (Call.SameChannel a b) = ChannelAsk.SameChannel true
  asked held names c = plain_asked c

  -- the name that keeps the listener that a call leaves, if any does
  abbrev pub keeper_in : Names T → Call T → Option Waiter
  keeper_in names (Call.Poll op) = Some (Op op)
  keeper_in names (Call.PollRefused op) = Some (Op op)
  keeper_in names (Call.GiveUp op) = Some (Op op)
  keeper_in names (Call.PollNext receiver) = Some (Stream receiver)
  keeper_in names (Call.Drop handle) = stream_of handle (at handle.0 names.handles)
  keeper_in names c = None
