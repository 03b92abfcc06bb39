-- What calls by names may ask: what holds of each such ask holds of what the call asks.
use Rattle.channel_world_runs.proofs.Words.{Option, None, Some, Key, lent, ChannelAsk, WaitList, Side, Senders, Receivers, poll_asked, refusal_asked, giving_up_asked, drop_asked, clone_asked, upgrade_asked, own_message, waits_in, Handle, HandleKind, Sender, Receiver, WeakSender, WeakReceiver, OpId, Operation, Waiter, Op}

module _ {T : Type 0} (P : ChannelAsk T Waiter → Type 0) (make : P ChannelAsk.Make) where
  pub of_polls : ((m : T) (key : Option Key) (w : Waiter) → P (ChannelAsk.PollSend m (lent key) w)) → P ChannelAsk.PollFinishedSend
      → ((key : Option Key) (w : Waiter) → P (ChannelAsk.PollRecv (lent key) w)) → ((key : Option Key) (w : Waiter) → P (ChannelAsk.PollClosed key w))
      → (key : Option Key) (op : OpId) (o : Option (Operation T)) → P (poll_asked key op o)
  of_polls sends done receives closes key op (Some (Operation.Send handle (Some m))) = sends m key (Op op)
  of_polls sends done receives closes key op (Some (Operation.Send handle None)) = done
  of_polls sends done receives closes key op (Some (Operation.Receive handle)) = receives key (Op op)
  of_polls sends done receives closes key op (Some (Operation.Closing handle)) = closes key (Op op)
  of_polls sends done receives closes key op None = make

  pub of_refused : ((line : WaitList) (m : Option T) (key : Option Key) → P (ChannelAsk.RefusePoll line m key))
      → (key : Option Key) (o : Option (Operation T)) → P (refusal_asked key o)
  of_refused refuses key (Some x) = refuses (waits_in x) (own_message x) key
  of_refused refuses key None = make

  pub of_given_up : ((line : WaitList) (m : Option T) (key : Option Key) → P (ChannelAsk.GiveUp line m key))
      → (key : Option Key) (o : Option (Operation T)) → P (giving_up_asked key o)
  of_given_up gives key (Some x) = gives (waits_in x) (own_message x) key
  of_given_up gives key None = make

  pub of_dropped : P ChannelAsk.DropSender → ((key : Option Key) → P (ChannelAsk.DropReceiver key)) → P ChannelAsk.DropWeak
      → (key : Option Key) (o : Option Handle) → P (drop_asked key o)
  of_dropped sender receiver weak key None = make
  of_dropped sender receiver weak key (Some h) = by h.kind
    where
      by : (k : HandleKind) → P (elim k [
        | Sender ↦ ChannelAsk.DropSender
        | Receiver ↦ ChannelAsk.DropReceiver key
        | WeakSender ↦ ChannelAsk.DropWeak
        | WeakReceiver ↦ ChannelAsk.DropWeak
      ])
      by Sender = sender
      by Receiver = receiver key
      by k = weak

  pub of_cloned : ((side : Side) → P (ChannelAsk.CloneHandle side)) → (o : Option Handle) → P (clone_asked o)
  of_cloned clones None = make
  of_cloned clones (Some h) = by h.kind
    where
      by : (k : HandleKind) → P (elim k [
        | Sender ↦ ChannelAsk.CloneHandle Senders
        | Receiver ↦ ChannelAsk.CloneHandle Receivers
        | WeakSender ↦ ChannelAsk.Make
        | WeakReceiver ↦ ChannelAsk.Make
      ])
      by Sender = clones Senders
      by Receiver = clones Receivers
      by k = make

  pub of_upgraded : ((side : Side) → P (ChannelAsk.Upgrade side)) → (o : Option Handle) → P (upgrade_asked o)
  of_upgraded upgrades None = make
  of_upgraded upgrades (Some h) = by h.kind
    where
      by : (k : HandleKind) → P (elim k [
        | Sender ↦ ChannelAsk.Upgrade Senders
        | Receiver ↦ ChannelAsk.Upgrade Receivers
        | WeakSender ↦ ChannelAsk.Upgrade Senders
        | WeakReceiver ↦ ChannelAsk.Upgrade Receivers
      ])
      by Sender = upgrades Senders
      by WeakSender = upgrades Senders
      by k = upgrades Receivers
