-- What is said of a call on a channel with a bound: by the view of its seat its party asked this and was answered this. A call's watch is
-- given the seat; an operation keeps its own.
use Rattle.std.specs.Prelude.{◌≡◌, ◌⊎◌, ℕ, Bool, true, false, List, ◌++◌, Option, None, Some, Result, Ok, Err, MatchOption, All}
use Rattle.atomic_table.specs.Seated.{TableId}
use Rattle.concurrent_queue.specs.Deeds as cell
use Rattle.concurrent_queue.specs.declared.history.seats.IdleSeat.{IdleSeat}
use Rattle.event_listener.specs.declared.error.ListenError.{ListenError}
use Rattle.event_listener.specs.declared.key.Key.{Key}
use Rattle.event_listener.specs.declared.waking.Task.{Task}
use Rattle.futures.specs.declared.task.Poll.TheVariants.{Pending, Ready}
use Rattle.channel_calls.specs.Asks.{first}
use Rattle.channel_calls.specs.Calls.{made_answer, upgraded_answer, send_ask, recv_ask}
use Rattle.channel_calls.specs.Deeds.{Deed}
use Rattle.channel_calls.specs.Taking.{waited_for}
use Rattle.channel_calls.specs.Tried.{polled, received_by, sent_by, sent_reply, sent_left}
use Rattle.channel_calls.specs.Turns.{leaving}
use Rattle.channel_calls.specs.Walks.{WalkedTo}
use Rattle.channel_calls.specs.declared.ask.ChannelAsk.{ChannelAsk}
use Rattle.channel_calls.specs.declared.ask.ChannelAsk.TheVariants as ask
use Rattle.channel_calls.specs.declared.error.HandleError.{HandleError}
use Rattle.channel_calls.specs.declared.error.HandleError.TheVariants.{NoMemory, TooMany}
use Rattle.channel_calls.specs.declared.error.RecvError.{RecvError}
use Rattle.channel_calls.specs.declared.error.Refused.{Refused}
use Rattle.channel_calls.specs.declared.error.Refused.TheVariants.{Plain}
use Rattle.channel_calls.specs.declared.error.SendError.{SendError}
use Rattle.channel_calls.specs.declared.error.TryRecvError.{TryRecvError}
use Rattle.channel_calls.specs.declared.error.TryRecvError.TheVariants.{Empty}
use Rattle.channel_calls.specs.declared.error.TrySendError.{TrySendError}
use Rattle.channel_calls.specs.declared.error.TrySendError.TheVariants.{Full}
use Rattle.channel_calls.specs.declared.reply.Reply.{Reply}
use Rattle.channel_calls.specs.declared.reply.Reply.TheVariants as reply
use Rattle.channel_calls.specs.declared.stage.Returned.{Returned}
use Rattle.channel_calls.specs.declared.stage.Side.{Side}
use Rattle.channel_calls.specs.declared.whole.Completed.{Completed}
use Rattle.channel_cells.specs.Calls.{HasCalled, HasPolled}
use Rattle.channel_cells.specs.Channel.{seat_table, standing_of}
use Rattle.channel_history.specs.CallEnds.{HasGiven}
use Rattle.channel_history.specs.Machine.{left}
use Rattle.channel_history.specs.Party.{fresh}
use Rattle.channel_history.specs.declared.party.Standing.{Standing}
use Rattle.async_channel.specs.Handles.{Handle}
use Rattle.async_channel.specs.Parties.{Seat}
use Rattle.async_channel.specs.Polls.{Polls, PollsSend}
use Rattle.async_channel.specs.Watched.{WasSeen}

module _ {T : Type 0} where
  -- a party that stood so has made a poll of an operation, whichever its task: it was answered so, and was left this listener and this message
  abbrev pub PolledWith : Standing T Task → (Option Task → ChannelAsk T Task) → Reply T → Option Key → Option T → Standing T Task → Type 0
  PolledWith before asks r key message now =
      (task : Option Task) × HasGiven (λ (c : Completed T). c ≡ record { reply = r; kept = leaving key message }) before (asks task) r (leaving key message) now

  -- a call that left this seat, of which the watch of its channel was told
  abbrev pub WasCalledFrom : (Seat T → Type 0) → TableId → Standing T Task → ChannelAsk T Task → Reply T → Type 0
  WasCalledFrom called table before a r = (seat : Seat T) × called seat × HasCalled table before a r seat

  -- a call by a party of its own
  abbrev pub WasCalled : (Seat T → Type 0) → TableId → ChannelAsk T Task → Reply T → Type 0
  WasCalled called table a r = WasCalledFrom called table fresh a r

  -- ---- calls that block: they try, and then poll with their thread's task, all as one party

  -- a call found no place, or no message
  abbrev pub IsNotYet : Reply T → Type 0
  IsNotYet (reply.TrySend (Err (Plain (Full message)))) = Unit {0}
  IsNotYet (reply.SendPoll Pending) = Unit {0}
  IsNotYet (reply.TryRecv (Err Empty)) = Unit {0}
  IsNotYet (reply.RecvPoll Pending) = Unit {0}
  IsNotYet r = ⊥

  -- a try or a poll of a send with this message, and of a receive
  abbrev pub SendsThis : T → ChannelAsk T Task → Type 0
  SendsThis message a = (a ≡ ask.TrySend message) ⊎ ((key : Option Key) × (task : Option Task) × (a ≡ send_ask (Some message) key task))

  abbrev pub ReceivesOne : ChannelAsk T Task → Type 0
  ReceivesOne a = (a ≡ ask.TryRecv) ⊎ ((key : Option Key) × (task : Option Task) × (a ≡ recv_ask key task))

  -- a party that stood so has made calls since, all of this kind, each of which was answered so
  pub record HasOnlyFound (tries : ChannelAsk T Task → Type 0) (s t : Standing T Task) : Type 0 where
    pub asks : List (ChannelAsk T Task)
    pub asked : t.asked ≡ s.asked ++ asks
    pub tried : All tries asks
    pub answers : List (Completed T)
    pub given : t.given ≡ s.given ++ answers
    pub each : All (λ (c : Completed T). IsNotYet c.reply) answers

  -- a send that blocks: a try or a poll answered this, before which there was no place
  abbrev pub HasSent : TableId → Standing T Task → T → Result Unit (Refused (SendError T) T) → Seat T → Type 0
  HasSent table s message r seat =
      (t : Standing T Task) × HasOnlyFound (SendsThis message) s t
      × (((sent : Result Unit (Refused (TrySendError T) T)) × HasCalled table t (ask.TrySend message) (reply.TrySend sent) seat × (sent_by sent ≡ Ok (record { reply = sent_reply r; kept = sent_left r })))
      ⊎ ((key : Option Key) × (task : Option Task) × (kept : Returned T) × HasPolled table t (send_ask (Some message) key task) (sent_reply r) kept seat))

  -- and a receive that does
  abbrev pub HasReceived : TableId → Standing T Task → Result T (Refused RecvError Unit) → Seat T → Type 0
  HasReceived table s r seat =
      (t : Standing T Task) × HasOnlyFound ReceivesOne s t
      × (((received : Result T TryRecvError) × HasCalled table t ask.TryRecv (reply.TryRecv received) seat × (received_by received ≡ Ok (polled (reply.RecvPoll (Ready r)) None)))
      ⊎ ((key : Option Key) × (task : Option Task) × (kept : Returned T) × HasPolled table t (recv_ask key task) (reply.RecvPoll (Ready r)) kept seat))

  -- a walk that waits: after its end it gives nothing and calls nothing, and before what a receive answered
  abbrev pub GaveNext : (Seat T → Type 0) → TableId → Bool → Option (Result T ListenError) → Type 0
  GaveNext called table true item = item ≡ None
  GaveNext called table false item = (seat : Seat T) × called seat × HasReceived table fresh (waited_for item) seat

module _ {T : Type 0} (called : Seat T → Type 0) where
  -- the watch of a channel was told of a call, by a seat that says this
  abbrev pub WasTold : (Seat T → Type 0) → Type 0
  WasTold says = (seat : Seat T) × called seat × says seat

module _ {T X : Type 0} (did : cell.Deed T → X → X → Type 0) (shown : Deed T Task → X → X → Type 0) (entered : ℕ → X → X → Type 0) where
  -- what a poll of a send says, by the listener and the message that it is left: with a bound the operation's party asked it and was answered
  -- this; without one the channel's trace saw the machine's call
  abbrev pub WasPolledWith : Handle → Standing T Task → (Option Task → ChannelAsk T Task) → Reply T → Option Key → Option T → Standing T Task → Type 0
  WasPolledWith channel before asks r key message now =
      MatchOption channel.table (WasSeen did shown entered channel (λ saw begin x end. PollsSend saw asks begin x key message end) r) (λ _. PolledWith before asks r key message now)

  -- and one of another operation
  abbrev pub WasPolled : Handle → Standing T Task → (Option Task → ChannelAsk T Task) → Reply T → Option Key → Standing T Task → Type 0
  WasPolled channel before asks r key now =
      MatchOption channel.table (WasSeen did shown entered channel (λ saw begin x end. Polls saw asks begin x key end) r) (λ _. (message : Option T) × PolledWith before asks r key message now)

module _ {T X : Type 0} (did : cell.Deed T → X → X → Type 0) (shown : Deed T Task → X → X → Type 0) (entered : ℕ → X → X → Type 0) (called : Seat T → Type 0) where
  -- what a call says that a party made which stood so: with a bound the channel's watch was told of it, which asked this and was answered
  -- this; without one the watch saw the machine's call, from its first turn to this answer
  abbrev pub WasMadeBy : Handle → Standing T Task → ChannelAsk T Task → Reply T → Type 0
  WasMadeBy channel before a r = MatchOption channel.table (WasSeen did shown entered channel (λ saw. WalkedTo saw (first a)) r) (λ table. WasCalledFrom called table before a r)

  -- and a party of its own
  abbrev pub WasMade : Handle → ChannelAsk T Task → Reply T → Type 0
  WasMade channel a r = WasMadeBy channel fresh a r

module _ {T : Type 0} where
  -- the party of this seat has asked nothing
  abbrev pub HasAskedNothing : TableId → Seat T → Type 0
  HasAskedNothing table seat = (seat_table seat ≡ table) × (standing_of seat ≡ fresh)

  -- it stood so, and gave the handle that its call made to a seat of its own
  abbrev pub HasParted : TableId → Standing T Task → Seat T → Type 0
  HasParted table made seat = (seat_table seat ≡ table) × (standing_of seat ≡ left made)

  -- a new party has made this call, a clone or an upgrade, which counted a handle and made it
  abbrev pub HasCounted : TableId → ChannelAsk T Task → Seat T → Type 0
  HasCounted table a seat =
      (made : Standing T Task) × (kept : Returned T) × HasGiven (λ (c : Completed T). c.reply ≡ reply.Made) fresh a reply.Made kept made × HasParted table made seat

module _ {T : Type 0} (called : Seat T → Type 0) where
  -- a clone and an upgrade, by their answers: each by a party of its own, of which the watch was told. A handle is made if it was counted,
  -- and if memory was refused the party has asked nothing
  abbrev pub ClonedSo : {A : Type 0} → TableId → Side → Result A HandleError → Type 0
  ClonedSo table side (Ok a) = WasTold called (HasCounted table (ask.CloneHandle side))
  ClonedSo table side (Err TooMany) = (r : Reply T) × (made_answer r ≡ Err TooMany) × WasCalled called table (ask.CloneHandle side) r
  ClonedSo table side (Err NoMemory) = WasTold called (HasAskedNothing table)

  abbrev pub UpgradedSo : {A : Type 0} → TableId → Side → Result (Option A) HandleError → Type 0
  UpgradedSo table side (Ok (Some a)) = WasTold called (HasCounted table (ask.Upgrade side))
  UpgradedSo table side (Ok None) = WasCalled called table (ask.Upgrade side) reply.NotMade
  UpgradedSo table side (Err TooMany) = (r : Reply T) × (upgraded_answer r ≡ Err TooMany) × WasCalled called table (ask.Upgrade side) r
  UpgradedSo table side (Err NoMemory) = WasTold called (HasAskedNothing table)
