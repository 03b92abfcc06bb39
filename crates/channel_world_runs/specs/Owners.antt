-- What holds each listener: what is pending, by its name, or one call under way.
use Rattle.std.specs.Prelude.{◌≡◌, ◌∷◌, ◌++◌, ◌⊎◌}
use Rattle.channel_world_runs.specs.Words.{ℕ, nat_eq, List, [], Option, None, Some, lookup, keys_of, Phase, Key, Channel, Listeners, listeners, held_on, line_of, ChannelAsk, Purpose, Closer, ListenerRef, WaitList, Sends, Receives, Streams, Closings, Receivers, Stage, Trying, Working, Finished, ListStep, TellReceive, TellStreams, TellSend, TellSends, TellAll, Insert, Register, Leave, Lower, HandleKind, Waiter, Op, Stream, ActiveCall, Configuration, OnReturn, HandleEntry, OperationEntry, Operation, PollState, Rests, Waits, IsPolled, NameTable}
use Rattle.channel_world_runs.specs.Run.{NameState}
use Rattle.channel_world_runs.specs.Calls.{Agent}

module _ {A : Type 0} where
  abbrev pub IsAmong : A → List A → Type 0
  IsAmong x [] = ⊥
  IsAmong x (y ∷ ys) = (y ≡ x) ⊎ IsAmong x ys

  abbrev pub NoneTwice : List A → Type 0
  NoneTwice [] = Unit {0}
  NoneTwice (x ∷ xs) = (IsAmong x xs → ⊥) × NoneTwice xs

  abbrev pub All : (A → Type 0) → List A → Type 0
  All P [] = Unit {0}
  All P (x ∷ xs) = P x × All P xs

-- ---- the names

-- How a name stands: it was never taken; nothing lives under it; what lives there isn't pending; it is pending with this
-- listener; a poll of it is under way; or, which never is, a finished send or what is no receiver is pending.
pub data NameStatus : Type 0 where
  free : NameStatus
  retired : NameStatus
  invalid : NameStatus
  rests : WaitList → NameStatus
  waits : ListenerRef → NameStatus
  polled : WaitList → NameStatus

abbrev pub status_on : WaitList → PollState → NameStatus
status_on line Rests = rests line
status_on line (Waits key) = waits (record { line = line; key = key })
status_on line (IsPolled brings) = polled line

abbrev pub no_stream_status : PollState → NameStatus
no_stream_status Rests = rests Streams
no_stream_status s = invalid

-- only a receiver is polled as a stream
abbrev pub stream_status : HandleKind → PollState → NameStatus
stream_status HandleKind.Receiver s = status_on Streams s
stream_status other s = no_stream_status s

abbrev pub status_by : {X : Type 0} → (X → NameStatus) → Option (Option X) → NameStatus
status_by p None = free
status_by p (Some None) = retired
status_by p (Some (Some x)) = p x

module _ {T : Type 0} where
  -- a finished send isn't pending
  abbrev pub send_status : Option T → PollState → NameStatus
  send_status None Rests = rests Sends
  send_status None (Waits key) = invalid
  send_status None (IsPolled brings) = polled Sends
  send_status (Some m) s = status_on Sends s

  abbrev pub operation_status : Operation T → PollState → NameStatus
  operation_status (Operation.Send handle m) s = send_status m s
  operation_status (Operation.Receive handle) s = status_on Receives s
  operation_status (Operation.Closing handle) s = status_on Closings s

  abbrev pub status : NameTable T → Waiter → NameStatus
  status r (Op op) = status_by (λ (o : OperationEntry T). operation_status o.operation o.poll_state) (lookup (nat_eq op.0) r.operations)
  status r (Stream handle) = status_by (λ (h : HandleEntry). stream_status h.handle.kind h.poll_state) (lookup (nat_eq handle.0) r.handles)

-- ---- the calls under way

abbrev pub closer_holds : Closer → Option ListenerRef
closer_holds (Closer.Receiver key) = held_on Streams key
closer_holds c = None

module _ {T W : Type 0} where
  abbrev pub purpose_holds : Purpose T W → Option ListenerRef
  purpose_holds (Purpose.Poll line key task) = held_on line key
  purpose_holds (Purpose.Close c) = closer_holds c
  purpose_holds a = None

  abbrev pub purpose_task : Purpose T W → Option W
  purpose_task (Purpose.Poll line key task) = Some task
  purpose_task a = None

module _ {W : Type 0} where
  -- the task of its listener is that of its operation
  abbrev pub Bears : Option W → Option (WaitList × W) → Type 0
  Bears None wait = Unit {0}
  Bears (Some task) wait = (line : WaitList) × (wait ≡ Some (line, task))

module _ {T W : Type 0} where
  abbrev pub work_holds : ListStep T W → Option ListenerRef
  work_holds (TellReceive x) = x.held
  work_holds (TellStreams x) = x.held
  work_holds (TellSend x) = x.held
  work_holds (TellSends n x) = x.held
  work_holds (TellAll line c) = closer_holds c
  work_holds (Register w key task) = Some (record { line = line_of w; key = key })
  work_holds (Leave x) = x.held
  work_holds (Lower Receivers key) = held_on Streams key
  work_holds w = None

  -- the listener that a call at this stage has in hand
  abbrev pub holding : Stage (Phase T) T W → Option ListenerRef
  holding (Trying f a) = purpose_holds a
  holding (Working w) = work_holds w
  holding (Finished kept) = None

  abbrev pub work_task : ListStep T W → Option W
  work_task (Insert w task) = Some task
  work_task (Register w key task) = Some task
  work_task w = None

  -- the task that its listener is to wake
  abbrev pub task_at : Stage (Phase T) T W → Option W
  task_at (Trying f a) = purpose_task a
  task_at (Working w) = work_task w
  task_at (Finished kept) = None

  -- the list on which a call may wait, and for which name
  abbrev pub wait_of : ChannelAsk T W → Option (WaitList × W)
  wait_of (ChannelAsk.PollSend m key task) = Some (Sends, task)
  wait_of (ChannelAsk.PollRecv key task) = Some (Receives, task)
  wait_of (ChannelAsk.PollClosed key task) = Some (Closings, task)
  wait_of (ChannelAsk.PollNext key task) = Some (Streams, task)
  wait_of a = None

module _ {T W : Type 0} where
  -- the list whose listener a call may have in hand
  abbrev pub line_asked : ChannelAsk T W → Option WaitList
  line_asked (ChannelAsk.PollSend m key task) = Some Sends
  line_asked (ChannelAsk.PollRecv key task) = Some Receives
  line_asked (ChannelAsk.PollClosed key task) = Some Closings
  line_asked (ChannelAsk.PollNext key task) = Some Streams
  line_asked (ChannelAsk.RefusePoll line message key) = Some line
  line_asked (ChannelAsk.GiveUp line message key) = Some line
  line_asked (ChannelAsk.DropReceiver key) = Some Streams
  line_asked a = None

-- ---- calls and what they write back

module _ {T : Type 0} where
  -- the name at which what is to be written back works: that of what it polls, or of what it makes
  abbrev pub subject : OnReturn T → Option Waiter
  subject (OnReturn.Poll op) = Some (Op op)
  subject (OnReturn.PollNext receiver) = Some (Stream receiver)
  subject (OnReturn.Make op operation) = Some (Op op)
  subject (OnReturn.New from new kind) = Some (Stream new)
  subject e = None

  -- a call waits, if at all, for the name that it polls; under a name that it makes nothing lives yet
  abbrev pub Suits : (Waiter → NameStatus) → OnReturn T → Option (WaitList × Waiter) → Type 0
  Suits p (OnReturn.Poll op) wait = (line : WaitList) × (p (Op op) ≡ polled line) × ((wait ≡ None) ⊎ (wait ≡ Some (line, Op op)))
  Suits p (OnReturn.PollNext receiver) wait = (line : WaitList) × (p (Stream receiver) ≡ polled line) × ((wait ≡ None) ⊎ (wait ≡ Some (line, Stream receiver)))
  Suits p (OnReturn.Make op operation) wait = (p (Op op) ≡ retired) × (operation.poll_state ≡ Rests) × (wait ≡ None)
  Suits p (OnReturn.New from new kind) wait = (p (Stream new) ≡ retired) × (wait ≡ None)
  Suits p e wait = wait ≡ None

  -- an agent and the call of the same party under way
  pub record AgentFits (p : Waiter → NameStatus) (a : Agent T) (u : ActiveCall T Waiter) : Type 0 where
    pub party : a.party ≡ u.party
    pub suits : Suits p a.on_return (wait_of u.ask)
    pub bears : Bears (task_at u.at) (wait_of u.ask)
    pub lines : (h : ListenerRef) → holding u.at ≡ Some h → line_asked u.ask ≡ Some h.line

  -- one by one, in the same order
  abbrev pub Together : (Waiter → NameStatus) → List (Agent T) → List (ActiveCall T Waiter) → Type 0
  Together p [] [] = Unit {0}
  Together p [] (u ∷ us) = ⊥
  Together p (a ∷ more) [] = ⊥
  Together p (a ∷ more) (u ∷ us) = AgentFits p a u × Together p more us

  -- two agents are of different parties, and don't work at the same name
  pub record Differ (a b : Agent T) : Type 0 where
    pub party : a.party ≡ b.party → ⊥
    pub name : (w : Waiter) → subject a.on_return ≡ Some w → subject b.on_return ≡ Some w → ⊥

  abbrev pub AllDiffer : List (Agent T) → Type 0
  AllDiffer [] = Unit {0}
  AllDiffer (a ∷ more) = All (Differ a) more × AllDiffer more

-- ---- the lists

module _ {W : Type 0} where
  -- told or waiting, on one list
  abbrev pub keys : Listeners W → List Key
  keys l = keys_of l.told ++ keys_of l.waiting

module _ {T W : Type 0} where
  -- the listener is told or waits
  abbrev pub IsListed : ListenerRef → Channel T W → Type 0
  IsListed h c = IsAmong h.key (keys (listeners h.line c.wait_lists))

  -- it waits, to wake this task
  abbrev pub WaitsToWake : ListenerRef → W → Channel T W → Type 0
  WaitsToWake h task c = IsAmong (h.key, Some task) (listeners h.line c.wait_lists).waiting

  abbrev pub NoneListedTwice : Channel T W → Type 0
  NoneListedTwice c = (line : WaitList) → NoneTwice (keys (listeners line c.wait_lists))

-- ---- owners

-- one that may hold listeners: a name, or a party's call under way
pub data Holder : Type 0 where
  named : Waiter → Holder
  calling : ℕ → Holder

module _ {T : Type 0} where
  abbrev pub AnyOf : (ActiveCall T Waiter → Type 0) → List (ActiveCall T Waiter) → Type 0
  AnyOf P [] = ⊥
  AnyOf P (u ∷ us) = P u ⊎ AnyOf P us

  -- a name holds its listener while it is pending, a call while it has it in hand
  abbrev pub HoldsIn : (Waiter → NameStatus) → List (ActiveCall T Waiter) → Holder → ListenerRef → Type 0
  HoldsIn p us (named w) h = p w ≡ waits h
  HoldsIn p us (calling party) h = AnyOf (λ u. (u.party ≡ party) × (holding u.at ≡ Some h)) us

  -- Each call under way is of one agent, and no two of one party or at one name. What is pending has its listener on its list.
  -- Each listener on a list is held, and by one alone: by what is pending, or by a call that has it in hand. None stands on a list
  -- twice.
  pub record Owned (b : NameState T) (s : Configuration T Waiter) : Type 0 where
    pub together : Together (status b.name_table) b.agents s.under_way
    pub differ : AllDiffer b.agents
    pub none_amiss : (w : Waiter) → status b.name_table w ≡ invalid → ⊥
    pub once : NoneListedTwice s.now
    pub listed : (x : Holder) (h : ListenerRef) → HoldsIn (status b.name_table) s.under_way x h → IsListed h s.now
    pub held : (h : ListenerRef) → IsListed h s.now → (x : Holder) × HoldsIn (status b.name_table) s.under_way x h
    pub alone : (x y : Holder) (h : ListenerRef) → HoldsIn (status b.name_table) s.under_way x h → HoldsIn (status b.name_table) s.under_way y h → x ≡ y
