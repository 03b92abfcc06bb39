-- What is known of a call under way by how far it has come.
use Rattle.std.specs.Prelude.{◌≡◌, ℕ, ◌+◌, ◌<◌, ◌≤◌, true, false, List, [], ◌∷◌, ◌++◌, length, None, Some, ◌⊎◌}
use Rattle.concurrent_queue.specs.Queue.{Phase, trying, displaced, appended, taken, read, measured}
use Rattle.concurrent_queue.specs.Queue as queue
use Rattle.concurrent_queue.specs.declared.call.QueueAsk.{QueueAsk}
use Rattle.concurrent_queue.specs.declared.call.QueueAsk.TheVariants as ask
use Rattle.channel_calls.specs.Moves.{Channel}
use Rattle.channel_calls.specs.Turns.{most, line_of, leaving, closer_ending}
use Rattle.channel_calls.specs.declared.ask.ChannelAsk.{ChannelAsk}
use Rattle.channel_calls.specs.declared.ask.ChannelAsk.TheVariants.{TrySend, ForceSend, TryRecv, RecvMany, Close, PollSend, PollFinishedSend, PollRecv, PollClosed, PollNext, RefusePoll, GiveUp, DropSender, DropReceiver, CloneHandle, Upgrade, HandleCount, IsClosed, IsEmpty, IsFull, Len, Capacity, IsTerminated, SendIsTerminated, SameChannel, Make, DropWeak}
use Rattle.channel_calls.specs.declared.stage.Purpose.{Purpose}
use Rattle.channel_calls.specs.declared.stage.Purpose.TheVariants as purpose
use Rattle.channel_calls.specs.declared.stage.Closer.TheVariants as closer
use Rattle.channel_calls.specs.declared.stage.Ending.{Ending}
use Rattle.channel_calls.specs.declared.stage.WaitList.{WaitList}
use Rattle.channel_calls.specs.declared.stage.WaitList.TheVariants.{Sends, Receives, Streams, Closings}
use Rattle.channel_calls.specs.declared.stage.Making.{Making}
use Rattle.channel_calls.specs.declared.stage.Making.TheVariants as making
use Rattle.channel_calls.specs.declared.stage.Side.{Side}
use Rattle.channel_calls.specs.declared.stage.Side.TheVariants.{Senders, Receivers}
use Rattle.channel_calls.specs.declared.stage.Stage.{Stage}
use Rattle.channel_calls.specs.declared.stage.Stage.TheVariants.{Trying, Working, Finished}
use Rattle.channel_calls.specs.declared.stage.Waiting.{Waiting}
use Rattle.channel_calls.specs.declared.stage.Waiting.TheVariants as waiting
use Rattle.channel_calls.specs.declared.stage.ListStep.{ListStep}
use Rattle.channel_calls.specs.declared.stage.ListStep.TheVariants.{TellReceive, TellStreams, TellSend, TellSends, TakeRoom, TellAll, Insert, Register, Leave, Lower, Count, Load, Raise}
use Rattle.channel_steps.specs.Moments.{MarkedMoment, Open, Shut, HasRoom, Refuses, HasMessage, Once, Appended, Took, TookAll, Replaced, MadeRoom, Displaced, LeftLast}
use Rattle.channel_steps.specs.Answers.{WaitsFor, asks_first, Keeps, Met}
use Rattle.channel_steps.specs.Tellings.{Telling, one_of, more_of, all_of, owed}

-- how many handles a count may be raised from
abbrev pub MayRaise : Making → ℕ → Type 0
MayRaise making.Clone n = n ≤ most
MayRaise making.Upgrade n = (0 < n) × (n ≤ most)

-- a closing tells all of this list and of those after it
abbrev pub all_from : WaitList → List Telling
all_from Sends = all_of Sends ∷ all_of Receives ∷ all_of Streams ∷ all_of Closings ∷ []
all_from Receives = all_of Receives ∷ all_of Streams ∷ all_of Closings ∷ []
all_from Streams = all_of Streams ∷ all_of Closings ∷ []
all_from Closings = all_of Closings ∷ []

-- and so it has these steps left, with one to drop its listener
abbrev pub left_to_tell : WaitList → ℕ
left_to_tell Sends = 5
left_to_tell Receives = 4
left_to_tell Streams = 3
left_to_tell Closings = 2

module _ {T : Type 0} where
  -- the steps that a quick call makes at most while the queue has the next step
  abbrev pub left_to_try : QueueAsk T → queue.Stage T → ℕ
  left_to_try ask.Close s = 6
  left_to_try ask.IsClosed s = 3
  left_to_try ask.IsEmpty (read n) = 1
  left_to_try ask.IsEmpty s = 2
  left_to_try ask.IsFull (read n) = 1
  left_to_try ask.IsFull s = 2
  left_to_try a s = 1

module _ {T W : Type 0} where
  -- ---- while the queue has the next step

  -- the queue's call is one of this call, made for this
  abbrev pub TriesFor : ChannelAsk T W → Purpose T W → QueueAsk T → List (MarkedMoment T W) → List (Channel T W) → Type 0
  TriesFor (TrySend m) purpose.TrySend (ask.Push v) ds seen = v ≡ m
  TriesFor (ForceSend m) purpose.ForceSend (ask.ForcePush v) ds seen = v ≡ m
  TriesFor TryRecv purpose.TryRecv ask.Pop ds seen = Unit {0}
  TriesFor (RecvMany n) (purpose.RecvMany g) ask.Pop ds seen = n ≡ length g.taken + (g.more + 1)
  TriesFor Close (purpose.Close closer.Call) ask.Close ds seen = ds ≡ []
  TriesFor (PollSend m k t) (purpose.Poll Sends key task) (ask.Push v) ds seen = v ≡ m
  TriesFor (PollRecv k t) (purpose.Poll Receives key task) ask.Pop ds seen = Unit {0}
  TriesFor (PollClosed k t) (purpose.Poll Closings key task) ask.IsClosed ds seen = Unit {0}
  TriesFor (PollNext k t) (purpose.Poll Streams key task) ask.Pop ds seen = Unit {0}
  TriesFor DropSender (purpose.Close closer.Sender) ask.Close ds seen = LeftLast Senders ds seen
  TriesFor (DropReceiver k) (purpose.Close (closer.Receiver key)) ask.Close ds seen = LeftLast Receivers ds seen
  TriesFor (Upgrade side) (purpose.Upgrade s) ask.IsClosed ds seen = s ≡ side
  TriesFor IsClosed purpose.Ask ask.IsClosed ds seen = Unit {0}
  TriesFor IsEmpty purpose.Ask ask.IsEmpty ds seen = Unit {0}
  TriesFor IsFull purpose.Ask ask.IsFull ds seen = Unit {0}
  TriesFor Len purpose.Ask ask.Len ds seen = Unit {0}
  TriesFor Capacity purpose.Ask ask.Capacity ds seen = Unit {0}
  TriesFor IsTerminated purpose.IsTerminated ask.IsClosed ds seen = Unit {0}
  TriesFor IsTerminated purpose.Ask ask.IsEmpty ds seen = Once Shut seen
  TriesFor _ _ _ ds seen = ⊥

  -- a count that a question read still says something of the moments
  abbrev pub TryAt : Channel T W → QueueAsk T → queue.Stage T → List (MarkedMoment T W) → List (Channel T W) → Type 0
  TryAt now (ask.Push v) (trying b) ds seen = (ds ≡ []) × (b ≡ true → Once (Refuses now.queue.capacity) seen)
  TryAt now (ask.Push v) (appended None) ds seen = Appended ds
  TryAt now (ask.ForcePush v) (trying b) ds seen = (ds ≡ []) × (b ≡ true → Once (Refuses now.queue.capacity) seen)
  TryAt now (ask.ForcePush v) (displaced d) ds seen = MadeRoom ds d
  TryAt now (ask.ForcePush v) (appended None) ds seen = Appended ds
  TryAt now (ask.ForcePush v) (appended (Some d)) ds seen = Replaced ds d ⊎ Displaced ds d
  TryAt now ask.Pop (trying b) ds seen = ds ≡ []
  TryAt now ask.Pop (taken v) ds seen = Took ds v
  TryAt now ask.Close (trying b) ds seen = Unit {0}
  TryAt now ask.IsClosed (trying b) ds seen = ds ≡ []
  TryAt now ask.IsEmpty (trying b) ds seen = ds ≡ []
  TryAt now ask.IsEmpty (read n) ds seen = (ds ≡ []) × (Once HasMessage seen ⊎ (now.queue.accepted ≤ n))
  TryAt now ask.IsFull (trying b) ds seen = ds ≡ []
  TryAt now ask.IsFull (read n) ds seen = (ds ≡ []) × (now.queue.capacity ≡ Some 1 → ⊥) × (Once HasRoom seen ⊎ (now.queue.accepted ≡ n))
  TryAt now ask.Len (trying b) ds seen = ds ≡ []
  TryAt now ask.Len (read n) ds seen = ds ≡ []
  TryAt now ask.Len (measured n k) ds seen = (ds ≡ []) × Once (λ c. length c.queue.items ≡ k) seen
  TryAt now ask.Capacity (trying b) ds seen = ds ≡ []
  TryAt now _ _ ds seen = ⊥

  -- these marks were made at moments of this call
  abbrev pub AreBehind : List (MarkedMoment T W) → List (Channel T W) → Type 0
  AreBehind [] seen = Unit {0}
  AreBehind (d ∷ ds) seen = ((newer : List (Channel T W)) × (seen ≡ newer ++ d.seen)) × AreBehind ds seen

  -- a call that takes several messages has those that it took at earlier tries
  pub record HasTaken (taken : List T) (ds mine : List (MarkedMoment T W)) (seen : List (Channel T W)) : Type 0 where
    pub before : List (MarkedMoment T W)
    pub all : ds ≡ before ++ mine
    pub took : TookAll before taken
    pub behind : AreBehind ds seen

  abbrev pub TriesAt : Channel T W → Purpose T W → QueueAsk T → queue.Stage T → List (MarkedMoment T W) → List (Channel T W) → Type 0
  TriesAt now (purpose.RecvMany g) a s ds seen = (mine : List (MarkedMoment T W)) × HasTaken g.taken ds mine seen × TryAt now a s mine seen
  TriesAt now _ a s ds seen = TryAt now a s ds seen

  -- ---- while a list or a count has the next step

  -- the waiting operation is the one that is polled
  abbrev pub IsFor : ChannelAsk T W → Waiting T → Type 0
  IsFor (PollSend m k t) (waiting.Send v) = v ≡ m
  IsFor (PollRecv k t) waiting.Receive = Unit {0}
  IsFor (PollNext k t) waiting.Stream = Unit {0}
  IsFor (PollClosed k t) waiting.Closing = Unit {0}
  IsFor _ _ = ⊥

  -- a handle of this kind is made
  abbrev pub Makes : ChannelAsk T W → Side → Making → List (Channel T W) → Type 0
  Makes (CloneHandle s) side making.Clone seen = side ≡ s
  Makes (Upgrade s) side making.Upgrade seen = (side ≡ s) × Once Open seen
  Makes _ side m seen = ⊥

  -- one of this kind is dropped
  abbrev pub IsDropOf : ChannelAsk T W → Side → Type 0
  IsDropOf DropSender Senders = Unit {0}
  IsDropOf (DropReceiver k) Receivers = Unit {0}
  IsDropOf _ _ = ⊥

  -- the answer is fixed
  abbrev pub Answered : ChannelAsk T W → Ending T → List (MarkedMoment T W) → List (Channel T W) → Type 0
  Answered ask x ds seen = Met ask ds seen x.reply × Keeps ask x.reply (leaving None x.message)

  abbrev pub WorkAt : ChannelAsk T W → ListStep T W → List (MarkedMoment T W) → List (Channel T W) → Type 0
  WorkAt ask (TellReceive x) ds seen = Answered ask x ds seen
  WorkAt ask (TellStreams x) ds seen = Answered ask x ds seen
  WorkAt ask (TellSend x) ds seen = Answered ask x ds seen
  WorkAt ask (TellSends n x) ds seen = Answered ask x ds seen
  WorkAt ask (TakeRoom n) ds seen = (ask ≡ RecvMany n) × (ds ≡ [])
  WorkAt ask (TellAll line closer) ds seen = Answered ask (closer_ending closer true) ds seen
  WorkAt ask (Insert w task) ds seen = IsFor ask w × (ds ≡ []) × WaitsFor (line_of w) seen
  WorkAt ask (Register w key task) ds seen = IsFor ask w × (ds ≡ []) × (asks_first ask ≡ false → WaitsFor (line_of w) seen)
  WorkAt ask (Leave x) ds seen = Answered ask x ds seen
  WorkAt ask (Lower side key) ds seen = IsDropOf ask side × (ds ≡ [])
  WorkAt ask (Count side) ds seen = (ask ≡ HandleCount side) × (ds ≡ [])
  WorkAt ask (Load side making) ds seen = Makes ask side making seen × (ds ≡ [])
  WorkAt ask (Raise side n making) ds seen = Makes ask side making seen × (ds ≡ []) × MayRaise making n

  -- by the stage of a call; one that has answered is under way no more
  abbrev pub StageAt : Channel T W → ChannelAsk T W → Stage (Phase T) T W → List (MarkedMoment T W) → List (Channel T W) → Type 0
  StageAt now ask (Trying f purpose) ds seen = TriesFor ask purpose f.ask ds seen × TriesAt now purpose f.ask f.stage ds seen
  StageAt now ask (Working w) ds seen = WorkAt ask w ds seen
  StageAt now ask (Finished kept) ds seen = ⊥

  -- ---- what is left to be told

  abbrev pub to_tell : ListStep T W → List Telling
  to_tell (TellReceive x) = one_of Receives ∷ all_of Streams ∷ []
  to_tell (TellStreams x) = all_of Streams ∷ []
  to_tell (TellSend x) = one_of Sends ∷ []
  to_tell (TellSends n x) = more_of n Sends ∷ []
  to_tell (TellAll line closer) = all_from line
  to_tell _ = []

  -- what was told and what is left are what its marks owe; nothing is told while the queue has the next step
  abbrev pub ToldAt : List Telling → Stage (Phase T) T W → List (MarkedMoment T W) → Type 0
  ToldAt told (Trying f purpose) ds = told ≡ []
  ToldAt told (Working w) ds = told ++ to_tell w ≡ owed ds
  ToldAt told (Finished kept) ds = ⊥

  -- ---- how many steps are left

  -- calls that end within eight steps of their own, whatever others do
  abbrev pub IsQuick : ChannelAsk T W → Type 0
  IsQuick Close = Unit {0}
  IsQuick DropSender = Unit {0}
  IsQuick (DropReceiver k) = Unit {0}
  IsQuick DropWeak = Unit {0}
  IsQuick (GiveUp line message k) = Unit {0}
  IsQuick (RefusePoll line message k) = Unit {0}
  IsQuick PollFinishedSend = Unit {0}
  IsQuick (HandleCount side) = Unit {0}
  IsQuick IsClosed = Unit {0}
  IsQuick IsEmpty = Unit {0}
  IsQuick IsFull = Unit {0}
  IsQuick Capacity = Unit {0}
  IsQuick IsTerminated = Unit {0}
  IsQuick (SendIsTerminated b) = Unit {0}
  IsQuick (SameChannel b) = Unit {0}
  IsQuick Make = Unit {0}
  IsQuick ask = ⊥

  abbrev pub quick_left_to_work : ListStep T W → ℕ
  quick_left_to_work (TellReceive x) = 3
  quick_left_to_work (TellStreams x) = 2
  quick_left_to_work (TellSend x) = 2
  quick_left_to_work (TellSends n x) = 2
  quick_left_to_work (TellAll line closer) = left_to_tell line
  quick_left_to_work (Lower side key) = 7
  quick_left_to_work _ = 1

  abbrev pub quick_steps_left : Stage (Phase T) T W → ℕ
  quick_steps_left (Trying f purpose) = left_to_try f.ask f.stage
  quick_steps_left (Working w) = quick_left_to_work w
  quick_steps_left (Finished kept) = 0
