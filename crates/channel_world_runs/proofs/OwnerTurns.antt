-- What a call has in hand after it takes a turn, and what it is to do to the counts.
use Rattle.std.specs.Prelude.{◌≡◌, ◌∷◌, ◌++◌, ◌==◌, ◌&&◌, if◌then◌else◌, ◌⊎◌}
use Rattle.channel_world_runs.proofs.Words.{Gathered, with_last, TryRecvError, ℕ, zero, suc, List, [], Bool, true, false, nat_lt, Option, None, Some, Ok, Err, inl, inr, refl, Phase, asked, Queue, AnswersPush, AnswersPop, AnswersClose, AnswersShut, AnswersTo, QueueAsk, QueueMark, QueueReply, Key, over, answered_next, send_next, receive_next, stream_next, closing_next, closed_next, asked_next, terminated_next, upgraded_next, sent_next, forced_next, received_next, gathered_next, short_next, several_next, held_on, line_of, dropper, leaving, closer_ending, ends_by, refused_next, told_all_next, room_next, lowered_next, counted_next, loaded_next, raised_next, most, ChannelAsk, Reply, Purpose, Closer, Ending, ListenerRef, WaitList, Sends, Receives, Streams, Closings, Making, Side, is_made, Trying, Working, NextStep, Tries, Works, Ends, WaitingStep as Waiting, ListStep, Leave, TriesFor, same_side, is_lowering, is_raising, closer_holds, purpose_holds, purpose_task, work_holds, work_task, ForcePushError, PushError, PopError}
use Rattle.concurrent_queue.specs.Queue.{Stage}
use Rattle.concurrent_queue.specs.declared.call.QueueMark.TheVariants.{Nothing, Close}
use Rattle.channel_calls.specs.declared.stage.Stage as stage
use Rattle.channel_world_runs.proofs.RefusalLemmas.{and_false}

module _ {W : Type 0} where
  -- the task is this, or none
  abbrev pub MayBear : Option W → Option W → Type 0
  MayBear o task = (o ≡ None) ⊎ (o ≡ task)

module _ {T : Type 0} where
  -- an answer to this call of the queue
  abbrev IsSent : QueueReply T → Type 0
  IsSent (QueueReply.Push r) = Unit {0}
  IsSent x = ⊥

  abbrev IsReceived : QueueReply T → Type 0
  IsReceived (QueueReply.Pop r) = Unit {0}
  IsReceived x = ⊥

  abbrev IsFlag : QueueReply T → Type 0
  IsFlag (QueueReply.Flag b) = Unit {0}
  IsFlag x = ⊥

  abbrev IsClosing : QueueReply T → Type 0
  IsClosing (QueueReply.Close b) = Unit {0}
  IsClosing x = ⊥

  push_is : (q : Queue T) (v : T) (m : QueueMark) (x : QueueReply T) (s : Stage T) → AnswersPush q v m x s → IsSent x
  push_is q v Nothing (QueueReply.Push r) s h = tt
  push_is q v m x s h = absurd h

  pop_is : (q : Queue T) (m : QueueMark) (x : QueueReply T) (s : Stage T) → AnswersPop q m x s → IsReceived x
  pop_is q Nothing (QueueReply.Pop r) s h = tt
  pop_is q m x s h = absurd h

  flag_is : (q : Queue T) (m : QueueMark) (x : QueueReply T) (s : Stage T) → AnswersShut q m x s → IsFlag x
  flag_is q Nothing (QueueReply.Flag r) s h = tt
  flag_is q m x s h = absurd h

  closing_is : (q : Queue T) (m : QueueMark) (x : QueueReply T) (s : Stage T) → AnswersClose q m x s → IsClosing x
  closing_is q Nothing (QueueReply.Close r) s h = tt
  closing_is q Close (QueueReply.Close r) s h = tt
  closing_is q m x s h = absurd h

module _ (T W : Type 0) where
  -- after this turn the call has this listener in hand, for this task; where it ends, it has none
  abbrev pub Has : Option ListenerRef → Option W → NextStep T W → Type 0
  Has h task (Tries x a) = (purpose_holds a ≡ h) × MayBear (purpose_task a) task
  Has h task (Works w) = (work_holds w ≡ h) × MayBear (work_task w) task
  Has h task (Ends x kept) = (h ≡ None) × (kept.key ≡ None)

  abbrev works_at : ListStep T W → stage.Stage (Phase T) T W
  works_at w = Working w

  abbrev tries_at : QueueAsk T → Purpose T W → stage.Stage (Phase T) T W
  tries_at x a = Trying (asked x) a

  -- it is to lower no count, and may raise the count of this side if it might before; where it ends it makes no handle of this side
  abbrev pub Stays : Side → Bool → NextStep T W → Type 0
  Stays side may (Tries x a) = is_raising side (tries_at x a) ≡ may
  Stays side may (Works w) = (is_lowering side (works_at w) ≡ false) × (is_raising side (works_at w) ≡ may)
  Stays side may (Ends y kept) = (may && is_made (Some y)) ≡ false

  -- both; it may raise the count of these sides
  abbrev pub Goes : Option ListenerRef → Option W → (Side → Bool) → NextStep T W → Type 0
  Goes h task may t = Has h task t × ((side : Side) → Stays side (may side) t)

  abbrev never : Side → Bool
  never side = false

  ends_or : (e : Ending T) (o : Option ListenerRef) (task : Option W) → e.held ≡ o → Goes o task never (elim o [ None ↦ Ends e.reply (leaving None e.message) | Some held ↦ Works (Leave e) ])
  ends_or e None task same = ((refl, refl), λ side. refl)
  ends_or e (Some h) task same = ((same, inl refl), λ side. (refl, refl))

  pub ends_has : (e : Ending T) (task : Option W) → Goes e.held task never (ends_by e)
  ends_has e task = ends_or e e.held task refl

  refused_has : (w : Waiting T) (key : Option Key) (task : W) → Goes (held_on (line_of w) key) (Some task) never (refused_next w key task)
  refused_has w None task = ((refl, inr refl), λ side. (refl, refl))
  refused_has w (Some key) task = ((refl, inr refl), λ side. (refl, refl))

  over_has : (x : Reply T) (m : Option T) (line : WaitList) (key : Option Key) (task : Option W) → Goes (held_on line key) task never (ends_by (over x m line key))
  over_has x m line None task = ((refl, refl), λ side. refl)
  over_has x m line (Some key) task = ((refl, inl refl), λ side. (refl, refl))

  closer_has : (c : Closer) (b : Bool) (task : Option W) → Goes (closer_holds c) task never (ends_by (closer_ending c b))
  closer_has (Closer.Receiver (Some key)) b task = ((refl, inl refl), λ side. (refl, refl))
  closer_has c b task = ((refl, refl), λ side. refl)

  pub told_all_has : (line : WaitList) (c : Closer) (task : Option W) → Goes (closer_holds c) task never (told_all_next line c)
  told_all_has Closings c task = closer_has c true task
  told_all_has line c task = ((refl, inl refl), λ side. (refl, refl))

  lowered_or : (b : Bool) (side : Side) (key : Option Key) (task : Option W) → Goes (closer_holds (dropper side key)) task never (if b then Tries QueueAsk.Close (Purpose.Close (dropper side key)) else ends_by (closer_ending (dropper side key) false))
  lowered_or true side key task = ((refl, inl refl), λ s. refl)
  lowered_or false side key task = closer_has (dropper side key) false task

  pub lowered_has : (side : Side) (key : Option Key) (n : ℕ) (task : Option W) → Goes (closer_holds (dropper side key)) task never (lowered_next side key n)
  lowered_has side key n task = lowered_or (n == 1) side key task

  counted_or : (b : Bool) (side : Side) (m : Making) (n : ℕ) → Goes None None (λ s. same_side s side) (if b then Ends Reply.TooMany (leaving None None) else Works (ListStep.Raise side n m))
  counted_or true side m n = ((refl, refl), λ s. and_false (same_side s side))
  counted_or false side m n = ((refl, inl refl), λ s. (refl, refl))

  counted_has : (side : Side) (m : Making) (n : ℕ) → Goes None None (λ s. same_side s side) (counted_next side m n)
  counted_has side m n = counted_or (nat_lt most n) side m n

  upgraded_or : (b : Bool) (side : Side) (n : ℕ) → Goes None None (λ s. same_side s side) (if b then Ends Reply.NotMade (leaving None None) else counted_next side Making.Upgrade n)
  upgraded_or true side n = ((refl, refl), λ s. and_false (same_side s side))
  upgraded_or false side n = counted_has side Making.Upgrade n

  pub loaded_has : (side : Side) (m : Making) (n : ℕ) → Goes None None (λ s. same_side s side) (loaded_next side m n)
  loaded_has side Making.Clone n = counted_has side Making.Clone n
  loaded_has side Making.Upgrade n = upgraded_or (n == 0) side n

  pub raised_has : (side : Side) (m : Making) (b : Bool) → Has None None (raised_next side m b)
  raised_has side m true = (refl, refl)
  raised_has side m false = (refl, inl refl)

  -- ---- an answer of the queue

  sent_has : (x : QueueReply T) → Goes None None never (sent_next x)
  sent_has (QueueReply.Push (Ok u)) = ((refl, inl refl), λ side. (refl, refl))
  sent_has (QueueReply.Push (Err (PushError.Full m))) = ((refl, refl), λ side. refl)
  sent_has x = ((refl, refl), λ side. refl)

  forced_has : (x : QueueReply T) → Goes None None never (forced_next x)
  forced_has (QueueReply.Force (Ok d)) = ((refl, inl refl), λ side. (refl, refl))
  forced_has (QueueReply.Force (Err (ForcePushError.Closed m))) = ((refl, refl), λ side. refl)
  forced_has x = ((refl, refl), λ side. refl)

  received_has : (x : QueueReply T) → Goes None None never (received_next x)
  received_has (QueueReply.Pop (Ok m)) = ((refl, inl refl), λ side. (refl, refl))
  received_has (QueueReply.Pop (Err PopError.Empty)) = ((refl, refl), λ side. refl)
  received_has x = ((refl, refl), λ side. refl)

  asked_has : (x : QueueReply T) → Goes None None never (asked_next x)
  asked_has (QueueReply.Flag b) = ((refl, refl), λ side. refl)
  asked_has x = ((refl, refl), λ side. refl)

  terminated_has : (x : QueueReply T) → Goes None None never (terminated_next x)
  terminated_has (QueueReply.Flag true) = ((refl, inl refl), λ side. refl)
  terminated_has x = ((refl, refl), λ side. refl)

  upgraded_has : (x : QueueReply T) (side : Side) → Goes None None (λ s. same_side s side) (upgraded_next x side)
  upgraded_has (QueueReply.Flag false) side = ((refl, inl refl), λ s. (refl, refl))
  upgraded_has x side = ((refl, refl), λ s. and_false (same_side s side))

  send_has : (x : QueueReply T) (key : Option Key) (task : W) → IsSent x → Goes (held_on Sends key) (Some task) never (send_next x key task)
  send_has (QueueReply.Push (Ok u)) key task h = ((refl, inl refl), λ side. (refl, refl))
  send_has (QueueReply.Push (Err (PushError.Full m))) key task h = refused_has (Waiting.Send m) key task
  send_has (QueueReply.Push (Err (PushError.Closed m))) key task h = over_has _ None Sends key (Some task)
  send_has (QueueReply.Push (Err (PushError.NoMemory m))) key task h = over_has _ (Some m) Sends key (Some task)
  send_has x key task h = absurd h

  receive_has : (x : QueueReply T) (key : Option Key) (task : W) → IsReceived x → Goes (held_on Receives key) (Some task) never (receive_next x key task)
  receive_has (QueueReply.Pop (Ok m)) key task h = ((refl, inl refl), λ side. (refl, refl))
  receive_has (QueueReply.Pop (Err PopError.Empty)) key task h = refused_has Waiting.Receive key task
  receive_has (QueueReply.Pop (Err PopError.Closed)) key task h = over_has _ None Receives key (Some task)
  receive_has x key task h = absurd h

  stream_has : (x : QueueReply T) (key : Option Key) (task : W) → IsReceived x → Goes (held_on Streams key) (Some task) never (stream_next x key task)
  stream_has (QueueReply.Pop (Ok m)) key task h = ((refl, inl refl), λ side. (refl, refl))
  stream_has (QueueReply.Pop (Err PopError.Empty)) key task h = refused_has Waiting.Stream key task
  stream_has (QueueReply.Pop (Err PopError.Closed)) key task h = over_has _ None Streams key (Some task)
  stream_has x key task h = absurd h

  closing_has : (x : QueueReply T) (key : Option Key) (task : W) → IsFlag x → Goes (held_on Closings key) (Some task) never (closing_next x key task)
  closing_has (QueueReply.Flag true) key task h = over_has _ None Closings key (Some task)
  closing_has (QueueReply.Flag false) key task h = refused_has Waiting.Closing key task
  closing_has x key task h = absurd h

  closed_has : (x : QueueReply T) (c : Closer) → IsClosing x → Goes (closer_holds c) None never (closed_next x c)
  closed_has (QueueReply.Close true) c h = ((refl, inl refl), λ side. (refl, refl))
  closed_has (QueueReply.Close false) c h = closer_has c false None
  closed_has x c h = absurd h

  pub room_has : (n : ℕ) → Goes None None never (room_next n)
  room_has zero = ((refl, refl), λ side. refl)
  room_has (suc n) = ((refl, inl refl), λ side. refl)

  gathered_has : (vs : List T) (n : ℕ) → Goes None None never (gathered_next (with_last vs n))
  gathered_has vs zero = ((refl, inl refl), λ side. (refl, refl))
  gathered_has vs (suc n) = ((refl, inl refl), λ side. refl)

  short_has : (vs : List T) (e : TryRecvError) → Goes None None never (short_next vs e)
  short_has [] e = ((refl, refl), λ side. refl)
  short_has (v ∷ vs) e = ((refl, inl refl), λ side. (refl, refl))

  several_has : (x : QueueReply T) (g : Gathered T) → Goes None None never (several_next x g)
  several_has (QueueReply.Pop (Ok m)) g = gathered_has (g.taken ++ m ∷ []) g.more
  several_has (QueueReply.Pop (Err PopError.Empty)) g = short_has g.taken TryRecvError.Empty
  several_has (QueueReply.Pop (Err PopError.Closed)) g = short_has g.taken TryRecvError.Closed
  several_has x g = ((refl, refl), λ side. refl)

  -- a call of the channel goes on with what it has in hand
  pub answered_has : (f : Phase T) (q : Queue T) (x : ChannelAsk T W) (y : Purpose T W) (a : QueueAsk T) (m : QueueMark) (r : QueueReply T) (s : Stage T) (ds : _) (seen : _)
      → TriesFor x y a ds seen → AnswersTo q a m r s → Goes (purpose_holds y) (purpose_task y) (λ side. is_raising side (Trying f y)) (answered_next y r)
  answered_has f q x Purpose.TrySend a m r s ds seen t h = sent_has r
  answered_has f q x Purpose.ForceSend a m r s ds seen t h = forced_has r
  answered_has f q x Purpose.TryRecv a m r s ds seen t h = received_has r
  answered_has f q x (Purpose.RecvMany g) a m r s ds seen t h = several_has r g
  answered_has f q x Purpose.Ask a m r s ds seen t h = asked_has r
  answered_has f q x Purpose.IsTerminated a m r s ds seen t h = terminated_has r
  answered_has f q x (Purpose.Upgrade side) a m r s ds seen t h = upgraded_has r side
  answered_has f q (ChannelAsk.PollSend v k u) (Purpose.Poll Sends key task) (QueueAsk.Push w) m r s ds seen t h = send_has r key task (push_is q w m r s h)
  answered_has f q (ChannelAsk.PollRecv k u) (Purpose.Poll Receives key task) QueueAsk.Pop m r s ds seen t h = receive_has r key task (pop_is q m r s h)
  answered_has f q (ChannelAsk.PollNext k u) (Purpose.Poll Streams key task) QueueAsk.Pop m r s ds seen t h = stream_has r key task (pop_is q m r s h)
  answered_has f q (ChannelAsk.PollClosed k u) (Purpose.Poll Closings key task) QueueAsk.IsClosed m r s ds seen t h = closing_has r key task (flag_is q m r s h)
  answered_has f q ChannelAsk.Close (Purpose.Close Closer.Call) QueueAsk.Close m r s ds seen t h = closed_has r Closer.Call (closing_is q m r s h)
  answered_has f q ChannelAsk.DropSender (Purpose.Close Closer.Sender) QueueAsk.Close m r s ds seen t h = closed_has r Closer.Sender (closing_is q m r s h)
  answered_has f q (ChannelAsk.DropReceiver k) (Purpose.Close (Closer.Receiver key)) QueueAsk.Close m r s ds seen t h = closed_has r (Closer.Receiver key) (closing_is q m r s h)
  answered_has f q x y a m r s ds seen t h = absurd t
