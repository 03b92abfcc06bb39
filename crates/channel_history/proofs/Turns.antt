-- What each turn of a call is that comes of its steps: the queue's call that it begins is sound, and a handle is made where one is wanted.
use Rattle.std.proofs.Common.{◌≡◌, ◌≢◌, ◌⊎◌, inl, inr, ℕ, zero, suc, ◌==◌, nat_lt, Bool, true, false, List, [], ◌∷◌, if◌then◌else◌, refl, sym, ap, ◌∙◌, subst}
use Rattle.std.specs.Prelude.{Option, None, Some, Result, Ok, Err}
use Rattle.concurrent_queue.specs.Bridge.{asking}
use Rattle.concurrent_queue.specs.Replies.{MayAnswer, MayCall}
use Rattle.concurrent_queue.specs.declared.call.QueueAsk.TheVariants as queue_ask
use Rattle.concurrent_queue.specs.declared.call.QueueMark.TheVariants.{Nothing}
use Rattle.concurrent_queue.specs.declared.call.QueueReply.{QueueReply}
use Rattle.concurrent_queue.specs.declared.call.QueueReply.TheVariants.{Push, Force, Pop, Close, Flag, Count, Cap}
use Rattle.concurrent_queue.specs.declared.cells.QueueForm.{QueueForm}
use Rattle.concurrent_queue.specs.declared.error.ForcePushError.TheVariants as force_error
use Rattle.concurrent_queue.specs.declared.error.PopError.TheVariants as pop_error
use Rattle.concurrent_queue.specs.declared.error.PushError.TheVariants as push_error
use Rattle.concurrent_queue.specs.declared.queue_call.CallState.{CallState}
use Rattle.concurrent_queue.specs.declared.queue_call.QueueCall.{QueueCall}
use Rattle.concurrent_queue.specs.history.Calls.{AsksCells}
use Rattle.concurrent_queue.proofs.FitsFacts.{starts}
use Rattle.event_listener.specs.declared.error.ListenError.{ListenError}
use Rattle.event_listener.specs.declared.key.Key.{Key}
use Rattle.channel_calls.specs.Answered.{answered_next, gathered_next, short_next}
use Rattle.channel_calls.specs.Asks.{first, asks_listener, begins}
use Rattle.channel_calls.specs.Deeds.{Deed}
use Rattle.channel_calls.specs.Several.{Gathered, with_one}
use Rattle.channel_calls.specs.Stands.{NotesDeed}
use Rattle.channel_calls.specs.Turns.{most, leaving, nothing_kept, dropper, closer_ending, ends_by, refused_next, told_all_next, TakesRoom, room_next, lowered_next, counted_next, loaded_next, inserted_next, registered_next, answer_of, again}
use Rattle.channel_calls.specs.Walks.{Takes, WorkMakes}
use Rattle.channel_calls.specs.declared.ask.ChannelAsk.{ChannelAsk}
use Rattle.channel_calls.specs.declared.ask.ChannelAsk.TheVariants as ask
use Rattle.channel_calls.specs.declared.ask.Loan.{Loan}
use Rattle.channel_calls.specs.declared.error.TryRecvError.{TryRecvError}
use Rattle.channel_calls.specs.declared.mark.Mark.{Mark}
use Rattle.channel_calls.specs.declared.reply.Reply.{Reply}
use Rattle.channel_calls.specs.declared.reply.Reply.TheVariants as reply
use Rattle.channel_calls.specs.declared.stage.Closer.{Closer}
use Rattle.channel_calls.specs.declared.stage.Closer.TheVariants as closer
use Rattle.channel_calls.specs.declared.stage.Ending.{Ending}
use Rattle.channel_calls.specs.declared.stage.ListenerRef.{ListenerRef}
use Rattle.channel_calls.specs.declared.stage.ListStep.{ListStep}
use Rattle.channel_calls.specs.declared.stage.ListStep.TheVariants as work
use Rattle.channel_calls.specs.declared.stage.Making.{Making}
use Rattle.channel_calls.specs.declared.stage.Making.TheVariants.{Clone, Upgrade}
use Rattle.channel_calls.specs.declared.stage.NextStep.{NextStep}
use Rattle.channel_calls.specs.declared.stage.NextStep.TheVariants.{Tries, Works, Ends}
use Rattle.channel_calls.specs.declared.stage.Purpose.{Purpose}
use Rattle.channel_calls.specs.declared.stage.Purpose.TheVariants as purpose
use Rattle.channel_calls.specs.declared.stage.Side.{Side}
use Rattle.channel_calls.specs.declared.stage.Stage.{Stage}
use Rattle.channel_calls.specs.declared.stage.Stage.TheVariants.{Trying, Working, Finished}
use Rattle.channel_calls.specs.declared.stage.WaitList.{WaitList}
use Rattle.channel_calls.specs.declared.stage.WaitList.TheVariants.{Sends, Receives, Streams, Closings}
use Rattle.channel_calls.specs.declared.stage.Waiting.{Waiting}
use Rattle.channel_calls.specs.declared.stage.Waiting.TheVariants as waiting
use Rattle.channel_history.specs.Cells.{Sound}
use Rattle.channel_history.specs.InHand.{IsOfKind}
use Rattle.channel_history.specs.WholeCalls.{stage_of, handle_wanted, wanted_by, wanted_at, wanted, if_made}

none_made : {T : Type 0} → (r : Reply T) → if_made r [] ≡ []
none_made reply.Made = refl
none_made r = refl

module _ (T W : Type 0) (form : QueueForm) where
  -- a turn of a call that is to make these handles
  abbrev pub TurnsOn : List Side → NextStep T W → Type 0
  TurnsOn sides (Tries a p) = AsksCells a × ((x : QueueReply T) → MayAnswer form a x → IsOfKind p x) × (wanted_by p ≡ sides)
  TurnsOn sides (Works w) = wanted_at w ≡ sides
  TurnsOn sides (Ends r kept) = if_made r sides ≡ []

  -- ---- where a turn leads

  pub sound_taken : (sides : List Side) (turn : NextStep T W) (next : Stage (QueueCall T) T W) (answer : Option (Reply T)) → TurnsOn sides turn → Takes turn next answer → Sound form next
  sound_taken sides (Tries a p) next answer (cells, kind, wants) (call, begins, asks, none, is) =
      subst (λ (z : Stage (QueueCall T) T W). Sound form z) (sym is) (a, asks, cells, λ x may. kind x (subst (λ (z : CallState T). MayCall form z x) asks may))
  sound_taken sides (Works w) next answer turns (none, is) = subst (λ (z : Stage (QueueCall T) T W). Sound form z) (sym is) tt
  sound_taken sides (Ends r kept) next answer turns (some, is) = subst (λ (z : Stage (QueueCall T) T W). Sound form z) (sym is) tt

  -- it still wants them, or has ended and none was made by this turn
  abbrev pub WantsOn : List Side → Stage (QueueCall T) T W → Option (Reply T) → Type 0
  WantsOn sides next None = wanted next ≡ sides
  WantsOn sides next (Some r) = if_made r sides ≡ []

  pub wants_taken : (sides : List Side) (turn : NextStep T W) (next : Stage (QueueCall T) T W) (answer : Option (Reply T)) → TurnsOn sides turn → Takes turn next answer → WantsOn sides next answer
  wants_taken sides (Tries a p) next answer (cells, kind, wants) (call, begins, asks, none, is) =
      subst (λ (z : Option (Reply T)). WantsOn sides next z) (sym none) (ap (λ (z : Stage (QueueCall T) T W). wanted z) is ∙ wants)
  wants_taken sides (Works w) next answer wants (none, is) = subst (λ (z : Option (Reply T)). WantsOn sides next z) (sym none) (ap (λ (z : Stage (QueueCall T) T W). wanted z) is ∙ wants)
  wants_taken sides (Ends r kept) next answer makes (some, is) = subst (λ (z : Option (Reply T)). WantsOn sides next z) (sym some) makes

  pub takes_some : (turn : NextStep T W) → (next : Stage (QueueCall T) T W) × (answer : Option (Reply T)) × Takes turn next answer
  takes_some (Tries a p) = (Trying (asking a) p, None, (asking a, starts a Nothing, refl, refl, refl))
  takes_some (Works w) = (Working w, None, (refl, refl))
  takes_some (Ends r kept) = (Finished kept, Some r, (refl, refl))

  pub takes_on : (turn : NextStep T W) → answer_of turn ≡ None → Takes turn (stage_of turn) None
  takes_on (Tries a p) none = (asking a, starts a Nothing, refl, refl, refl)
  takes_on (Works w) none = (refl, refl)
  takes_on (Ends r kept) none = absurd cc

  -- ---- the turns

  ends_on : (e : Ending T) → TurnsOn [] (ends_by e)
  ends_on e = by e.held where
    by : (o : Option ListenerRef) → TurnsOn [] (elim o [ None ↦ Ends e.reply (leaving None e.message) | Some held ↦ Works (work.Leave e) ])
    by None = none_made e.reply
    by (Some held) = refl

  refused_on : (w : Waiting T) (key : Option Key) (task : W) → TurnsOn [] (refused_next w key task)
  refused_on w None task = refl
  refused_on w (Some key) task = refl

  push_kind : (m : T) (key : Option Key) (task : W) (x : QueueReply T) → MayAnswer form (queue_ask.Push m) x → IsOfKind (purpose.Poll Sends key task) x
  push_kind m key task (Push r) may = tt
  push_kind m key task x may = absurd may

  pop_kind : (key : Option Key) (task : W) (x : QueueReply T) → MayAnswer form queue_ask.Pop x → IsOfKind (purpose.Poll Receives key task) x × IsOfKind (purpose.Poll Streams key task) x
  pop_kind key task (Pop r) may = (tt, tt)
  pop_kind key task x may = absurd may

  flag_kind : (key : Option Key) (task : W) (x : QueueReply T) → MayAnswer form queue_ask.IsClosed x → IsOfKind (purpose.Poll Closings key task) x
  flag_kind key task (Flag r) may = tt
  flag_kind key task x may = absurd may

  close_kind : (c : Closer) (x : QueueReply T) → MayAnswer form queue_ask.Close x → IsOfKind {W = W} (purpose.Close c) x
  close_kind c (Close b) may = tt
  close_kind c x may = absurd may

  again_on : (w : Waiting T) (key : Option Key) (task : W) → TurnsOn [] (again w key task)
  again_on (waiting.Send m) key task = (tt, push_kind m key task, refl)
  again_on waiting.Receive key task = (tt, λ x may. (pop_kind key task x may).0, refl)
  again_on waiting.Stream key task = (tt, λ x may. (pop_kind key task x may).1, refl)
  again_on waiting.Closing key task = (tt, flag_kind key task, refl)

  gathered_on : (r : Result (Gathered T) (List T)) → TurnsOn [] (gathered_next r)
  gathered_on (Ok g) = (tt, (λ x may. tt), refl)
  gathered_on (Err vs) = refl

  short_on : (vs : List T) (e : TryRecvError) → TurnsOn [] (short_next vs e)
  short_on [] e = refl
  short_on (v ∷ vs) e = refl

  polled_on : (line : WaitList) (key : Option Key) (task : W) (x : QueueReply T) → TurnsOn [] (answered_next (purpose.Poll line key task) x)
  polled_on Sends key task (Push (Ok u)) = refl
  polled_on Sends key task (Push (Err (push_error.Full m))) = refused_on (waiting.Send m) key task
  polled_on Sends key task (Push (Err (push_error.Closed m))) = ends_on _
  polled_on Sends key task (Push (Err (push_error.NoMemory m))) = ends_on _
  polled_on Sends key task x = refl
  polled_on Receives key task (Pop (Ok m)) = refl
  polled_on Receives key task (Pop (Err pop_error.Empty)) = refused_on waiting.Receive key task
  polled_on Receives key task (Pop (Err pop_error.Closed)) = ends_on _
  polled_on Receives key task x = refl
  polled_on Streams key task (Pop (Ok m)) = refl
  polled_on Streams key task (Pop (Err pop_error.Empty)) = refused_on waiting.Stream key task
  polled_on Streams key task (Pop (Err pop_error.Closed)) = ends_on _
  polled_on Streams key task x = refl
  polled_on Closings key task (Flag true) = ends_on _
  polled_on Closings key task (Flag false) = refused_on waiting.Closing key task
  polled_on Closings key task x = refl

  pub answered_on : (p : Purpose T W) (x : QueueReply T) → TurnsOn (wanted_by p) (answered_next p x)
  answered_on purpose.TrySend (Push (Ok u)) = refl
  answered_on purpose.TrySend (Push (Err (push_error.Full m))) = refl
  answered_on purpose.TrySend (Push (Err (push_error.Closed m))) = refl
  answered_on purpose.TrySend (Push (Err (push_error.NoMemory m))) = refl
  answered_on purpose.TrySend x = refl
  answered_on purpose.ForceSend (Force (Ok d)) = refl
  answered_on purpose.ForceSend (Force (Err (force_error.Closed m))) = refl
  answered_on purpose.ForceSend (Force (Err (force_error.NoMemory m))) = refl
  answered_on purpose.ForceSend x = refl
  answered_on purpose.TryRecv (Pop (Ok m)) = refl
  answered_on purpose.TryRecv (Pop (Err pop_error.Empty)) = refl
  answered_on purpose.TryRecv (Pop (Err pop_error.Closed)) = refl
  answered_on purpose.TryRecv x = refl
  answered_on (purpose.RecvMany g) (Pop (Ok m)) = gathered_on (with_one g m)
  answered_on (purpose.RecvMany g) (Pop (Err pop_error.Empty)) = short_on g.taken _
  answered_on (purpose.RecvMany g) (Pop (Err pop_error.Closed)) = short_on g.taken _
  answered_on (purpose.RecvMany g) x = refl
  answered_on (purpose.Poll line key task) x = polled_on line key task x
  answered_on (purpose.Close c) (Close true) = refl
  answered_on (purpose.Close c) (Close false) = ends_on (closer_ending c false)
  answered_on (purpose.Close c) x = refl
  answered_on purpose.Ask (Flag b) = refl
  answered_on purpose.Ask (Count n) = refl
  answered_on purpose.Ask (Cap c) = refl
  answered_on purpose.Ask x = refl
  answered_on purpose.IsTerminated (Flag true) = (tt, (λ x may. tt), refl)
  answered_on purpose.IsTerminated (Flag false) = refl
  answered_on purpose.IsTerminated x = refl
  answered_on (purpose.Upgrade side) (Flag true) = refl
  answered_on (purpose.Upgrade side) (Flag false) = refl
  answered_on (purpose.Upgrade side) x = refl

  told_on : (line : WaitList) (c : Closer) → TurnsOn [] (told_all_next line c)
  told_on Sends c = refl
  told_on Receives c = refl
  told_on Streams c = refl
  told_on Closings c = ends_on (closer_ending c true)

  room_on : (n : ℕ) (turn : NextStep T W) → TakesRoom n turn → TurnsOn [] turn
  room_on n turn (inl e) = subst (λ (z : NextStep T W). TurnsOn [] z) (sym e) (by n) where
    by : (k : ℕ) → TurnsOn [] (room_next k)
    by zero = refl
    by (suc k) = (tt, (λ x may. tt), refl)
  room_on n turn (inr (some, e)) = subst (λ (z : NextStep T W). TurnsOn [] z) (sym e) refl

  lowered_on : (side : Side) (key : Option Key) (n : ℕ) → TurnsOn [] (lowered_next side key n)
  lowered_on side key n = by (n == 1) where
    by : (b : Bool) → TurnsOn [] (if b then Tries queue_ask.Close (purpose.Close (dropper side key)) else ends_by (closer_ending (dropper side key) false))
    by true = (tt, close_kind (dropper side key), refl)
    by false = ends_on (closer_ending (dropper side key) false)

  counted_on : (side : Side) (making : Making) (n : ℕ) → TurnsOn (side ∷ []) (counted_next side making n)
  counted_on side making n = by (nat_lt most n) where
    by : (b : Bool) → TurnsOn (side ∷ []) (if b then Ends reply.TooMany nothing_kept else Works (work.Raise side n making))
    by true = refl
    by false = refl

  loaded_on : (side : Side) (making : Making) (n : ℕ) → TurnsOn (side ∷ []) (loaded_next side making n)
  loaded_on side Clone n = counted_on side Clone n
  loaded_on side Upgrade n = by (n == 0) where
    by : (b : Bool) → TurnsOn (side ∷ []) (if b then Ends reply.NotMade nothing_kept else counted_next side Upgrade n)
    by true = refl
    by false = counted_on side Upgrade n

  inserted_on : (w : Waiting T) (task : W) (o : Result Key ListenError) → TurnsOn [] (inserted_next w task o)
  inserted_on w task (Ok key) = again_on w (Some key) task
  inserted_on w task (Err e) = none_made _

  registered_on : (w : Waiting T) (key : Key) (o : Option W) → TurnsOn [] (registered_next w key o)
  registered_on w key (Some task) = again_on w None task
  registered_on w key None = none_made _

  -- ---- a step on a list or a count

  -- the turn that it takes; but a raise that hit answers that a handle was made
  abbrev pub WorkTurns : ListStep T W → Stage (QueueCall T) T W → Option (Reply T) → Type 0
  WorkTurns w next r =
      ((turn : NextStep T W) × TurnsOn (wanted_at w) turn × Takes turn next r)
      ⊎ ((side : Side) × (n : ℕ) × (making : Making) × (w ≡ work.Raise side n making) × (r ≡ Some reply.Made) × (next ≡ Finished nothing_kept))

  pub work_turns : (w : ListStep T W) (o : Option (Deed T W)) (m : Mark) (next : Stage (QueueCall T) T W) (r : Option (Reply T)) → WorkMakes NotesDeed w None o m next r → WorkTurns w next r
  work_turns (work.TellReceive e) o m next r (names, h, (i, t)) = inl (Works (work.TellStreams e), refl, t)
  work_turns (work.TellStreams e) o m next r (names, h, (i, t)) = inl (ends_by e, ends_on e, t)
  work_turns (work.TellSend e) o m next r (names, h, (i, t)) = inl (ends_by e, ends_on e, t)
  work_turns (work.TellSends n e) o m next r (names, h, (i, t)) = inl (ends_by e, ends_on e, t)
  work_turns (work.TakeRoom n) o m next r (turn, h, room, (i, t)) = inl (turn, room_on n turn room, t)
  work_turns (work.TellAll line c) o m next r (names, h, (i, t)) = inl (told_all_next line c, told_on line c, t)
  work_turns (work.Insert w task) o m next r (x, h, (i, t)) = inl (inserted_next w task x, inserted_on w task x, t)
  work_turns (work.Register w key task) o m next r (x, h, (i, t)) = inl (registered_next w key x, registered_on w key x, t)
  work_turns (work.Leave e) o m next r (h, (i, t)) = inl (Ends e.reply (leaving None e.message), none_made e.reply, t)
  work_turns (work.Lower side key) o m next r (n, h, (i, t)) = inl (lowered_next side key n, lowered_on side key n, t)
  work_turns (work.Count side) o m next r (n, h, (i, t)) = inl (Ends (reply.Count n) nothing_kept, refl, t)
  work_turns (work.Load side making) o m next r (n, h, (i, t)) = inl (loaded_next side making n, loaded_on side making n, t)
  work_turns (work.Raise side n making) o m next r (true, h, (i, t)) = inr (side, n, making, refl, t.0, t.1)
  work_turns (work.Raise side n making) o m next r (false, h, (i, t)) = inl (Works (work.Load side making), refl, t)

  -- ---- the first turn

  asks_on : (w : Waiting T) (key : Option Key) (task : W) → TurnsOn [] (asks_listener w key task) × (answer_of (asks_listener w key task) ≡ None)
  asks_on w None task = (again_on w None task, refl)
  asks_on w (Some key) task = (refl, refl)

  begins_on : (w : Waiting T) (l : Loan) (task : W) → TurnsOn [] (begins w l task) × (answer_of (begins w l task) ≡ None)
  begins_on w l task = by l.asks_first where
    by : (b : Bool) → let turn = if b then asks_listener w l.key task else again w l.key task in TurnsOn [] turn × (answer_of turn ≡ None)
    by true = asks_on w l.key task
    by false = (again_on w l.key task, refl)

  pub first_on : (a : ChannelAsk T W) → a ≢ ask.Capacity → TurnsOn (handle_wanted a) (first a) × (answer_of (first a) ≡ None)
  first_on (ask.TrySend m) asks = ((tt, (λ x may. tt), refl), refl)
  first_on (ask.ForceSend m) asks = ((tt, (λ x may. tt), refl), refl)
  first_on ask.TryRecv asks = ((tt, (λ x may. tt), refl), refl)
  first_on ask.Close asks = ((tt, close_kind closer.Call, refl), refl)
  first_on (ask.PollSend m l task) asks = begins_on (waiting.Send m) l task
  first_on (ask.PollRecv l task) asks = begins_on waiting.Receive l task
  first_on (ask.PollClosed key task) asks = (again_on waiting.Closing key task, refl)
  first_on (ask.PollNext key task) asks = asks_on waiting.Stream key task
  first_on (ask.Upgrade side) asks = ((tt, (λ x may. tt), refl), refl)
  first_on ask.IsClosed asks = ((tt, (λ x may. tt), refl), refl)
  first_on ask.IsEmpty asks = ((tt, (λ x may. tt), refl), refl)
  first_on ask.IsFull asks = ((tt, (λ x may. tt), refl), refl)
  first_on ask.Len asks = ((tt, (λ x may. tt), refl), refl)
  first_on ask.IsTerminated asks = ((tt, (λ x may. tt), refl), refl)
  first_on ask.Capacity asks = absurd (asks refl)
  first_on a asks = (refl, refl)
