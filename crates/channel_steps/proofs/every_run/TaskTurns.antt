-- Other tasks put for those of a call: what follows each answer is what followed it, with these tasks.
use Rattle.std.proofs.Common.{◌≡◌, inl, inr, ℕ, zero, suc, ◌==◌, nat_lt, Bool, true, false, if◌then◌else◌, List, [], ◌∷◌, ◌++◌, Option, None, Some, Result, Ok, Err, option_map, refl, sym, ap, subst, ◌∙◌}
use Rattle.concurrent_queue.specs.declared.call.QueueAsk.TheVariants as ask
use Rattle.channel_steps.proofs.every_run.Words.{QueueReply, QueueCall, Key, ListenError, gathered_next, short_next, answered_next, first, kept_by, with_last, leaving, nothing_kept, closer_ending, registered_next, told_all_next, again, Takes, Marked, ChannelAsk, Loan, TryRecvError, Mark, Reply, Purpose, Closer, Ending, ListenerRef, WaitList, Sends, Receives, Streams, Closings, Side, Stage, Trying, Working, Finished, NextStep, Tries, Works, Ends, Waiting, Push, Force, Pop, Flag, asks_listener, most, ends_by, refused_next, dropper, inserted_next, room_next, roomless, TakesRoom, lowered_next, counted_next, loaded_next, raised_next, Making, ask_by, aim_by, turn_by, stage_by}
use Rattle.concurrent_queue.specs.declared.call.QueueReply.TheVariants.{Close}
use Rattle.concurrent_queue.specs.declared.error.PushError.TheVariants as push_error
use Rattle.concurrent_queue.specs.declared.error.ForcePushError.TheVariants as force_error
use Rattle.concurrent_queue.specs.declared.error.PopError.TheVariants as pop_error
use Rattle.channel_calls.specs.Asks.{begins}
use Rattle.channel_calls.specs.declared.ask.ChannelAsk.TheVariants as call
use Rattle.channel_calls.specs.declared.reply.Reply.TheVariants as reply
use Rattle.channel_calls.specs.declared.stage.Purpose.TheVariants as purpose
use Rattle.channel_calls.specs.declared.stage.Making.TheVariants as making
use Rattle.channel_calls.specs.declared.stage.Waiting.TheVariants as waiting
use Rattle.channel_calls.specs.declared.stage.ListStep.TheVariants as work

module _ {T W V : Type 0} (put : W → V) where
  abbrev Same : NextStep T W → NextStep T V → Type 0
  Same a b = turn_by put a ≡ b

  -- ---- after a list or a count

  pub ends_alike : (e : Ending T) → Same (ends_by e) (ends_by e)
  ends_alike e = at e.held where
    at : (o : Option ListenerRef) → Same (elim o [ None ↦ Ends e.reply (leaving None e.message) | Some held ↦ Works (work.Leave e) ])
        (elim o [ None ↦ Ends e.reply (leaving None e.message) | Some held ↦ Works (work.Leave e) ])
    at None = refl
    at (Some held) = refl

  pub told_all_alike : (line : WaitList) (c : Closer) → Same (told_all_next line c) (told_all_next line c)
  told_all_alike Closings c = ends_alike (closer_ending c true)
  told_all_alike w c = refl

  pub inserted_alike : (w : Waiting T) (task : W) (o : Result Key ListenError) → Same (inserted_next w task o) (inserted_next w (put task) o)
  inserted_alike w task (Ok key) = refl
  inserted_alike w task (Err e) = refl

  pub registered_alike : (w : Waiting T) (key : Key) (o : Option W) → Same (registered_next w key o) (registered_next w key (option_map put o))
  registered_alike w key None = refl
  registered_alike w key (Some task) = refl

  pub lowered_alike : (side : Side) (key : Option Key) (n : ℕ) → Same (lowered_next side key n) (lowered_next side key n)
  lowered_alike side key n = at (n == 1) where
    at : (b : Bool) → Same (if b then Tries ask.Close (purpose.Close (dropper side key)) else ends_by (closer_ending (dropper side key) false))
        (if b then Tries ask.Close (purpose.Close (dropper side key)) else ends_by (closer_ending (dropper side key) false))
    at true = refl
    at false = ends_alike (closer_ending (dropper side key) false)

  counted_alike : (side : Side) (m : Making) (n : ℕ) → Same (counted_next side m n) (counted_next side m n)
  counted_alike side m n = at (nat_lt most n) where
    at : (b : Bool) → Same (if b then Ends reply.TooMany nothing_kept else Works (work.Raise side n m)) (if b then Ends reply.TooMany nothing_kept else Works (work.Raise side n m))
    at true = refl
    at false = refl

  pub loaded_alike : (side : Side) (m : Making) (n : ℕ) → Same (loaded_next side m n) (loaded_next side m n)
  loaded_alike side making.Clone n = counted_alike side making.Clone n
  loaded_alike side making.Upgrade n = at (n == 0) where
    at : (b : Bool) → Same (if b then Ends reply.NotMade nothing_kept else counted_next side making.Upgrade n) (if b then Ends reply.NotMade nothing_kept else counted_next side making.Upgrade n)
    at true = refl
    at false = counted_alike side making.Upgrade n

  pub raised_alike : (side : Side) (m : Making) (b : Bool) → Same (raised_next side m b) (raised_next side m b)
  raised_alike side m true = refl
  raised_alike side m false = refl

  room_alike : (n : ℕ) → Same (room_next n) (room_next n)
  room_alike zero = refl
  room_alike (suc n) = refl

  pub takes_room : (n : ℕ) (turn : NextStep T W) → TakesRoom n turn → TakesRoom n (turn_by put turn)
  takes_room n turn (inl is) = inl (ap (λ (x : NextStep T W). turn_by put x) is ∙ room_alike n)
  takes_room n turn (inr (more, is)) = inr (more, ap (λ (x : NextStep T W). turn_by put x) is)

  pub room_taken : (n : ℕ) (turn : NextStep T V) → TakesRoom n turn → (x : NextStep T W) × TakesRoom n x × Same x turn
  room_taken n turn (inl is) = (room_next n, inl refl, room_alike n ∙ sym is)
  room_taken n turn (inr (more, is)) = (roomless, inr (more, refl), sym is)

  -- ---- after an answer of the queue

  refused_alike : (w : Waiting T) (key : Option Key) (task : W) → Same (refused_next w key task) (refused_next w key (put task))
  refused_alike w None task = refl
  refused_alike w (Some key) task = refl

  gathered_alike : (taken : List T) (more : ℕ) → Same (gathered_next (with_last taken more)) (gathered_next (with_last taken more))
  gathered_alike taken zero = refl
  gathered_alike taken (suc n) = refl

  short_alike : (taken : List T) (e : TryRecvError) → Same (short_next taken e) (short_next taken e)
  short_alike [] e = refl
  short_alike (v ∷ vs) e = refl

  pub answered_alike : (a : Purpose T W) (x : QueueReply T) → Same (answered_next a x) (answered_next (aim_by put a) x)
  answered_alike purpose.TrySend (Push (Err (push_error.Full m))) = refl
  answered_alike purpose.ForceSend (Force (Err (force_error.Closed m))) = refl
  answered_alike purpose.TryRecv (Pop (Err pop_error.Empty)) = refl
  answered_alike (purpose.RecvMany g) (Pop (Ok m)) = gathered_alike (g.taken ++ m ∷ []) g.more
  answered_alike (purpose.RecvMany g) (Pop (Err pop_error.Empty)) = short_alike g.taken _
  answered_alike (purpose.RecvMany g) (Pop (Err pop_error.Closed)) = short_alike g.taken _
  answered_alike (purpose.Poll Sends key task) (Push (Err (push_error.Full m))) = refused_alike (waiting.Send m) key task
  answered_alike (purpose.Poll Sends key task) (Push (Err (push_error.Closed m))) = ends_alike _
  answered_alike (purpose.Poll Sends key task) (Push (Err (push_error.NoMemory m))) = ends_alike _
  answered_alike (purpose.Poll Receives key task) (Pop (Err pop_error.Empty)) = refused_alike waiting.Receive key task
  answered_alike (purpose.Poll Receives key task) (Pop (Err pop_error.Closed)) = ends_alike _
  answered_alike (purpose.Poll Streams key task) (Pop (Err pop_error.Empty)) = refused_alike waiting.Stream key task
  answered_alike (purpose.Poll Streams key task) (Pop (Err pop_error.Closed)) = ends_alike _
  answered_alike (purpose.Poll Closings key task) (Flag true) = ends_alike _
  answered_alike (purpose.Poll Closings key task) (Flag false) = refused_alike waiting.Closing key task
  answered_alike (purpose.Close c) (Close false) = ends_alike (closer_ending c false)
  answered_alike purpose.Ask (Flag b) = refl
  answered_alike purpose.IsTerminated (Flag true) = refl
  answered_alike (purpose.Upgrade side) (Flag true) = refl
  answered_alike a x = refl

  -- ---- the first turn

  asks_alike : (w : Waiting T) (key : Option Key) (task : W) → Same (asks_listener w key task) (asks_listener w key (put task))
  asks_alike w None task = refl
  asks_alike w (Some key) task = refl

  begins_alike : (w : Waiting T) (l : Loan) (task : W) → Same (begins w l task) (begins w l (put task))
  begins_alike w l task = at l.asks_first where
    at : (b : Bool) → Same (if b then asks_listener w l.key task else again w l.key task) (if b then asks_listener w l.key (put task) else again w l.key (put task))
    at true = asks_alike w l.key task
    at false = refl

  pub first_alike : (a : ChannelAsk T W) → Same (first a) (first (ask_by put a))
  first_alike (call.PollSend m l task) = begins_alike (waiting.Send m) l task
  first_alike (call.PollRecv l task) = begins_alike waiting.Receive l task
  first_alike (call.PollClosed key task) = refl
  first_alike (call.PollNext key task) = asks_alike waiting.Stream key task
  first_alike _ = refl

  -- ---- a turn is taken

  pub kept_alike : {Q : Type 0} (s : Stage Q T W) → kept_by (stage_by put s) ≡ kept_by s
  kept_alike (Trying q a) = refl
  kept_alike s = refl

  abbrev stage_so : Stage (QueueCall T) T W → Stage (QueueCall T) T V
  stage_so s = stage_by put s

  pub takes : (turn : NextStep T W) (next : Stage (QueueCall T) T W) (r : Option (Reply T)) → Takes turn next r → Takes (turn_by put turn) (stage_by put next) r
  takes (Tries x a) next r (q, starts, asking, none, is) = (q, starts, asking, none, ap stage_so is)
  takes (Works w) next r (none, is) = (none, ap stage_so is)
  takes (Ends x kept) next r (some, is) = (some, ap stage_so is)

  pub taken : (turn : NextStep T W) (next : Stage (QueueCall T) T V) (r : Option (Reply T)) → Takes (turn_by put turn) next r
      → (s : Stage (QueueCall T) T W) × Takes turn s r × (stage_by put s ≡ next)
  taken (Tries x a) next r (q, starts, asking, none, is) = (Trying q a, (q, starts, asking, none, refl), sym is)
  taken (Works w) next r (none, is) = (Working w, (none, refl), sym is)
  taken (Ends x kept) next r (some, is) = (Finished kept, (some, refl), sym is)

  -- ---- after a step with this mark

  module _ (m0 m : Mark) (r : Option (Reply T)) (turn : NextStep T W) (other : NextStep T V) (alike : Same turn other) where
    pub marks : (next : Stage (QueueCall T) T W) → Marked m0 turn m next r → Marked m0 other m (stage_by put next) r
    marks next (is, t) = (is, subst (λ (x : NextStep T V). Takes x (stage_by put next) r) alike (takes turn next r t))

    pub marked : (next : Stage (QueueCall T) T V) → Marked m0 other m next r → (s : Stage (QueueCall T) T W) × Marked m0 turn m s r × (stage_by put s ≡ next)
    marked next (is, t) =
        let s = taken turn next r (subst (λ (x : NextStep T V). Takes x next r) (sym alike) t) in
        (s.0, (is, s.1), s.2)
