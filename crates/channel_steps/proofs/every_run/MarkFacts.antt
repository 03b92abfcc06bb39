-- Of what is known of a call under way follows which marks it has made.
use Rattle.std.proofs.Common.{arith, ◌≡◌, ◌≤◌, ◌+◌, ℕ, length, true, false, List, [], ◌∷◌, ◌++◌, None, Some, Ok, Err, inl, inr, ◌⊎◌, refl, sym, ap, ◌∙◌, subst, append-nil}
use Rattle.channel_steps.proofs.every_run.Words.{trying, displaced, appended, taken, QueueAsk, Ready, Pending, up, down, Channel, ChannelAsk, Mark, Append, Take, TakeDisplaced, Replace, Close, Reply, Purpose, Sends, Receives, Streams, Closings, Side, Senders, Receivers, Stage, Trying, Working, Finished, ListStep, TellReceive, TellStreams, TellSend, TellSends, TellAll, Leave, Ending, closer_ending, Phase, Row, TriesFor, TryAt, TriesAt, WorkAt, StageAt, MarkedMoment, Appended, Took, TookAll, Replaced, Displaced, ClosedIt, ActiveCall, AllKnown, read, measured, HasTaken, Answered, MadeRoom, CountRaised, Upgraded, LeftLast, Dropped, AreTakings, AreMarksOf, marks_of, BeginsItsMarks}
use Rattle.concurrent_queue.specs.Queue as queue
use Rattle.concurrent_queue.specs.declared.call.QueueAsk.TheVariants as q
use Rattle.channel_calls.specs.declared.ask.ChannelAsk.TheVariants as ask
use Rattle.channel_calls.specs.declared.error.Refused.TheVariants as refused
use Rattle.channel_calls.specs.declared.error.TrySendError.TheVariants as try_send_error
use Rattle.channel_calls.specs.declared.error.TryRecvError.TheVariants as try_recv_error
use Rattle.channel_calls.specs.declared.reply.Reply.TheVariants as reply
use Rattle.channel_calls.specs.declared.stage.Purpose.TheVariants as purpose
use Rattle.channel_calls.specs.declared.stage.Closer.TheVariants as closer
use Rattle.channel_steps.specs.every_run.Ends.{Each}

-- takings, so many at most
abbrev FewTakings : ℕ → List Mark → Type 0
FewTakings n ms = AreTakings ms × (length ms ≤ n)

one_taking : (ms : List Mark) → (ms ≡ []) ⊎ (ms ≡ Take ∷ []) → FewTakings 1 ms
one_taking ms (inl e) = subst (λ (xs : List Mark). FewTakings 1 xs) (sym e) (tt, omega arith)
one_taking ms (inr e) = subst (λ (xs : List Mark). FewTakings 1 xs) (sym e) ((refl, tt), omega arith)

module _ {T : Type 0} where
  -- a question marks nothing
  abbrev IsQuestion : QueueAsk T → Type 0
  IsQuestion q.IsClosed = Unit {0}
  IsQuestion q.IsEmpty = Unit {0}
  IsQuestion q.IsFull = Unit {0}
  IsQuestion q.Len = Unit {0}
  IsQuestion q.Capacity = Unit {0}
  IsQuestion a = ⊥

module _ {T W : Type 0} where
  abbrev Begun : ChannelAsk T W → List (MarkedMoment T W) → Type 0
  Begun a ds = (later : List Mark) × AreMarksOf a (marks_of ds ++ later)

  -- ---- which marks these are

  no_marks : (ds : List (MarkedMoment T W)) → ds ≡ [] → marks_of ds ≡ []
  no_marks ds e = ap (λ (x : List (MarkedMoment T W)). marks_of x) e

  appended_marks : (ds : List (MarkedMoment T W)) → Appended ds → marks_of ds ≡ Append ∷ []
  appended_marks (d ∷ []) h = ap (λ (m : Mark). m ∷ []) h.0
  appended_marks x h = absurd h

  took_marks : (ds : List (MarkedMoment T W)) (v : T) → Took ds v → marks_of ds ≡ Take ∷ []
  took_marks (d ∷ []) v h = ap (λ (m : Mark). m ∷ []) h.0
  took_marks x v h = absurd h

  no_takings : (n : ℕ) (ds : List (MarkedMoment T W)) → ds ≡ [] → FewTakings n (marks_of ds)
  no_takings n ds e = subst (λ (ms : List Mark). FewTakings n ms) (sym (no_marks ds e)) (tt, omega arith)

  all_takings : (n : ℕ) (ds : List (MarkedMoment T W)) (vs : List T) → TookAll ds vs → length vs ≤ n → FewTakings n (marks_of ds)
  all_takings n [] [] h few = (tt, few)
  all_takings n (d ∷ ds) (v ∷ vs) h few =
      let rest = all_takings (length vs) ds vs h.2 (omega arith) in ((h.0, rest.0), let less = rest.1 in omega (arith, less, few))
  all_takings n x y h few = absurd h

  more_takings : (n : ℕ) (before mine : List (MarkedMoment T W)) (vs : List T) → TookAll before vs → FewTakings 1 (marks_of mine) → length vs + 1 ≤ n
      → FewTakings n (marks_of (before ++ mine))
  more_takings n [] mine [] h one few = (one.0, let less = one.1 in omega (arith, less, few))
  more_takings n (d ∷ before) mine (v ∷ vs) h one few =
      let rest = more_takings (length vs + 1) before mine vs h.2 one (omega arith) in
      ((h.0, rest.0), let less = rest.1 in omega (arith, less, few))
  more_takings n x mine y h one few = absurd h

  replaced_marks : (ds : List (MarkedMoment T W)) (v : T) → Replaced ds v → marks_of ds ≡ Replace ∷ []
  replaced_marks (d ∷ []) v h = ap (λ (m : Mark). m ∷ []) h.0
  replaced_marks x v h = absurd h

  room_marks : (ds : List (MarkedMoment T W)) (v : T) → MadeRoom ds v → marks_of ds ≡ TakeDisplaced ∷ []
  room_marks (d ∷ []) v h = ap (λ (m : Mark). m ∷ []) h.0
  room_marks x v h = absurd h

  displaced_marks : (ds : List (MarkedMoment T W)) (v : T) → Displaced ds v → marks_of ds ≡ TakeDisplaced ∷ Append ∷ []
  displaced_marks (d ∷ e ∷ []) v h = ap (λ (m : Mark). m ∷ e.mark ∷ []) h.0.0 ∙ ap (λ (m : Mark). TakeDisplaced ∷ m ∷ []) h.1
  displaced_marks x v h = absurd h

  closed_marks : (ds : List (MarkedMoment T W)) → ClosedIt ds → marks_of ds ≡ Close ∷ []
  closed_marks (d ∷ []) h = ap (λ (m : Mark). m ∷ []) h.0
  closed_marks x h = absurd h

  raised_marks : (side : Side) (ds : List (MarkedMoment T W)) → CountRaised side ds → marks_of ds ≡ up side ∷ []
  raised_marks side (d ∷ []) h = ap (λ (m : Mark). m ∷ []) h.0
  raised_marks side x h = absurd h

  upgraded_marks : (side : Side) (ds : List (MarkedMoment T W)) → Upgraded side ds → marks_of ds ≡ up side ∷ []
  upgraded_marks side (d ∷ []) h = ap (λ (m : Mark). m ∷ []) h.0
  upgraded_marks side x h = absurd h

  left_marks : (side : Side) (ds : List (MarkedMoment T W)) (seen : List (Channel T W)) → LeftLast side ds seen → marks_of ds ≡ down side ∷ []
  left_marks side (d ∷ []) seen h = ap (λ (m : Mark). m ∷ []) h.0
  left_marks side x seen h = absurd h

  dropped_marks : (side : Side) (ds : List (MarkedMoment T W)) (seen : List (Channel T W)) → Dropped side ds seen
      → (marks_of ds ≡ down side ∷ []) ⊎ (marks_of ds ≡ down side ∷ Close ∷ [])
  dropped_marks side (d ∷ []) seen h = inl (ap (λ (m : Mark). m ∷ []) h.0)
  dropped_marks side (d ∷ e ∷ []) seen h = inr (ap (λ (m : Mark). m ∷ e.mark ∷ []) h.0 ∙ ap (λ (m : Mark). down side ∷ m ∷ []) h.2)
  dropped_marks side x seen h = absurd h

  -- ---- a call that has answered

  row_marks : (a : ChannelAsk T W) (ds : List (MarkedMoment T W)) (seen : List (Channel T W)) (r : Reply T) → Row a ds seen r
      → AreMarksOf a (marks_of ds)
  row_marks (ask.TrySend m) ds seen (reply.TrySend (Ok u)) h = inr (appended_marks ds h)
  row_marks (ask.TrySend m) ds seen (reply.TrySend (Err (refused.Plain (try_send_error.Full v)))) h = inl (no_marks ds h.1)
  row_marks (ask.TrySend m) ds seen (reply.TrySend (Err (refused.Plain (try_send_error.Closed v)))) h = inl (no_marks ds h.1)
  row_marks (ask.TrySend m) ds seen (reply.TrySend (Err (refused.NoMemory v))) h = inl (no_marks ds h.1)
  row_marks (ask.ForceSend m) ds seen (reply.ForceSend (Ok None)) h = inr (inl (appended_marks ds h))
  row_marks (ask.ForceSend m) ds seen (reply.ForceSend (Ok (Some d))) (inl h) = inr (inr (inl (replaced_marks ds d h)))
  row_marks (ask.ForceSend m) ds seen (reply.ForceSend (Ok (Some d))) (inr h) = inr (inr (inr (displaced_marks ds d h)))
  row_marks (ask.ForceSend m) ds seen (reply.ForceSend (Err (refused.Plain e))) h = inl (no_marks ds h.1)
  row_marks (ask.ForceSend m) ds seen (reply.ForceSend (Err (refused.NoMemory v))) h = inl (no_marks ds h.1)
  row_marks ask.TryRecv ds seen (reply.TryRecv (Ok v)) h = inr (took_marks ds v h)
  row_marks ask.TryRecv ds seen (reply.TryRecv (Err try_recv_error.Empty)) h = inl (no_marks ds h.0)
  row_marks ask.TryRecv ds seen (reply.TryRecv (Err try_recv_error.Closed)) h = inl (no_marks ds h.0)
  row_marks (ask.RecvMany n) ds seen (reply.RecvMany (Ok vs)) (took, inl all) = all_takings n ds vs took (omega (arith, all))
  row_marks (ask.RecvMany n) ds seen (reply.RecvMany (Ok vs)) (took, inr fewer) = all_takings n ds vs took (let less = fewer.0 in omega (arith, less))
  row_marks (ask.RecvMany n) ds seen (reply.RecvMany (Err (refused.Plain try_recv_error.Empty))) h = no_takings n ds h.0
  row_marks (ask.RecvMany n) ds seen (reply.RecvMany (Err (refused.Plain try_recv_error.Closed))) h = no_takings n ds h.0
  row_marks (ask.RecvMany n) ds seen (reply.RecvMany (Err (refused.NoMemory u))) h = no_takings n ds h.0
  row_marks ask.Close ds seen (reply.Closed true) h = inr (closed_marks ds h)
  row_marks ask.Close ds seen (reply.Closed false) h = inl (no_marks ds h.0)
  row_marks (ask.PollSend m key task) ds seen (reply.SendPoll (Ready (Ok u))) h = inr (appended_marks ds h)
  row_marks (ask.PollSend m key task) ds seen (reply.SendPoll (Ready (Err (refused.Plain e)))) h = inl (no_marks ds h.1)
  row_marks (ask.PollSend m key task) ds seen (reply.SendPoll (Ready (Err (refused.NoMemory u)))) h = inl (no_marks ds h.0)
  row_marks (ask.PollSend m key task) ds seen (reply.SendPoll (Ready (Err (refused.SerialsUsedUp u)))) h = inl (no_marks ds h.0)
  row_marks (ask.PollSend m key task) ds seen (reply.SendPoll Pending) h = inl (no_marks ds h.0)
  row_marks ask.PollFinishedSend ds seen r h = no_marks ds h.0
  row_marks (ask.PollRecv key task) ds seen (reply.RecvPoll (Ready (Ok v))) h = inr (took_marks ds v h)
  row_marks (ask.PollRecv key task) ds seen (reply.RecvPoll (Ready (Err (refused.Plain e)))) h = inl (no_marks ds h.0)
  row_marks (ask.PollRecv key task) ds seen (reply.RecvPoll (Ready (Err (refused.NoMemory u)))) h = inl (no_marks ds h.0)
  row_marks (ask.PollRecv key task) ds seen (reply.RecvPoll (Ready (Err (refused.SerialsUsedUp u)))) h = inl (no_marks ds h.0)
  row_marks (ask.PollRecv key task) ds seen (reply.RecvPoll Pending) h = inl (no_marks ds h.0)
  row_marks (ask.PollClosed key task) ds seen (reply.ClosedPoll (Ready (Ok u))) h = no_marks ds h.0
  row_marks (ask.PollClosed key task) ds seen (reply.ClosedPoll (Ready (Err e))) h = no_marks ds h.0
  row_marks (ask.PollClosed key task) ds seen (reply.ClosedPoll Pending) h = no_marks ds h.0
  row_marks (ask.PollNext key task) ds seen (reply.Next (Ready (Some (Ok v)))) h = inr (took_marks ds v h)
  row_marks (ask.PollNext key task) ds seen (reply.Next (Ready (Some (Err e)))) h = inl (no_marks ds h)
  row_marks (ask.PollNext key task) ds seen (reply.Next (Ready None)) h = inl (no_marks ds h.0)
  row_marks (ask.PollNext key task) ds seen (reply.Next Pending) h = inl (no_marks ds h.0)
  row_marks (ask.RefusePoll line message key) ds seen r h = no_marks ds h.0
  row_marks (ask.GiveUp line message key) ds seen r h = no_marks ds h.0
  row_marks ask.DropSender ds seen r h = dropped_marks Senders ds seen h.0
  row_marks (ask.DropReceiver key) ds seen r h = dropped_marks Receivers ds seen h.0
  row_marks (ask.CloneHandle side) ds seen reply.Made h = inr (raised_marks side ds h)
  row_marks (ask.CloneHandle side) ds seen reply.TooMany h = inl (no_marks ds h.0)
  row_marks (ask.Upgrade side) ds seen reply.Made h = inr (upgraded_marks side ds h)
  row_marks (ask.Upgrade side) ds seen reply.NotMade h = inl (no_marks ds h.0)
  row_marks (ask.Upgrade side) ds seen reply.TooMany h = inl (no_marks ds h.0)
  row_marks (ask.HandleCount side) ds seen (reply.Count n) h = no_marks ds h.0
  row_marks ask.IsClosed ds seen (reply.Flag b) h = no_marks ds h.0
  row_marks ask.IsEmpty ds seen (reply.Flag b) h = no_marks ds h.0
  row_marks ask.IsFull ds seen (reply.Flag b) h = no_marks ds h.0
  row_marks ask.Len ds seen (reply.Count n) h = no_marks ds h.0
  row_marks ask.Capacity ds seen (reply.Cap c) h = no_marks ds h.0
  row_marks ask.IsTerminated ds seen (reply.Flag true) h = no_marks ds h.0
  row_marks ask.IsTerminated ds seen (reply.Flag false) h = no_marks ds h.0
  row_marks (ask.SendIsTerminated b) ds seen r h = no_marks ds h.0
  row_marks (ask.SameChannel b) ds seen r h = no_marks ds h.0
  row_marks ask.Make ds seen r h = no_marks ds h.0
  row_marks ask.DropWeak ds seen r h = no_marks ds h.0
  row_marks a ds seen r h = absurd h

  whole : (a : ChannelAsk T W) (ds : List (MarkedMoment T W)) → AreMarksOf a (marks_of ds) → Begun a ds
  whole a ds h = ([], subst (λ (ms : List Mark). AreMarksOf a ms) (sym (append-nil (marks_of ds))) h)

  -- ---- a call that has made no mark

  none_made : (a : ChannelAsk T W) → (later : List Mark) × AreMarksOf a later
  none_made ask.DropSender = (down Senders ∷ [], inl refl)
  none_made (ask.DropReceiver key) = (down Receivers ∷ [], inl refl)
  none_made (ask.TrySend m) = ([], inl refl)
  none_made (ask.PollSend m key task) = ([], inl refl)
  none_made (ask.ForceSend m) = ([], inl refl)
  none_made ask.TryRecv = ([], inl refl)
  none_made (ask.RecvMany n) = ([], (tt, omega arith))
  none_made (ask.PollRecv key task) = ([], inl refl)
  none_made (ask.PollNext key task) = ([], inl refl)
  none_made ask.Close = ([], inl refl)
  none_made (ask.CloneHandle side) = ([], inl refl)
  none_made (ask.Upgrade side) = ([], inl refl)
  none_made a = ([], refl)

  nothing : (a : ChannelAsk T W) (ds : List (MarkedMoment T W)) → ds ≡ [] → Begun a ds
  nothing a ds e =
      let n = none_made a in
      (n.0, subst (λ (ms : List Mark). AreMarksOf a (ms ++ n.0)) (sym (no_marks ds e)) n.1)

  -- ---- while the queue has the next step

  pushed : (now : Channel T W) (v : T) (s : queue.Stage T) (ds : List (MarkedMoment T W)) (seen : List (Channel T W)) → TryAt now (q.Push v) s ds seen
      → (marks_of ds ≡ []) ⊎ (marks_of ds ≡ Append ∷ [])
  pushed now v (trying b) ds seen h = inl (no_marks ds h.0)
  pushed now v (appended None) ds seen h = inr (appended_marks ds h)
  pushed now v s ds seen h = absurd h

  forced : (now : Channel T W) (m v : T) (s : queue.Stage T) (ds : List (MarkedMoment T W)) (seen : List (Channel T W))
      → TryAt now (q.ForcePush v) s ds seen → Begun (ask.ForceSend m) ds
  forced now m v (trying b) ds seen h = nothing (ask.ForceSend m) ds h.0
  forced now m v (displaced d) ds seen h = (Append ∷ [], inr (inr (inr (ap (λ (ms : List Mark). ms ++ Append ∷ []) (room_marks ds d h)))))
  forced now m v (appended None) ds seen h = whole (ask.ForceSend m) ds (inr (inl (appended_marks ds h)))
  forced now m v (appended (Some d)) ds seen (inl h) = whole (ask.ForceSend m) ds (inr (inr (inl (replaced_marks ds d h))))
  forced now m v (appended (Some d)) ds seen (inr h) = whole (ask.ForceSend m) ds (inr (inr (inr (displaced_marks ds d h))))
  forced now m v s ds seen h = absurd h

  popped : (now : Channel T W) (s : queue.Stage T) (ds : List (MarkedMoment T W)) (seen : List (Channel T W)) → TryAt now q.Pop s ds seen
      → (marks_of ds ≡ []) ⊎ (marks_of ds ≡ Take ∷ [])
  popped now (trying b) ds seen h = inl (no_marks ds h)
  popped now (taken v) ds seen h = inr (took_marks ds v h)
  popped now s ds seen h = absurd h

  questioned : (now : Channel T W) (a : QueueAsk T) (s : queue.Stage T) (ds : List (MarkedMoment T W)) (seen : List (Channel T W)) → IsQuestion a
      → TryAt now a s ds seen → ds ≡ []
  questioned now q.IsClosed (trying b) ds seen i h = h
  questioned now q.IsEmpty (trying b) ds seen i h = h
  questioned now q.IsEmpty (read n) ds seen i h = h.0
  questioned now q.IsFull (trying b) ds seen i h = h
  questioned now q.IsFull (read n) ds seen i h = h.0
  questioned now q.Len (trying b) ds seen i h = h
  questioned now q.Len (read n) ds seen i h = h
  questioned now q.Len (measured n k) ds seen i h = h.0
  questioned now q.Capacity (trying b) ds seen i h = h
  questioned now (q.Push v) s ds seen i h = absurd i
  questioned now (q.ForcePush v) s ds seen i h = absurd i
  questioned now q.Pop s ds seen i h = absurd i
  questioned now q.Close s ds seen i h = absurd i
  questioned now a s ds seen i h = absurd h

  several : (now : Channel T W) (n : ℕ) (vs : List T) (ds mine : List (MarkedMoment T W)) (s : queue.Stage T) (seen : List (Channel T W))
      → HasTaken vs ds mine seen → TryAt now q.Pop s mine seen → length vs + 1 ≤ n → FewTakings n (marks_of ds)
  several now n vs ds mine s seen t h few =
      subst (λ (xs : List (MarkedMoment T W)). FewTakings n (marks_of xs)) (sym t.all)
      (more_takings n t.before mine vs t.took (one_taking (marks_of mine) (popped now s mine seen h)) few)

  tries : (now : Channel T W) (a : ChannelAsk T W) (y : Purpose T W) (x : QueueAsk T) (s : queue.Stage T) (ds : List (MarkedMoment T W))
      (seen : List (Channel T W)) → TriesFor a y x ds seen → TriesAt now y x s ds seen → Begun a ds
  tries now (ask.TrySend m) purpose.TrySend (q.Push v) s ds seen t h = whole (ask.TrySend m) ds (pushed now v s ds seen h)
  tries now (ask.ForceSend m) purpose.ForceSend (q.ForcePush v) s ds seen t h = forced now m v s ds seen h
  tries now ask.TryRecv purpose.TryRecv q.Pop s ds seen t h = whole ask.TryRecv ds (popped now s ds seen h)
  tries now (ask.RecvMany n) (purpose.RecvMany g) q.Pop s ds seen t h = whole (ask.RecvMany n) ds (several now n g.taken ds h.0 s seen h.1 h.2 (omega (arith, t)))
  tries now ask.Close (purpose.Close closer.Call) q.Close s ds seen t h = nothing ask.Close ds t
  tries now (ask.PollSend m k w) (purpose.Poll Sends key task) (q.Push v) s ds seen t h = whole (ask.PollSend m k w) ds (pushed now v s ds seen h)
  tries now (ask.PollRecv k w) (purpose.Poll Receives key task) q.Pop s ds seen t h = whole (ask.PollRecv k w) ds (popped now s ds seen h)
  tries now (ask.PollClosed k w) (purpose.Poll Closings key task) q.IsClosed s ds seen t h = nothing (ask.PollClosed k w) ds (questioned now q.IsClosed s ds seen tt h)
  tries now (ask.PollNext k w) (purpose.Poll Streams key task) q.Pop s ds seen t h = whole (ask.PollNext k w) ds (popped now s ds seen h)
  tries now ask.DropSender (purpose.Close closer.Sender) q.Close s ds seen t h = whole ask.DropSender ds (inl (left_marks Senders ds seen t))
  tries now (ask.DropReceiver k) (purpose.Close (closer.Receiver key)) q.Close s ds seen t h = whole (ask.DropReceiver k) ds (inl (left_marks Receivers ds seen t))
  tries now (ask.Upgrade side) (purpose.Upgrade z) q.IsClosed s ds seen t h = nothing (ask.Upgrade side) ds (questioned now q.IsClosed s ds seen tt h)
  tries now ask.IsClosed purpose.Ask q.IsClosed s ds seen t h = nothing ask.IsClosed ds (questioned now q.IsClosed s ds seen tt h)
  tries now ask.IsEmpty purpose.Ask q.IsEmpty s ds seen t h = nothing ask.IsEmpty ds (questioned now q.IsEmpty s ds seen tt h)
  tries now ask.IsFull purpose.Ask q.IsFull s ds seen t h = nothing ask.IsFull ds (questioned now q.IsFull s ds seen tt h)
  tries now ask.Len purpose.Ask q.Len s ds seen t h = nothing ask.Len ds (questioned now q.Len s ds seen tt h)
  tries now ask.Capacity purpose.Ask q.Capacity s ds seen t h = nothing ask.Capacity ds (questioned now q.Capacity s ds seen tt h)
  tries now ask.IsTerminated purpose.IsTerminated q.IsClosed s ds seen t h = nothing ask.IsTerminated ds (questioned now q.IsClosed s ds seen tt h)
  tries now ask.IsTerminated purpose.Ask q.IsEmpty s ds seen t h = nothing ask.IsTerminated ds (questioned now q.IsEmpty s ds seen tt h)
  tries now a y x s ds seen t h = absurd t

  -- ---- while a list or a count has the next step

  answered : (a : ChannelAsk T W) (x : Ending T) (ds : List (MarkedMoment T W)) (seen : List (Channel T W)) → Answered a x ds seen → Begun a ds
  answered a x ds seen h = whole a ds (row_marks a ds h.0.1 x.reply h.0.3)

  works : (a : ChannelAsk T W) (w : ListStep T W) (ds : List (MarkedMoment T W)) (seen : List (Channel T W)) → WorkAt a w ds seen → Begun a ds
  works a (TellReceive x) ds seen h = answered a x ds seen h
  works a (TellStreams x) ds seen h = answered a x ds seen h
  works a (TellSend x) ds seen h = answered a x ds seen h
  works a (TellSends n x) ds seen h = answered a x ds seen h
  works a (TellAll line y) ds seen h = answered a (closer_ending y true) ds seen h
  works a (Leave x) ds seen h = answered a x ds seen h
  works a w ds seen h = nothing a ds h.1

  stages : (now : Channel T W) (a : ChannelAsk T W) (at : Stage (Phase T) T W) (ds : List (MarkedMoment T W)) (seen : List (Channel T W))
      → StageAt now a at ds seen → Begun a ds
  stages now a (Trying f y) ds seen h = tries now a y f.ask f.stage ds seen h.0 h.1
  stages now a (Working w) ds seen h = works a w ds seen h
  stages now a (Finished kept) ds seen h = absurd h

  pub all_begin : (now : Channel T W) (us : List (ActiveCall T W)) → AllKnown now us → Each (λ u. BeginsItsMarks u) us
  all_begin now [] k = tt
  all_begin now (u ∷ us) k =
      let known = k.0 in
      let b = stages now u.ask u.at u.marks u.seen known.stands in (record { later = b.0; all = b.1 }, all_begin now us k.1)
