-- Messages that come in, and those that calls under way may yet bring, over steps, over beginnings and over a call made alone.
use Rattle.std.specs.Prelude.{◌≡◌, ◌+◌, ◌≤◌, ◌==◌, if◌then◌else◌, ◌∷◌, ◌++◌, ◌⊎◌}
use Rattle.channel_world_runs.proofs.Words.{Gathered, with_last, TryRecvError, zero, suc, arith, ℕ, nat_lt, Bool, true, false, List, [], map, length, Option, None, Some, Ok, Err, inl, inr, refl, sym, ap, ◌∙◌, subst, Queue, Phase, trying, displaced, appended, taken, read, measured, ContinuesBy, AnswersTo, Continues, after, QueueAsk, QueueMark, TakeDisplaced, QueueReply, Key, sent_next, forced_next, received_next, gathered_next, short_next, several_next, send_next, receive_next, stream_next, closing_next, polled_next, closed_next, asked_next, terminated_next, upgraded_next, answered_next, asks_listener, mark_of_queue, up, Channel, Effect, untouched, on_count, tells_one, tells_more, tells_all, listens, registers, leaves, lowers, raises, Turned, Worked, Moves, listeners, count, is_raised, most, leaving, nothing_kept, line_of, closer_ending, dropper, ends_by, again, refused_next, pends_by, unlistened, told_all_next, room_next, roomless, lowered_next, counted_next, loaded_next, raised_next, ChannelAsk, Reply, Purpose, Closer, Ending, ListenerRef, WaitList, Sends, Receives, Streams, Closings, Making, Side, Senders, Receivers, Stage, Trying, Working, Finished, NextStep, Tries, Works, Ends, WaitingStep as Waiting, ListStep, TellReceive, TellStreams, TellSend, TellSends, TakeRoom, TellAll, Insert, Register, Leave, Lower, Count, Load, Raise, brought_in, Begins, call_begun, ActiveCall, Configuration, Steps, sees, does, unless_ended, brought, ChannelEntry as Entry, yet_tried, yet_worked, yet, yet_in, PushError, ForcePushError, PopError}
use Rattle.concurrent_queue.specs.Queue.{Answers}
use Rattle.concurrent_queue.specs.Queue as queue
use Rattle.concurrent_queue.specs.declared.call.QueueMark.TheVariants.{Nothing, Append, Take, Replace, Close}
use Rattle.channel_calls.specs.Asks.{first}
use Rattle.channel_calls.specs.Parts.{waits}

module _ {T : Type 0} where
  -- ---- the queue's calls

  -- a try goes on: what it brings in, it brings no more
  tried_on : (q : Queue T) (a : QueueAsk T) (m : QueueMark) (s t : queue.Stage T) → ContinuesBy q a m s t
      → brought_in (mark_of_queue m) + yet_tried a t ≤ yet_tried a s
  tried_on q (QueueAsk.Push v) Nothing (trying b) t g = let e = ap (λ (z : queue.Stage T). yet_tried (QueueAsk.Push v) z) g in omega (arith, e)
  tried_on q (QueueAsk.Push v) Nothing (appended None) t g = let e = ap (λ (z : queue.Stage T). yet_tried (QueueAsk.Push v) z) g in omega (arith, e)
  tried_on q (QueueAsk.Push v) Append (trying b) t g = let e = ap (λ (z : queue.Stage T). yet_tried (QueueAsk.Push v) z) g.2 in omega (arith, e)
  tried_on q (QueueAsk.ForcePush v) Nothing (trying b) t g = let e = ap (λ (z : queue.Stage T). yet_tried (QueueAsk.ForcePush v) z) g in omega (arith, e)
  tried_on q (QueueAsk.ForcePush v) Nothing (displaced d) t g = let e = ap (λ (z : queue.Stage T). yet_tried (QueueAsk.ForcePush v) z) g in omega (arith, e)
  tried_on q (QueueAsk.ForcePush v) Nothing (appended o) t g = let e = ap (λ (z : queue.Stage T). yet_tried (QueueAsk.ForcePush v) z) g in omega (arith, e)
  tried_on q (QueueAsk.ForcePush v) Append (trying b) t g = let e = ap (λ (z : queue.Stage T). yet_tried (QueueAsk.ForcePush v) z) g.2 in omega (arith, e)
  tried_on q (QueueAsk.ForcePush v) Append (displaced d) t g = let e = ap (λ (z : queue.Stage T). yet_tried (QueueAsk.ForcePush v) z) g.2 in omega (arith, e)
  tried_on q (QueueAsk.ForcePush v) Replace (trying b) t g = let e = ap (λ (z : queue.Stage T). yet_tried (QueueAsk.ForcePush v) z) g.5 in omega (arith, e)
  tried_on q (QueueAsk.ForcePush v) TakeDisplaced (trying b) t g = let e = ap (λ (z : queue.Stage T). yet_tried (QueueAsk.ForcePush v) z) g.5 in omega (arith, e)
  tried_on q QueueAsk.Pop Nothing (trying b) t g = omega arith
  tried_on q QueueAsk.Pop Nothing (taken v) t g = omega arith
  tried_on q QueueAsk.Pop Take (trying b) t g = omega arith
  tried_on q QueueAsk.IsEmpty Nothing (trying b) t g = omega arith
  tried_on q QueueAsk.IsFull Nothing (trying b) t g = omega arith
  tried_on q QueueAsk.Len Nothing (trying b) t g = omega arith
  tried_on q QueueAsk.Len Nothing (read n) t g = omega arith
  tried_on q QueueAsk.Len Nothing (measured n k) t g = omega arith
  tried_on q a m s t g = absurd g

  -- a try that found no place for its message may bring it yet
  abbrev was_full : QueueReply T → ℕ
  was_full (QueueReply.Push (Err (PushError.Full v))) = 1
  was_full r = 0

  -- one that ends brings nothing in
  tried_out : (q : Queue T) (a : QueueAsk T) (m : QueueMark) (r : QueueReply T) (s : queue.Stage T) → AnswersTo q a m r s
      → brought_in (mark_of_queue m) + was_full r ≤ yet_tried a s
  tried_out q (QueueAsk.Push v) Nothing (QueueReply.Push (Ok u)) (appended None) g = omega arith
  tried_out q (QueueAsk.Push v) Nothing (QueueReply.Push (Err (PushError.Full w))) (trying b) g = omega arith
  tried_out q (QueueAsk.Push v) Nothing (QueueReply.Push (Err (PushError.Closed w))) (trying b) g = omega arith
  tried_out q (QueueAsk.Push v) Nothing (QueueReply.Push (Err (PushError.NoMemory w))) (trying b) g = omega arith
  tried_out q (QueueAsk.ForcePush v) Nothing (QueueReply.Force (Ok d)) (appended o) g = omega arith
  tried_out q (QueueAsk.ForcePush v) Nothing (QueueReply.Force (Err (ForcePushError.Closed w))) (trying b) g = omega arith
  tried_out q (QueueAsk.ForcePush v) Nothing (QueueReply.Force (Err (ForcePushError.NoMemory w))) (trying b) g = omega arith
  tried_out q QueueAsk.Pop Nothing (QueueReply.Pop (Ok w)) (taken v) g = omega arith
  tried_out q QueueAsk.Pop Nothing (QueueReply.Pop (Err PopError.Empty)) (trying b) g = omega arith
  tried_out q QueueAsk.Pop Nothing (QueueReply.Pop (Err PopError.Closed)) (trying b) g = omega arith
  tried_out q QueueAsk.Close Close (QueueReply.Close true) (trying b) g = omega arith
  tried_out q QueueAsk.Close Nothing (QueueReply.Close false) (trying b) g = omega arith
  tried_out q QueueAsk.IsClosed Nothing (QueueReply.Flag c) (trying b) g = omega arith
  tried_out q QueueAsk.IsEmpty Nothing (QueueReply.Flag c) (trying b) g = omega arith
  tried_out q QueueAsk.IsEmpty Nothing (QueueReply.Flag true) (read n) g = omega arith
  tried_out q QueueAsk.IsEmpty Nothing (QueueReply.Flag false) (read n) g = omega arith
  tried_out q QueueAsk.IsFull Nothing (QueueReply.Flag c) (trying b) g = omega arith
  tried_out q QueueAsk.IsFull Nothing (QueueReply.Flag true) (read n) g = omega arith
  tried_out q QueueAsk.IsFull Nothing (QueueReply.Flag false) (read n) g = omega arith
  tried_out q QueueAsk.Len Nothing (QueueReply.Count n) (trying b) g = omega arith
  tried_out q QueueAsk.Len Nothing (QueueReply.Count n) (measured m k) g = omega arith
  tried_out q QueueAsk.Capacity Nothing (QueueReply.Cap n) (trying b) g = omega arith
  tried_out q a m r s g = absurd g

  most_tried : (a : QueueAsk T) (s : queue.Stage T) → yet_tried a s ≤ 1
  most_tried (QueueAsk.Push v) (trying b) = omega arith
  most_tried (QueueAsk.ForcePush v) (trying b) = omega arith
  most_tried (QueueAsk.ForcePush v) (displaced d) = omega arith
  most_tried a s = omega arith

  -- so many more are accepted as a mark brings in
  marked : (f : Phase T) (m : QueueMark) (q : Queue T) → (after f m q).accepted ≡ q.accepted + brought_in (mark_of_queue m)
  marked f Nothing q = omega arith
  marked f x q = omega arith

module _ {T W : Type 0} where
  -- ---- what comes next

  abbrev yet_after : NextStep T W → ℕ
  yet_after (Tries a y) = yet_tried a (trying false)
  yet_after (Works w) = yet_worked w
  yet_after (Ends y kept) = 0

  turned_yet : (turn : NextStep T W) (r : Option (Reply T)) (s : Stage (Phase T) T W) → Turned turn r s → yet s ≡ yet_after turn
  turned_yet (Tries a y) r s h = ap (λ (z : Stage (Phase T) T W). yet z) h.1
  turned_yet x r s h = ap (λ (z : Stage (Phase T) T W). yet z) h.1

  refused_yet : (m : T) (key : Option Key) (task : W) → yet_after (refused_next (Waiting.Send m) key task) ≡ 1
  refused_yet m None task = refl
  refused_yet m (Some key) task = refl

  -- the turn that a reply gives may bring a message only where there was no place for it
  abbrev FewYet : NextStep T W → QueueReply T → Type 0
  FewYet turn r = yet_after turn ≤ was_full r

  send_yet : (r : QueueReply T) (key : Option Key) (task : W) → FewYet (send_next r key task) r
  send_yet (QueueReply.Push (Err (PushError.Full m))) key task = let e = refused_yet m key task in omega (arith, e)
  send_yet (QueueReply.Push (Err (PushError.Closed m))) None task = omega arith
  send_yet (QueueReply.Push (Err (PushError.NoMemory m))) None task = omega arith
  send_yet r key task = omega arith

  receive_yet : (r : QueueReply T) (key : Option Key) (task : W) → FewYet (receive_next r key task) r
  receive_yet (QueueReply.Pop (Err PopError.Empty)) None task = omega arith
  receive_yet (QueueReply.Pop (Err PopError.Closed)) None task = omega arith
  receive_yet r key task = omega arith

  stream_yet : (r : QueueReply T) (key : Option Key) (task : W) → FewYet (stream_next r key task) r
  stream_yet (QueueReply.Pop (Err PopError.Empty)) None task = omega arith
  stream_yet (QueueReply.Pop (Err PopError.Closed)) None task = omega arith
  stream_yet r key task = omega arith

  closing_yet : (r : QueueReply T) (key : Option Key) (task : W) → FewYet (closing_next r key task) r
  closing_yet (QueueReply.Flag true) None task = omega arith
  closing_yet (QueueReply.Flag false) None task = omega arith
  closing_yet r key task = omega arith

  polled_yet : (line : WaitList) (r : QueueReply T) (key : Option Key) (task : W) → FewYet (polled_next line r key task) r
  polled_yet Sends r key task = send_yet r key task
  polled_yet Receives r key task = receive_yet r key task
  polled_yet Streams r key task = stream_yet r key task
  polled_yet Closings r key task = closing_yet r key task

module _ {T : Type 0} (W : Type 0) where
  held_yet : (e : Ending T) (o : Option ListenerRef)
      → yet_after (let t : NextStep T W = elim o [ None ↦ Ends e.reply (leaving None e.message) | Some held ↦ Works (Leave e) ] in t) ≡ 0
  held_yet e None = refl
  held_yet e (Some h) = refl

  ended_yet : (e : Ending T) → yet_after (let t : NextStep T W = ends_by e in t) ≡ 0
  ended_yet e = held_yet e e.held

  sent_yet : (r : QueueReply T) → FewYet (let t : NextStep T W = sent_next r in t) r
  sent_yet (QueueReply.Push (Ok u)) = omega arith
  sent_yet (QueueReply.Push (Err (PushError.Full m))) = omega arith
  sent_yet r = omega arith

  forced_yet : (r : QueueReply T) → FewYet (let t : NextStep T W = forced_next r in t) r
  forced_yet (QueueReply.Force (Ok d)) = omega arith
  forced_yet (QueueReply.Force (Err (ForcePushError.Closed m))) = omega arith
  forced_yet r = omega arith

  received_yet : (r : QueueReply T) → FewYet (let t : NextStep T W = received_next r in t) r
  received_yet (QueueReply.Pop (Ok m)) = omega arith
  received_yet (QueueReply.Pop (Err PopError.Empty)) = omega arith
  received_yet r = omega arith

  gathered_yet : (vs : List T) (n : ℕ) → yet_after (let t : NextStep T W = gathered_next (with_last vs n) in t) ≡ 0
  gathered_yet vs zero = refl
  gathered_yet vs (suc n) = refl

  short_yet : (vs : List T) (e : TryRecvError) → yet_after (let t : NextStep T W = short_next vs e in t) ≡ 0
  short_yet [] e = refl
  short_yet (v ∷ vs) e = refl

  several_yet : (r : QueueReply T) (g : Gathered T) → FewYet (let t : NextStep T W = several_next r g in t) r
  several_yet (QueueReply.Pop (Ok m)) g = let none = gathered_yet (g.taken ++ m ∷ []) g.more in omega (arith, none)
  several_yet (QueueReply.Pop (Err PopError.Empty)) g = let none = short_yet g.taken TryRecvError.Empty in omega (arith, none)
  several_yet (QueueReply.Pop (Err PopError.Closed)) g = let none = short_yet g.taken TryRecvError.Closed in omega (arith, none)
  several_yet r g = omega arith

  closed_yet : (r : QueueReply T) (c : Closer) → FewYet (let t : NextStep T W = closed_next r c in t) r
  closed_yet (QueueReply.Close false) c = let none : yet_after (let t : NextStep T W = ends_by (closer_ending c false) in t) ≡ 0 = ended_yet (closer_ending c false) in omega (arith, none)
  closed_yet r c = omega arith

  asked_yet : (r : QueueReply T) → FewYet (let t : NextStep T W = asked_next r in t) r
  asked_yet (QueueReply.Flag b) = omega arith
  asked_yet r = omega arith

  terminated_yet : (r : QueueReply T) → FewYet (let t : NextStep T W = terminated_next r in t) r
  terminated_yet (QueueReply.Flag true) = omega arith
  terminated_yet r = omega arith

  upgraded_yet : (r : QueueReply T) (side : Side) → FewYet (let t : NextStep T W = upgraded_next r side in t) r
  upgraded_yet (QueueReply.Flag true) side = omega arith
  upgraded_yet r side = omega arith

module _ (T W : Type 0) where
  told_yet : (line : WaitList) (y : Closer) → yet_after (let t : NextStep T W = told_all_next line y in t) ≡ 0
  told_yet Closings y = ended_yet W (closer_ending y true)
  told_yet x y = refl

  lowered_yet : (b : Bool) (y : Closer)
      → yet_after (let t : NextStep T W = (if b then Tries QueueAsk.Close (Purpose.Close y) else ends_by (closer_ending y false)) in t) ≡ 0
  lowered_yet true y = refl
  lowered_yet false y = ended_yet W (closer_ending y false)

  counted_yet : (b : Bool) (side : Side) (m : Making) (n : ℕ)
      → yet_after (let t : NextStep T W = (if b then Ends Reply.TooMany nothing_kept else Works (Raise side n m)) in t) ≡ 0
  counted_yet true side m n = refl
  counted_yet false side m n = refl

  upgrading_yet : (b : Bool) (side : Side) (n : ℕ)
      → yet_after (let t : NextStep T W = (if b then Ends Reply.NotMade nothing_kept else counted_next side Making.Upgrade n) in t) ≡ 0
  upgrading_yet true side n = refl
  upgrading_yet false side n = counted_yet (nat_lt most n) side Making.Upgrade n

  loaded_yet : (side : Side) (m : Making) (n : ℕ) → yet_after (let t : NextStep T W = loaded_next side m n in t) ≡ 0
  loaded_yet side Making.Clone n = counted_yet (nat_lt most n) side Making.Clone n
  loaded_yet side Making.Upgrade n = upgrading_yet (n == 0) side n

  raised_yet : (side : Side) (m : Making) (b : Bool) → yet_after (let t : NextStep T W = raised_next side m b in t) ≡ 0
  raised_yet side m true = refl
  raised_yet side m false = refl

no_more : (n m : ℕ) → n ≡ 0 → n ≤ m
no_more n m e = omega (arith, e)

module _ {T W : Type 0} where
  answered_yet : (a : Purpose T W) (r : QueueReply T) → FewYet (answered_next a r) r
  answered_yet Purpose.TrySend r = sent_yet W r
  answered_yet Purpose.ForceSend r = forced_yet W r
  answered_yet Purpose.TryRecv r = received_yet W r
  answered_yet (Purpose.RecvMany g) r = several_yet W r g
  answered_yet (Purpose.Poll line key task) r = polled_yet line r key task
  answered_yet (Purpose.Close c) r = closed_yet W r c
  answered_yet Purpose.Ask r = asked_yet W r
  answered_yet Purpose.IsTerminated r = terminated_yet W r
  answered_yet (Purpose.Upgrade side) r = upgraded_yet W r side

  -- ---- one step of a call

  -- so many are accepted as its mark brings in, and the call may bring so many fewer
  pub record Brings (c : Channel T W) (at : Stage (Phase T) T W) (e : Effect T W) (s : Stage (Phase T) T W) : Type 0 where
    pub accepted : e.channel.queue.accepted ≡ c.queue.accepted + brought_in e.mark
    pub fewer : brought_in e.mark + yet s ≤ yet at

  -- a step that is none of the queue
  works : (c : Channel T W) (w : ListStep T W) (e e' : Effect T W) (r : Option (Reply T)) (s : Stage (Phase T) T W) (turn : NextStep T W)
      → e ≡ e' → e'.channel.queue ≡ c.queue → brought_in e'.mark ≡ 0 → Turned turn r s → yet_after turn ≤ yet_worked w
      → Brings c (Working w) e s
  works c w e e' r s turn same queue plain turned few =
      let none : brought_in e.mark ≡ 0 = ap (λ (x : Effect T W). brought_in x.mark) same ∙ plain in
      let now : e.channel.queue.accepted ≡ c.queue.accepted =
      ap (λ (x : Effect T W). x.channel.queue.accepted) same ∙ ap (λ (q : Queue T). q.accepted) queue in
      let next = turned_yet turn r s turned in
      record { accepted = omega (arith, now, none); fewer = omega (arith, none, next, few) }

  pub left_queue : (h : Option ListenerRef) (c : Channel T W) → (leaves h c).channel.queue ≡ c.queue
  left_queue None c = refl
  left_queue (Some h) c = refl

  left_plain : (h : Option ListenerRef) (c : Channel T W) → brought_in (leaves h c).mark ≡ 0
  left_plain None c = refl
  left_plain (Some h) c = refl

  lowered_queue : (side : Side) (c : Channel T W) → (lowers side c).channel.queue ≡ c.queue
  lowered_queue Senders c = refl
  lowered_queue Receivers c = refl

  lowered_plain : (side : Side) (c : Channel T W) → brought_in (lowers side c).mark ≡ 0
  lowered_plain Senders c = refl
  lowered_plain Receivers c = refl

  raised_queue : (b : Bool) (side : Side) (n : ℕ) (c : Channel T W)
      → (if b then on_count side (n + 1) (up side) c else untouched c).channel.queue ≡ c.queue
  raised_queue true side n c = refl
  raised_queue false side n c = refl

  raised_plain : (b : Bool) (side : Side) (n : ℕ) (c : Channel T W)
      → brought_in (if b then on_count side (n + 1) (up side) c else untouched c).mark ≡ 0
  raised_plain true Senders n c = refl
  raised_plain true Receivers n c = refl
  raised_plain false side n c = refl

  again_yet : (w : Waiting T) (key : Option Key) (task : W) → yet_after (again w key task) ≤ yet_worked (let x : ListStep T W = Insert w task in x)
  again_yet (Waiting.Send m) key task = omega arith
  again_yet x key task = omega arith

  registered_yet : (b : Bool) (w : Waiting T) (key : Key) (task : W)
      → yet_after (if b then pends_by w key else again w None task) ≤ yet_worked (let x : ListStep T W = Register w key task in x)
  registered_yet false (Waiting.Send m) key task = omega arith
  registered_yet b w key task = omega arith

  room_yet : (n : ℕ) (t : NextStep T W) → t ≡ room_next n → yet_after t ≤ 0
  room_yet zero t e = subst (λ (x : NextStep T W). yet_after x ≤ 0) (sym e) (omega arith)
  room_yet (suc n) t e = subst (λ (x : NextStep T W). yet_after x ≤ 0) (sym e) (omega arith)

  worked : (c : Channel T W) (w : ListStep T W) (e : Effect T W) (r : Option (Reply T)) (s : Stage (Phase T) T W) → Worked c w e r s
      → Brings c (Working w) e s
  worked c (TellReceive x) e r s h =
      works c (TellReceive x) e (tells_one Receives c) r s (Works (TellStreams x)) h.0 refl refl h.1 (omega arith)
  worked c (TellStreams x) e r s h =
      works c (TellStreams x) e (tells_all Streams c) r s (ends_by x) h.0 refl refl h.1 (no_more _ 0 (ended_yet W x))
  worked c (TellSend x) e r s h = works c (TellSend x) e (tells_one Sends c) r s (ends_by x) h.0 refl refl h.1 (no_more _ 0 (ended_yet W x))
  worked c (TellSends n x) e r s h = works c (TellSends n x) e (tells_more n Sends c) r s (ends_by x) h.0 refl refl h.1 (no_more _ 0 (ended_yet W x))
  worked c (TakeRoom n) e r s (h, inl t) = works c (TakeRoom n) e (untouched c) r s (room_next n) h refl refl t (room_yet n (room_next n) refl)
  worked c (TakeRoom n) e r s (h, inr t) = works c (TakeRoom n) e (untouched c) r s roomless h refl refl t.1 (omega arith)
  worked c (TellAll line y) e r s h =
      works c (TellAll line y) e (tells_all line c) r s (told_all_next line y) h.0 refl refl h.1 (no_more _ 0 (told_yet T W line y))
  worked c (Insert w task) e r s (inl h) =
      works c (Insert w task) e (listens (line_of w) h.0 c) r s (again w (Some h.0) task) h.2 refl refl h.3 (again_yet w (Some h.0) task)
  worked c (Insert w task) e r s (inr h) =
      works c (Insert w task) e (untouched c) r s (unlistened w h.0) h.1 refl refl h.2 (no_more 0 _ refl)
  worked c (Register w key task) e r s h =
      let b = waits key (listeners (line_of w) c.wait_lists) in
      works c (Register w key task) e (registers (line_of w) key task c) r s (if b then pends_by w key else again w None task) h.0 refl
      refl h.1 (registered_yet b w key task)
  worked c (Leave x) e r s h =
      works c (Leave x) e (leaves x.held c) r s (Ends x.reply (leaving None x.message)) h.0 (left_queue x.held c) (left_plain x.held c)
      h.1 (omega arith)
  worked c (Lower side key) e r s h =
      works c (Lower side key) e (lowers side c) r s (lowered_next side key (count side c.wait_lists)) h.0 (lowered_queue side c)
      (lowered_plain side c) h.1 (no_more _ 0 (lowered_yet T W (count side c.wait_lists == 1) (dropper side key)))
  worked c (Count side) e r s h =
      works c (Count side) e (untouched c) r s (Ends (Reply.Count (count side c.wait_lists)) nothing_kept) h.0 refl refl h.1 (omega arith)
  worked c (Load side m) e r s h =
      works c (Load side m) e (untouched c) r s (loaded_next side m (count side c.wait_lists)) h.0 refl refl h.1
      (no_more _ 0 (loaded_yet T W side m (count side c.wait_lists)))
  worked c (Raise side n m) e r s h =
      let b = is_raised side n c.wait_lists in
      works c (Raise side n m) e (raises side n c) r s (raised_next side m b) h.0 (raised_queue b side n c) (raised_plain b side n c) h.1
      (no_more _ 0 (raised_yet T W side m b))

  pub moves : (c : Channel T W) (at : Stage (Phase T) T W) (e : Effect T W) (r : Option (Reply T)) (s : Stage (Phase T) T W)
      → Moves c at e r s → Brings c at e s
  moves c (Trying f y) e r s h =
      let plain : brought_in e.mark ≡ brought_in (mark_of_queue h.mark) = ap (λ (x : Effect T W). brought_in x.mark) h.effect in
      let now : e.channel.queue.accepted ≡ (after f h.mark c.queue).accepted = ap (λ (x : Effect T W). x.channel.queue.accepted) h.effect in
      let grown = marked f h.mark c.queue in
      let few = by h.how in
      record { accepted = omega (arith, plain, now, grown); fewer = omega (arith, plain, few) }
    where
      by : ((f' : Phase T) × Continues c.queue f h.mark f' × (r ≡ None) × (s ≡ Trying f' y))
          ⊎ ((x : QueueReply T) × Answers c.queue f h.mark x × Turned (answered_next y x) r s)
          → brought_in (mark_of_queue h.mark) + yet s ≤ yet_tried f.ask f.stage
      by (inl (f', goes, none, there)) =
          subst (λ (z : Stage (Phase T) T W). brought_in (mark_of_queue h.mark) + yet z ≤ yet_tried f.ask f.stage) (sym there)
          (subst (λ (a : QueueAsk T). brought_in (mark_of_queue h.mark) + yet_tried a f'.stage ≤ yet_tried f.ask f.stage) (sym goes.0)
          (tried_on c.queue f.ask h.mark f.stage f'.stage goes.1))
      by (inr (x, answers, turned)) =
          let out = tried_out c.queue f.ask h.mark x f.stage answers in
          let next = turned_yet (answered_next y x) r s turned in
          let few = answered_yet y x in
          omega (arith, out, next, few)
  moves c (Working w) e r s h = worked c w e r s h
  moves c (Finished kept) e r s h =
      let plain : brought_in e.mark ≡ 0 = ap (λ (x : Effect T W). brought_in x.mark) h.0 in
      let now : e.channel.queue.accepted ≡ c.queue.accepted = ap (λ (x : Effect T W). x.channel.queue.accepted) h.0 in
      let next : yet s ≡ 0 = ap (λ (z : Stage (Phase T) T W). yet z) h.2 in
      record { accepted = omega (arith, plain, now); fewer = omega (arith, plain, next) }

  -- ---- one step of a configuration

  yet_parts : (us vs : List (ActiveCall T W)) → yet_in (us ++ vs) ≡ yet_in us + yet_in vs
  yet_parts [] vs = omega arith
  yet_parts (u ∷ us) vs = let rest = yet_parts us vs in omega (arith, rest)

  yet_seen : (d : Channel T W) (us : List (ActiveCall T W)) → yet_in (map (sees d) us) ≡ yet_in us
  yet_seen d [] = omega arith
  yet_seen d (u ∷ us) = let rest = yet_seen d us in omega (arith, rest)

  most_worked : (w : ListStep T W) → yet_worked w ≤ 1
  most_worked (Insert (Waiting.Send v) task) = omega arith
  most_worked (Register (Waiting.Send v) key task) = omega arith
  most_worked w = omega arith

  most_yet : (s : Stage (Phase T) T W) → yet s ≤ 1
  most_yet (Trying f y) = most_tried f.ask f.stage
  most_yet (Working w) = most_worked w
  most_yet (Finished kept) = omega arith

  -- no more than there are calls
  pub yet_most : (us : List (ActiveCall T W)) → yet_in us ≤ length us
  yet_most [] = omega arith
  yet_most (u ∷ us) = let rest = yet_most us in let one = most_yet u.at in omega (arith, one, rest)

  yet_unless : (u : ActiveCall T W) (r : Option (Reply T)) → yet_in (unless_ended u r) ≤ yet u.at
  yet_unless u None = omega arith
  yet_unless u (Some r) = omega arith

  pub record StepBrings (s : Configuration T W) (e : Entry T) (t : Configuration T W) : Type 0 where
    pub accepted : t.now.queue.accepted ≡ s.now.queue.accepted + brought_in e.mark
    pub fewer : brought_in e.mark + yet_in t.under_way ≤ yet_in s.under_way

  pub step_brings : (s : Configuration T W) (p : ℕ) (e : Entry T) (names : List W) (t : Configuration T W) → Steps s p e names t → StepBrings s e t
  step_brings s p e names t n =
      let m = moves s.now n.mine.at _ e.reply n.at_now n.moves in
      let after = does n.mine n.at_now e.mark s.now t.now in
      let before = ap yet_in n.there in
      let behind = ap yet_in n.left in
      let a = yet_parts n.before (n.mine ∷ n.behind) in
      let b = yet_parts (map (sees t.now) n.before) (unless_ended after e.reply ++ map (sees t.now) n.behind) in
      let c = yet_parts (unless_ended after e.reply) (map (sees t.now) n.behind) in
      let d = yet_seen t.now n.before in
      let f = yet_seen t.now n.behind in
      let own = yet_unless after e.reply in
      let fewer = m.fewer in
      record { accepted = m.accepted; fewer = omega (arith, before, behind, a, b, c, d, f, own, fewer) }

  -- ---- a call begins

  poll_yet : (m : T) (b : Bool) (key : Option Key) (task : W) → yet_after (if b then asks_listener (Waiting.Send m) key task else again (Waiting.Send m) key task) ≤ 1
  poll_yet m false key task = omega arith
  poll_yet m true None task = omega arith
  poll_yet m true (Some key) task = omega arith

  none_yet : (b : Bool) (key : Option Key) (task : W) (t : NextStep T W) → t ≡ (if b then asks_listener Waiting.Receive key task else again Waiting.Receive key task) → yet_after t ≤ 0
  none_yet false key task t same = subst (λ (x : NextStep T W). yet_after x ≤ 0) (sym same) (omega arith)
  none_yet true None task t same = subst (λ (x : NextStep T W). yet_after x ≤ 0) (sym same) (omega arith)
  none_yet true (Some key) task t same = subst (λ (x : NextStep T W). yet_after x ≤ 0) (sym same) (omega arith)

  first_yet : (a : ChannelAsk T W) → yet_after (first a) ≤ length (brought a)
  first_yet (ChannelAsk.PollSend m l task) = poll_yet m l.asks_first l.key task
  first_yet (ChannelAsk.PollRecv l task) = none_yet l.asks_first l.key task _ refl
  first_yet (ChannelAsk.PollNext None task) = omega arith
  first_yet a = omega arith

  pub begin_brings : (s : Configuration T W) (p : ℕ) (a : ChannelAsk T W) (e : Entry T) (t : Configuration T W) → Begins s p a e t
      → yet_in t.under_way ≤ yet_in s.under_way + length (brought a)
  begin_brings s p a e t b =
      let more = ap yet_in b.under_way in
      let parts = yet_parts s.under_way (call_begun p a b.at s.now ∷ []) in
      let next = turned_yet (first a) b.answer b.at b.turned in
      let few = first_yet a in
      omega (arith, more, parts, next, few)
