-- How many steps a call still makes at most where the others are quiet.
use Rattle.std.proofs.Common.{◌≡◌, ◌≤◌, ◌<◌, ◌+◌, ◌-◌, ◌*◌, ◌^◌, ◌==◌, ◌&&◌, nat_lt, ℕ, zero, suc, Bool, true, false, if◌then◌else◌, List, [], ◌∷◌, ◌++◌, Option, None, Some, Ok, Err, inl, inr, refl, sym, ap, ◌∙◌, subst, arith}
use Rattle.std.proofs.lemmas.Bool.Decides.{nat_tests}
use Rattle.channel_steps.proofs.Words.{Contents, Queue, Phase, asked, ActiveQueueCall, Fits, PhasesQuiet, phases, QueueReply, QueueCall, Key, kind_of, listened, with_last, TryRecvError, Mark, Reply, Purpose, Closer, Ending, ListenerRef, WaitList, Sends, Receives, Streams, Closings, Making, Side, Stage, Trying, Working, Finished, NextStep, Tries, Works, Ends, Waiting, ListStep, TellReceive, TellStreams, TellSend, TellSends, TakeRoom, TellAll, Insert, Register, Leave, Lower, Count, Load, Raise, Parts, WaitLists, Listeners, listeners, with_listeners, waits, count, is_raised, most, line_of, leaving, nothing_kept, ends_by, again, pends_by, unlistened, closer_ending, dropper, told_all_next, room_next, roomless, lowered_next, counted_next, loaded_next, raised_next, gathered_next, short_next, answered_next, Channel, Effect, channel, Turned, Worked, Tried, seats, phase, IsTaken, Made, refused_next, Hastens, left_to_tell, one_try, listening_try, told_try, most_left, left_after_try, left_to_work, steps_left}
use Rattle.concurrent_queue.specs.declared.call.QueueAsk.TheVariants as ask
use Rattle.concurrent_queue.specs.declared.call.QueueReply.TheVariants as answer
use Rattle.concurrent_queue.specs.declared.error.PushError.TheVariants as push_error
use Rattle.concurrent_queue.specs.declared.error.ForcePushError.TheVariants as force_error
use Rattle.concurrent_queue.specs.declared.error.PopError.TheVariants as pop_error
use Rattle.concurrent_queue.proofs.Interface.{ranks}
use Rattle.channel_calls.specs.declared.error.TryRecvError.TheVariants as try_recv_error
use Rattle.channel_calls.specs.declared.reply.Reply.TheVariants as reply
use Rattle.channel_calls.specs.declared.stage.Purpose.TheVariants as purpose
use Rattle.channel_calls.specs.declared.stage.Making.TheVariants as making
use Rattle.channel_calls.specs.declared.stage.Waiting.TheVariants as waiting
use Rattle.channel_steps.proofs.LineFacts.{fresh_waits, same_line}
use Rattle.channel_steps.proofs.StageFacts.{phase_try, phase_work, phase_end}

-- ---- the steps that are left

module _ {T W : Type 0} where
  -- a call of the queue answers by its 64th step where the others are quiet
  abbrev pub left_to_turn : WaitLists W → NextStep T W → ℕ
  left_to_turn a (Tries x purpose) = one_try + left_after_try a purpose
  left_to_turn a (Works w) = left_to_work a w
  left_to_turn a (Ends x kept) = 0

few_or : (b : Bool) (n i j : ℕ) → i ≤ n → j ≤ n → (if b then i else j) ≤ n
few_or true n i j h k = h
few_or false n i j h k = k

few_to_tell : (line : WaitList) → left_to_tell line ≤ 5
few_to_tell Sends = omega arith
few_to_tell line = omega arith

-- how many more messages a call may take after the next one
abbrev pub wanted_after : {T W : Type 0} → Purpose T W → ℕ
wanted_after (purpose.RecvMany g) = g.more
wanted_after x = 0

few_after : {T W : Type 0} (a : WaitLists W) (x : Purpose T W) → left_after_try a x ≤ told_try + one_try * wanted_after x
few_after a (purpose.Poll line None task) = omega arith
few_after a (purpose.Poll line (Some key) task) = few_or (waits key (listeners line a)) told_try 3 told_try (omega arith) (omega arith)
few_after a x = omega arith

module _ {T W : Type 0} where
  abbrev pub wanted_by : ListStep T W → ℕ
  wanted_by (TakeRoom n) = n
  wanted_by w = 0

  -- how many more messages a call may take after the next one
  abbrev pub wanted : {Q : Type 0} → Stage Q T W → ℕ
  wanted (Trying call purpose) = wanted_after purpose
  wanted (Working w) = wanted_by w
  wanted (Finished kept) = 0

  few_to_work : (a : WaitLists W) (w : ListStep T W) → left_to_work a w ≤ told_try + one_try * wanted_by w
  few_to_work a (TellAll line c) = let h = few_to_tell line in omega (arith, h)
  few_to_work a (Register w key task) = few_or (waits key (listeners (line_of w) a)) told_try 1 told_try (omega arith) (omega arith)
  few_to_work a (Raise side n m) = few_or (is_raised side n a) told_try 1 3 (omega arith) (omega arith)
  few_to_work a w = omega arith

  -- no call has more left where the others are quiet, by how many further messages it may take
  pub few_left : (c : Contents T) (a : WaitLists W) (q : Queue T) (f : Phase T) (s : Stage (QueueCall T) T W) (l r : List (ActiveQueueCall T))
      → Fits c q (l ++ (seats f s ++ r)) → steps_left c a s ≤ most_left (wanted s)
  few_left c a q f (Trying call purpose) l r fits =
      let h = ranks c q f call l r fits in
      let k = few_after a purpose in
      omega (arith, h, k)
  few_left c a q f (Working w) l r fits = let h = few_to_work a w in omega (arith, h)
  few_left c a q f (Finished kept) l r fits = omega arith

-- ---- after an answer of the queue

register_or_try : (b : Bool) → (if b then 1 else told_try) ≤ (if b then 3 else told_try)
register_or_try true = omega arith
register_or_try false = omega arith

at_least : (b : Bool) (n i j : ℕ) → n ≤ i → n ≤ j → n ≤ (if b then i else j)
at_least true n i j h k = h
at_least false n i j h k = k

module _ (T : Type 0) {W : Type 0} (a : WaitLists W) where
  some_to_poll : (line : WaitList) (key : Option Key) (task : W) (n : ℕ) → n ≤ 3 → n ≤ left_after_try {T = T} a (purpose.Poll line key task)
  some_to_poll line None task n h = omega (arith, h)
  some_to_poll line (Some key) task n h = at_least (waits key (listeners line a)) n 3 told_try h (omega (arith, h))

module _ {T W : Type 0} (a : WaitLists W) where
  ended : (x : Reply T) (message : Option T) (held : Option ListenerRef)
      → left_to_turn a (let t : NextStep T W = ends_by (record { reply = x; message = message; held = held }) in t) ≤ 1
  ended x message None = omega arith
  ended x message (Some h) = omega arith

  ends_soon : (x : Ending T) → left_to_turn a (let t : NextStep T W = ends_by x in t) ≤ 1
  ends_soon x = ended x.reply x.message x.held

  refused_left : (w : Waiting T) (line : WaitList) (key : Option Key) (task : W) → line_of w ≡ line
      → left_to_turn a (refused_next w key task) ≤ left_after_try {T = T} a (purpose.Poll line key task)
  refused_left w line None task e = omega arith
  refused_left w line (Some key) task e =
      subst (λ (l : WaitList). (if waits key (listeners (line_of w) a) then 1 else told_try) ≤ (if waits key (listeners l a) then 3 else told_try)) e
      (register_or_try (waits key (listeners (line_of w) a)))

  gathered_left : (vs : List T) (k : ℕ) → left_to_turn a (let t : NextStep T W = gathered_next (with_last vs k) in t) ≤ 2 + one_try * k
  gathered_left vs zero = omega arith
  gathered_left vs (suc k) = omega arith

  short_left : (vs : List T) (e : TryRecvError) → left_to_turn a (let t : NextStep T W = short_next vs e in t) ≤ 2
  short_left [] e = omega arith
  short_left (v ∷ vs) e = omega arith

  soon : (key : Option Key) (task : W) (line : WaitList) (x : Ending T) → left_to_turn a (let t : NextStep T W = ends_by x in t) ≤ left_after_try {T = T} a (purpose.Poll line key task)
  soon key task line x = let h = ends_soon x in let k = some_to_poll T a line key task 1 (omega arith) in omega (arith, h, k)

  pub answered_left : (x : Purpose T W) (y : QueueReply T) → left_to_turn a (answered_next x y) ≤ left_after_try a x
  answered_left purpose.TrySend (answer.Push (Err (push_error.Full m))) = omega arith
  answered_left purpose.TrySend y = omega arith
  answered_left purpose.ForceSend (answer.Force (Err (force_error.Closed m))) = omega arith
  answered_left purpose.ForceSend y = omega arith
  answered_left purpose.TryRecv (answer.Pop (Err pop_error.Empty)) = omega arith
  answered_left purpose.TryRecv y = omega arith
  answered_left (purpose.RecvMany g) (answer.Pop (Ok m)) = gathered_left (g.taken ++ m ∷ []) g.more
  answered_left (purpose.RecvMany g) (answer.Pop (Err pop_error.Empty)) = let h = short_left g.taken try_recv_error.Empty in omega (arith, h)
  answered_left (purpose.RecvMany g) (answer.Pop (Err pop_error.Closed)) = let h = short_left g.taken try_recv_error.Closed in omega (arith, h)
  answered_left (purpose.RecvMany g) y = omega arith
  answered_left (purpose.Poll Sends key task) (answer.Push (Ok u)) = some_to_poll T a Sends key task 3 (omega arith)
  answered_left (purpose.Poll Sends key task) (answer.Push (Err (push_error.Full m))) = refused_left (waiting.Send m) Sends key task refl
  answered_left (purpose.Poll Sends key task) (answer.Push (Err (push_error.Closed m))) = soon key task Sends _
  answered_left (purpose.Poll Sends key task) (answer.Push (Err (push_error.NoMemory m))) = soon key task Sends _
  answered_left (purpose.Poll Receives key task) (answer.Pop (Ok m)) = some_to_poll T a Receives key task 2 (omega arith)
  answered_left (purpose.Poll Receives key task) (answer.Pop (Err pop_error.Empty)) = refused_left waiting.Receive Receives key task refl
  answered_left (purpose.Poll Receives key task) (answer.Pop (Err pop_error.Closed)) = soon key task Receives _
  answered_left (purpose.Poll Streams key task) (answer.Pop (Ok m)) = some_to_poll T a Streams key task 2 (omega arith)
  answered_left (purpose.Poll Streams key task) (answer.Pop (Err pop_error.Empty)) = refused_left waiting.Stream Streams key task refl
  answered_left (purpose.Poll Streams key task) (answer.Pop (Err pop_error.Closed)) = soon key task Streams _
  answered_left (purpose.Poll Closings key task) (answer.Flag true) = soon key task Closings _
  answered_left (purpose.Poll Closings key task) (answer.Flag false) = refused_left waiting.Closing Closings key task refl
  answered_left (purpose.Poll line key task) y = some_to_poll T a line key task 0 (omega arith)
  answered_left (purpose.Close c) (answer.Close true) = omega arith
  answered_left (purpose.Close c) (answer.Close false) = let h = ends_soon (closer_ending c false) in omega (arith, h)
  answered_left (purpose.Close c) y = omega arith
  answered_left purpose.Ask (answer.Flag b) = omega arith
  answered_left purpose.Ask y = omega arith
  answered_left purpose.IsTerminated (answer.Flag true) = omega arith
  answered_left purpose.IsTerminated y = omega arith
  answered_left (purpose.Upgrade side) (answer.Flag true) = omega arith
  answered_left (purpose.Upgrade side) y = omega arith

-- ---- after a step on a list or a count

pub raised_now : (n : ℕ) → nat_lt most n ≡ false → ((n == n) && nat_lt n (2 ^ 64 - 1)) ≡ true
raised_now n e = grind (arith, nat_tests)

module _ {T W : Type 0} where
  -- the turn that a step of this work takes, after which less is left
  pub record Lessens (c : Channel T W) (w : ListStep T W) (e : Effect T W) (r : Option (Reply T)) (s : Stage (Phase T) T W) : Type 0 where
    pub turn : NextStep T W
    pub turned : Turned turn r s
    pub less : left_to_turn e.channel.wait_lists turn < left_to_work c.wait_lists w

  module _ (c : Channel T W) (e : Effect T W) (r : Option (Reply T)) (s : Stage (Phase T) T W) where
    told_left : (line : WaitList) (by : Closer) → left_to_turn e.channel.wait_lists (let t : NextStep T W = told_all_next line by in t) < left_to_tell line
    told_left Closings by = let h = ends_soon {T = T} e.channel.wait_lists (closer_ending by true) in omega (arith, h)
    told_left w by = omega arith

    try_less : (b : Bool) → b ≡ true → one_try + (if b then 3 else told_try) < listening_try
    try_less true h = omega arith
    try_less false h = absurd cc

    inserted_less : (w : Waiting T) (task : W) (key : Key) (l : Listeners W) → kind_of l key ≡ None
        → e.channel.wait_lists ≡ with_listeners (line_of w) (listened key l) c.wait_lists
        → left_to_turn e.channel.wait_lists (again w (Some key) task) < listening_try
    inserted_less w task key l none same =
        let waiting : waits key (listeners (line_of w) e.channel.wait_lists) ≡ true =
        ap (λ (a : WaitLists W). waits key (listeners (line_of w) a)) same
        ∙ (ap (λ (x : Listeners W). waits key x) (same_line (line_of w) (listened key l) c.wait_lists) ∙ fresh_waits key l none) in
        try_less (waits key (listeners (line_of w) e.channel.wait_lists)) waiting

    registered_less : (b : Bool) (w : Waiting T) (key : Key) (task : W)
        → left_to_turn e.channel.wait_lists (if b then pends_by w key else again w None task) < (if b then 1 else told_try)
    registered_less true w key task = omega arith
    registered_less false w key task = omega arith

    lowered_less : (b : Bool) (by : Closer)
        → left_to_turn e.channel.wait_lists (let t : NextStep T W = if b then Tries ask.Close (purpose.Close by) else ends_by (closer_ending by false) in t) < 1 + one_try + 5
    lowered_less true by = omega arith
    lowered_less false by = let x : Ending T = closer_ending by false in let h = ends_soon e.channel.wait_lists x in omega (arith, h)

    raised_soon : (b : Bool) → b ≡ true → (if b then 1 else 3) < 2
    raised_soon true h = omega arith
    raised_soon false h = absurd cc

    counted_less : (b : Bool) (side : Side) (m : Making) → b ≡ nat_lt most (count side c.wait_lists)
        → left_to_turn c.wait_lists (let t : NextStep T W = if b then Ends reply.TooMany nothing_kept else Works (Raise side (count side c.wait_lists) m) in t) < 2
    counted_less true side m h = omega arith
    counted_less false side m h = raised_soon (is_raised side (count side c.wait_lists) c.wait_lists) (raised_now (count side c.wait_lists) (sym h))

    upgraded_less : (b : Bool) (side : Side)
        → left_to_turn c.wait_lists (let t : NextStep T W = if b then Ends reply.NotMade nothing_kept else counted_next side making.Upgrade (count side c.wait_lists) in t) < 2
    upgraded_less true side = omega arith
    upgraded_less false side = counted_less (nat_lt most (count side c.wait_lists)) side making.Upgrade refl

    loaded_less : (side : Side) (m : Making) → left_to_turn c.wait_lists (let t : NextStep T W = loaded_next side m (count side c.wait_lists) in t) < 2
    loaded_less side making.Clone = counted_less (nat_lt most (count side c.wait_lists)) side making.Clone refl
    loaded_less side making.Upgrade = upgraded_less (count side c.wait_lists == 0) side

    raised_less : (b : Bool) (side : Side) (m : Making) → left_to_turn e.channel.wait_lists (let t : NextStep T W = raised_next side m b in t) < (if b then 1 else 3)
    raised_less true side m = omega arith
    raised_less false side m = omega arith

    roomed_less : (n : ℕ) → left_to_turn e.channel.wait_lists (let t : NextStep T W = room_next n in t) < 3 + one_try * n
    roomed_less zero = omega arith
    roomed_less (suc n) = omega arith

    wait_lists_of : {e0 : Effect T W} → e ≡ e0 → e.channel.wait_lists ≡ e0.channel.wait_lists
    wait_lists_of h = ap (λ (x : Effect T W). x.channel.wait_lists) h

    pub work_lessens : (w : ListStep T W) → Worked c w e r s → Lessens c w e r s
    work_lessens (TellReceive x) h = record { turn = Works (TellStreams x); turned = h.1; less = omega arith }
    work_lessens (TellStreams x) h = record { turn = ends_by x; turned = h.1; less = (let k = ends_soon {W = W} e.channel.wait_lists x in omega (arith, k)) }
    work_lessens (TellSend x) h = record { turn = ends_by x; turned = h.1; less = (let k = ends_soon {W = W} e.channel.wait_lists x in omega (arith, k)) }
    work_lessens (TellSends n x) h = record { turn = ends_by x; turned = h.1; less = (let k = ends_soon {W = W} e.channel.wait_lists x in omega (arith, k)) }
    work_lessens (TakeRoom n) (h, inl t) = record { turn = room_next n; turned = t; less = roomed_less n }
    work_lessens (TakeRoom n) (h, inr t) = record { turn = roomless; turned = t.1; less = omega arith }
    work_lessens (TellAll line by) h = record { turn = told_all_next line by; turned = h.1; less = told_left line by }
    work_lessens (Insert w task) (inl h) =
        record { turn = again w (Some h.0) task; turned = h.3; less = inserted_less w task h.0 (listeners (line_of w) c.wait_lists) h.1 (wait_lists_of h.2) }
    work_lessens (Insert w task) (inr h) = record { turn = unlistened w h.0; turned = h.2; less = omega arith }
    work_lessens (Register w key task) h =
        let b = waits key (listeners (line_of w) c.wait_lists) in
        record { turn = if b then pends_by w key else again w None task; turned = h.1; less = registered_less b w key task }
    work_lessens (Leave x) h = record { turn = Ends x.reply (leaving None x.message); turned = h.1; less = omega arith }
    work_lessens (Lower side key) h =
        record { turn = lowered_next side key (count side c.wait_lists); turned = h.1; less = lowered_less (count side c.wait_lists == 1) (dropper side key) }
    work_lessens (Count side) h = record { turn = Ends (reply.Count (count side c.wait_lists)) nothing_kept; turned = h.1; less = omega arith }
    work_lessens (Load side m) h =
        record {
          turn = loaded_next side m (count side c.wait_lists);
          turned = h.1;
          less = subst (λ (a : WaitLists W). left_to_turn a (let t : NextStep T W = loaded_next side m (count side c.wait_lists) in t) < 2) (sym (wait_lists_of h.0)) (loaded_less side m);
        }
    work_lessens (Raise side n m) h =
        let b = is_raised side n c.wait_lists in
        record { turn = raised_next side m b; turned = h.1; less = raised_less b side m }

  -- ---- a step of a call, beside others that are quiet

  -- a turn that was taken leaves no more than it says
  module _ (c : Contents T) (a : WaitLists W) (q : Queue T) (f : Phase T) (l r : List (ActiveQueueCall T)) where
    tries_left : (call : QueueCall T) (purpose : Purpose T W) (s : Stage (QueueCall T) T W) → s ≡ Trying call purpose → Fits c q (l ++ (seats f s ++ r))
        → steps_left c a s ≤ one_try + left_after_try a purpose
    tries_left call purpose s same =
        subst (λ (z : Stage (QueueCall T) T W). Fits c q (l ++ (seats f z ++ r)) → steps_left c a z ≤ one_try + left_after_try a purpose) (sym same)
        (λ fits. let h = ranks c q f call l r fits in omega (arith, h))

    taken_left : (turn : NextStep T W) (x : Option (Reply T)) (s : Stage (QueueCall T) T W) → Fits c q (l ++ (seats f s ++ r)) → IsTaken turn x s → steps_left c a s ≤ left_to_turn a turn
    taken_left (Tries y purpose) x s fits (call, starts, none, same) = tries_left call purpose s same fits
    taken_left (Works w) x s fits (none, same) = subst (λ (z : Stage (QueueCall T) T W). steps_left c a z ≤ left_to_work a w) (sym same) (omega arith)
    taken_left (Ends y kept) x s fits (some, same) = subst (λ (z : Stage (QueueCall T) T W). steps_left c a z ≤ 0) (sym same) (omega arith)

    turned_left : (turn : NextStep T W) (x : Option (Reply T)) (s : Stage (QueueCall T) T W) → Fits c q (l ++ (seats f s ++ r)) → Turned turn x (phase f s) → steps_left c a s ≤ left_to_turn a turn
    turned_left (Tries y purpose) x s fits (none, same) = let t = phase_try f (asked y) purpose s same in tries_left t.0 purpose s t.1 fits
    turned_left (Works w) x s fits (none, same) = subst (λ (z : Stage (QueueCall T) T W). steps_left c a z ≤ left_to_work a w) (sym (phase_work f w s same)) (omega arith)
    turned_left (Ends y kept) x s fits (some, same) = subst (λ (z : Stage (QueueCall T) T W). steps_left c a z ≤ 0) (sym (phase_end f kept s same)) (omega arith)

  -- one that has not answered
  abbrev pub IsAtWork : Stage (QueueCall T) T W → Type 0
  IsAtWork (Trying call purpose) = Unit {0}
  IsAtWork (Working w) = Unit {0}
  IsAtWork (Finished kept) = ⊥

  module _ (parts parts' : Parts T W) (names : List W) (stage' : Stage (QueueCall T) T W) (m : Mark) (x : Option (Reply T))
      (blocks : List ℕ) (q : Queue T) (f : Phase T) (l r : List (ActiveQueueCall T)) where
    tried_less : (call : QueueCall T) (y : Purpose T W) (made : Made parts (Trying call y) names parts' stage' m x blocks q f l r)
        → Hastens parts.cells q f (Trying call y) parts'.cells x stage'
        → steps_left parts'.cells parts'.wait_lists stage' < steps_left parts.cells parts.wait_lists (Trying call y)
    tried_less call y made (inl (call', same, less)) =
        let moved : Tried (channel q parts) f y (record { channel = channel made.queue parts'; mark = m; woken = names }) x (phase made.phase_now stage') = made.moves in
        let still : left_after_try parts'.wait_lists y ≡ left_after_try parts.wait_lists y =
        ap (λ (e : Effect T W). left_after_try e.channel.wait_lists y) moved.effect in
        subst (λ (z : Stage (QueueCall T) T W). steps_left parts'.cells parts'.wait_lists z < steps_left parts.cells parts.wait_lists (Trying call y))
        (sym same) (omega (arith, less, still))
    tried_less call y made (inr (z, k, ans, taken)) =
        let moved : Tried (channel q parts) f y (record { channel = channel made.queue parts'; mark = m; woken = names }) x (phase made.phase_now stage') = made.moves in
        let still : left_after_try parts'.wait_lists y ≡ left_after_try parts.wait_lists y =
        ap (λ (e : Effect T W). left_after_try e.channel.wait_lists y) moved.effect in
        let turn = taken_left parts'.cells parts'.wait_lists made.queue made.phase_now l r (answered_next y z) x stage' (_, made.fits) taken in
        let falls = answered_left parts'.wait_lists y z in
        omega (arith, turn, falls, still)

    -- a step of a call at work leaves fewer where the others are quiet
    pub step_lessens : (stage : Stage (QueueCall T) T W) → IsAtWork stage → Made parts stage names parts' stage' m x blocks q f l r
        → PhasesQuiet q (phases (l ++ r)) → steps_left parts'.cells parts'.wait_lists stage' < steps_left parts.cells parts.wait_lists stage
    step_lessens (Trying call y) at made free = tried_less call y made (made.ends free)
    step_lessens (Working w) at made free =
        let e : Effect T W = record { channel = channel made.queue parts'; mark = m; woken = names } in
        let b : Lessens (channel q parts) w e x (phase made.phase_now stage') = work_lessens (channel q parts) e x (phase made.phase_now stage') w made.moves in
        let turn = turned_left parts'.cells parts'.wait_lists made.queue made.phase_now l r b.turn x stage' (_, made.fits) b.turned in
        let less = b.less in
        omega (arith, turn, less)
    step_lessens (Finished kept) at made free = absurd at
