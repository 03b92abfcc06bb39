-- A step on a list or on a count of a call that is alone at work.
use Rattle.channel_steps.proofs.solo.Words.{zero, suc, ◌∙◌, ◌≡◌, ℕ, ◌+◌, ◌==◌, nat_lt, Bool, true, false, if◌then◌else◌, [], Option, None, Some, inl, inr, refl, sym, ap, subst, Phase, Key, Reply, Closer, Ending, ListenerRef, WaitList, Sends, Receives, Streams, Closings, Making, Side, Stage, NextStep, Tries, Works, Ends, Waiting, ListStep, TellReceive, TellStreams, TellSend, TellSends, TakeRoom, TellAll, Insert, Register, Leave, Lower, Count, Load, Raise, listeners, waits, count, is_raised, most, line_of, message_of, ask_of, leaving, nothing_kept, ends_by, again, pends_by, pending_reply, unlistened, closer_ending, dropper, told_all_next, room_next, roomless, lowered_next, counted_next, loaded_next, raised_next, Channel, Effect, Turned, Worked, TakesRoomFor, tells_one, tells_more, tells_all, registers, leaves, lowers, raises, untouched, on_count, Outcome, Where, after_waking, answers, ends, receives_several, closes, clones}
use Rattle.channel_calls.specs.Marks.{up}
use Rattle.concurrent_queue.specs.declared.call.QueueAsk.TheVariants as ask
use Rattle.channel_calls.specs.declared.reply.Reply.TheVariants as reply
use Rattle.channel_calls.specs.declared.stage.Purpose.TheVariants as purpose
use Rattle.channel_calls.specs.declared.stage.Making.TheVariants as making
use Rattle.channel_steps.proofs.LeftFacts.{raised_now}
use Rattle.channel_steps.proofs.solo.Rest.{RestTry, RestWork, RestTurn, RestLoad, ends_rest, gathers_all}
use Rattle.channel_steps.proofs.solo.AnswerFacts.{given_then}

module _ {T W : Type 0} where
  -- what a step of this work leaves to be done, and what is made of the rest
  pub record Backs (c : Channel T W) (w : ListStep T W) (e : Effect T W) (r : Option (Reply T)) (s : Stage (Phase T) T W) : Type 0 where
    pub turn : NextStep T W
    pub turned : Turned turn r s
    pub back : (o : Outcome T W) → RestTurn turn e.channel o → RestWork w c (after_waking e.woken o)
    pub queue : e.channel.queue ≡ c.queue

  at_effect : (c : Channel T W) (w : ListStep T W) (e e0 : Effect T W) (r : Option (Reply T)) (s : Stage (Phase T) T W) → e ≡ e0 → Backs c w e0 r s → Backs c w e r s
  at_effect c w e e0 r s h b = subst (λ (x : Effect T W). Backs c w x r s) (sym h) b

  module _ (c : Channel T W) (r : Option (Reply T)) (s : Stage (Phase T) T W) where
    -- it tells, and then the call ends
    then_ends : (w : ListStep T W) (e : Effect T W) (x : Ending T) → Turned (ends_by x) r s → ((o : Outcome T W) → o ≡ ends [] x e.channel → RestWork w c (after_waking e.woken o))
        → e.channel.queue ≡ c.queue → Backs c w e r s
    then_ends w e x h back queue = record { turn = ends_by x; turned = h; back = λ o k. back o (ends_rest e.channel o x k); queue = queue }

    room_back : (n : ℕ) (o : Outcome T W) → RestTurn (room_next n) c o → o ≡ receives_several n c
    room_back zero o k = k
    room_back (suc n) o k = k ∙ gathers_all n c

    take_room : (n : ℕ) → TakesRoomFor n r s → Backs c (TakeRoom n) (untouched c) r s
    take_room n (inl t) = record { turn = room_next n; turned = t; back = λ o k. inr (room_back n o k); queue = refl }
    take_room n (inr t) = record { turn = roomless; turned = t.1; back = λ o k. inl (t.0, k); queue = refl }

    tell_all : (line : WaitList) (by : Closer) → Turned (told_all_next line by) r s → Backs c (TellAll line by) (tells_all line c) r s
    tell_all Closings by h =
        then_ends (TellAll Closings by) (tells_all Closings c) (closer_ending by true) h (λ o k. ap (λ (p : Outcome T W). after_waking (tells_all Closings c).woken p) k) refl
    tell_all line by h =
        record { turn = told_all_next line by; turned = h; back = λ o k. ap (λ (p : Outcome T W). after_waking (tells_all line c).woken p) k; queue = refl }

    registered_back : (b : Bool) (w : Waiting T) (key : Key) (task : W) (d : Channel T W) (o : Outcome T W) → RestTurn (if b then pends_by w key else again w None task) d o
        → Where b (o ≡ answers (pending_reply (line_of w)) (leaving (Some key) (message_of w)) d) (RestTry (ask_of w) (purpose.Poll (line_of w) None task) d o)
    registered_back true w key task d o k = k
    registered_back false w key task d o k = k

    registered : (w : Waiting T) (key : Key) (task : W) → Turned (if waits key (listeners (line_of w) c.wait_lists) then pends_by w key else again w None task) r s
        → Backs c (Register w key task) (registers (line_of w) key task c) r s
    registered w key task h =
        let b = waits key (listeners (line_of w) c.wait_lists) in
        let d = (registers (line_of w) key task c).channel in
        record {
          turn = if b then pends_by w key else again w None task;
          turned = h;
          back = λ o k. registered_back b w key task d o k;
          queue = refl;
        }

    left_queue : (held : Option ListenerRef) → (leaves held c).channel.queue ≡ c.queue
    left_queue None = refl
    left_queue (Some h) = refl

    left : (x : Ending T) → Turned (Ends x.reply (leaving None x.message)) r s → Backs c (Leave x) (leaves x.held c) r s
    left x h =
        record {
          turn = Ends x.reply (leaving None x.message);
          turned = h;
          back = λ o k. ap (λ (p : Outcome T W). after_waking (leaves x.held c).woken p) k;
          queue = left_queue x.held;
        }

    lowered_back : (b : Bool) (by : Closer) (d : Channel T W) (o : Outcome T W) → RestTurn (if b then Tries ask.Close (purpose.Close by) else ends_by (closer_ending by false)) d o
        → o ≡ (if b then closes by d else ends [] (closer_ending by false) d)
    lowered_back true by d o k = k
    lowered_back false by d o k = ends_rest d o (closer_ending by false) k

    lowered : (side : Side) (key : Option Key) → Turned (lowered_next side key (count side c.wait_lists)) r s → Backs c (Lower side key) (lowers side c) r s
    lowered side key h =
        let b = count side c.wait_lists == 1 in
        let d = (lowers side c).channel in
        record {
          turn = lowered_next side key (count side c.wait_lists);
          turned = h;
          back = λ o k. lowered_back b (dropper side key) d o k;
          queue = refl;
        }

    -- ---- a count that is raised

    counted_back : (b : Bool) (side : Side) (m : Making) → b ≡ nat_lt most (count side c.wait_lists) → (o : Outcome T W)
        → RestTurn (if b then Ends reply.TooMany nothing_kept else Works (Raise side (count side c.wait_lists) m)) c o
        → o ≡ (if b then answers reply.TooMany nothing_kept c else answers reply.Made nothing_kept (raises side (count side c.wait_lists) c).channel)
    counted_back true side m e o k = k
    counted_back false side m e o k = given_then (is_raised side (count side c.wait_lists) c.wait_lists) _ _ (raised_now (count side c.wait_lists) (sym e)) k

    upgraded_back : (b : Bool) (side : Side) (o : Outcome T W)
        → RestTurn (if b then Ends reply.NotMade nothing_kept else counted_next side making.Upgrade (count side c.wait_lists)) c o
        → o ≡ (if b then answers reply.NotMade nothing_kept c else clones side c)
    upgraded_back true side o k = k
    upgraded_back false side o k = counted_back (nat_lt most (count side c.wait_lists)) side making.Upgrade refl o k

    loaded : (side : Side) (m : Making) → Turned (loaded_next side m (count side c.wait_lists)) r s → Backs c (Load side m) (untouched c) r s
    loaded side making.Clone h =
        let n = count side c.wait_lists in
        record {
          turn = loaded_next side making.Clone n;
          turned = h;
          back = λ o k. counted_back (nat_lt most n) side making.Clone refl o k;
          queue = refl;
        }
    loaded side making.Upgrade h =
        let n = count side c.wait_lists in
        record {
          turn = loaded_next side making.Upgrade n;
          turned = h;
          back = λ o k. upgraded_back (n == 0) side o k;
          queue = refl;
        }

    raised_as : (b : Bool) (side : Side) (n : ℕ) (m : Making) (o : Outcome T W) → RestTurn (raised_next side m b) (if b then on_count side (n + 1) (up side) c else untouched c).channel o
        → Where b (after_waking (if b then on_count side (n + 1) (up side) c else untouched c).woken o ≡ answers reply.Made nothing_kept (if b then on_count side (n + 1) (up side) c else untouched c).channel)
        (RestLoad side m c (after_waking (if b then on_count side (n + 1) (up side) c else untouched c).woken o))
    raised_as true side n m o k = k
    raised_as false side n m o k = k

    raised_queue : (b : Bool) (side : Side) (n : ℕ) → (if b then on_count side (n + 1) (up side) c else untouched c).channel.queue ≡ c.queue
    raised_queue true side n = refl
    raised_queue false side n = refl

    raised : (side : Side) (n : ℕ) (m : Making) → Turned (raised_next side m (is_raised side n c.wait_lists)) r s → Backs c (Raise side n m) (raises side n c) r s
    raised side n m h =
        let b = is_raised side n c.wait_lists in
        record {
          turn = raised_next side m b;
          turned = h;
          back = λ o k. raised_as b side n m o k;
          queue = raised_queue b side n;
        }

  pub work_backs : (c : Channel T W) (w : ListStep T W) (e : Effect T W) (r : Option (Reply T)) (s : Stage (Phase T) T W) → Worked c w e r s → Backs c w e r s
  work_backs c (TellReceive x) e r s h = at_effect c _ e _ r s h.0 (record { turn = Works (TellStreams x); turned = h.1; back = λ o k. ap (λ (p : Outcome T W). after_waking (tells_one Receives c).woken p) k; queue = refl })
  work_backs c (TellStreams x) e r s h = at_effect c _ e _ r s h.0 (then_ends c r s (TellStreams x) (tells_all Streams c) x h.1 (λ o k. ap (λ (p : Outcome T W). after_waking (tells_all Streams c).woken p) k) refl)
  work_backs c (TellSend x) e r s h = at_effect c _ e _ r s h.0 (then_ends c r s (TellSend x) (tells_one Sends c) x h.1 (λ o k. ap (λ (p : Outcome T W). after_waking (tells_one Sends c).woken p) k) refl)
  work_backs c (TellSends n x) e r s h = at_effect c _ e _ r s h.0 (then_ends c r s (TellSends n x) (tells_more n Sends c) x h.1 (λ o k. ap (λ (p : Outcome T W). after_waking (tells_more n Sends c).woken p) k) refl)
  work_backs c (TakeRoom n) e r s h = at_effect c _ e _ r s h.0 (take_room c r s n h.1)
  work_backs c (TellAll line by) e r s h = at_effect c _ e _ r s h.0 (tell_all c r s line by h.1)
  work_backs c (Insert w task) e r s (inl h) = at_effect c _ e _ r s h.2 (record { turn = again w (Some h.0) task; turned = h.3; back = λ o k. inl (h.0, h.1, k); queue = refl })
  work_backs c (Insert w task) e r s (inr h) = at_effect c _ e _ r s h.1 (record { turn = unlistened w h.0; turned = h.2; back = λ o k. inr (h.0, k); queue = refl })
  work_backs c (Register w key task) e r s h = at_effect c _ e _ r s h.0 (registered c r s w key task h.1)
  work_backs c (Leave x) e r s h = at_effect c _ e _ r s h.0 (left c r s x h.1)
  work_backs c (Lower side key) e r s h = at_effect c _ e _ r s h.0 (lowered c r s side key h.1)
  work_backs c (Count side) e r s h =
      at_effect c _ e _ r s h.0 (record { turn = Ends (reply.Count (count side c.wait_lists)) nothing_kept; turned = h.1; back = λ o k. k; queue = refl })
  work_backs c (Load side m) e r s h = at_effect c _ e _ r s h.0 (loaded c r s side m h.1)
  work_backs c (Raise side n m) e r s h = at_effect c _ e _ r s h.0 (raised c r s side n m h.1)
