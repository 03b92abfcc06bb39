-- A step on a list or on a count, and what is known of the call after it.
use Rattle.std.proofs.Common.{zero, suc, ◌≡◌, ℕ, ◌+◌, ◌<◌, ◌≤◌, ◌==◌, ◌&&◌, nat_lt, ◌^◌, ◌-◌, Bool, true, false, if◌then◌else◌, List, [], ◌∷◌, ◌++◌, Option, None, Some, inl, inr, refl, sym, ap, ◌∙◌, subst, arith, append-nil, append_assoc}
use Rattle.std.proofs.lemmas.Bool.Decides.{nat_tests}
use Rattle.channel_steps.proofs.Words.{Phase, Key, up, down, Channel, Effect, untouched, on_count, leaves, Turned, Worked, WaitLists, listeners, count, is_raised, waits, most, line_of, leaving, nothing_kept, closer_ending, dropper, ends_by, again, pends_by, unlistened, told_all_next, room_next, roomless, lowered_next, counted_next, loaded_next, raised_next, ChannelAsk, Mark, Reply, Closer, Ending, ListenerRef, Returned, WaitList, Sends, Receives, Streams, Closings, Making, Side, Senders, Receivers, Stage, Working, NextStep, Tries, Works, Ends, Waiting, ListStep, TellReceive, TellStreams, TellSend, TellSends, TakeRoom, TellAll, Insert, Register, Leave, Lower, Count, Load, Raise, ListenError, TakesRoomFor, MarkedMoment, with_marked, Open, Once, TookAll, WaitsFor, asks_first, AreBehind, IsFor, Makes, IsDropOf, MayRaise, Answered, WorkAt, to_tell, Telling, one_of, more_of, all_of, owed, telling}
use Rattle.concurrent_queue.specs.declared.call.QueueAsk.TheVariants as ask
use Rattle.event_listener.specs.declared.error.ListenError.TheVariants as listen_error
use Rattle.channel_calls.specs.declared.ask.ChannelAsk.TheVariants as channel
use Rattle.channel_calls.specs.declared.mark.Mark.TheVariants.{Nothing}
use Rattle.channel_calls.specs.declared.reply.Reply.TheVariants as reply
use Rattle.channel_calls.specs.declared.stage.Purpose.TheVariants as purpose
use Rattle.channel_calls.specs.declared.stage.Making.TheVariants as making
use Rattle.channel_calls.specs.declared.stage.Waiting.TheVariants as waiting
use Rattle.channel_steps.proofs.TryFacts.{eq_of, open_once}
use Rattle.channel_steps.proofs.TurnFacts.{TurnAt, After, turned_at, ended, met_more, owes_nothing, told_nobody, tries_again}

most_of : (n : ℕ) → nat_lt most n ≡ false → n ≤ most
most_of n e = grind (arith, nat_tests)

past_most : (n : ℕ) → nat_lt most n ≡ true → most < n
past_most n e = grind (arith, nat_tests)

same_count : (n k : ℕ) (b : Bool) → ((n == k) && b) ≡ true → n ≡ k
same_count n k b e = grind (arith, nat_tests)

some_of : (n : ℕ) → (n == 0) ≡ false → 0 < n
some_of n e = grind (arith, nat_tests)

not_one : (n : ℕ) → (n == 1) ≡ false → n ≡ 1 → ⊥
not_one n e h = absurd (grind (arith, nat_tests))

module _ {T W : Type 0} where
  waits_more : (line : WaitList) (c : Channel T W) (seen : List (Channel T W)) → WaitsFor line seen → WaitsFor line (c ∷ seen)
  waits_more Streams c seen h = tt
  waits_more w c seen h = inr h

  makes_more : (x : ChannelAsk T W) (side : Side) (m : Making) (c : Channel T W) (seen : List (Channel T W)) → Makes x side m seen → Makes x side m (c ∷ seen)
  makes_more (channel.CloneHandle s) side making.Clone c seen h = h
  makes_more (channel.Upgrade s) side making.Upgrade c seen h = (h.0, inr h.1)
  makes_more x side m c seen h = absurd h

  pub answered_more : (x : ChannelAsk T W) (e : Ending T) (c : Channel T W) (ds : List (MarkedMoment T W)) (seen : List (Channel T W)) → Answered x e ds seen → Answered x e ds (c ∷ seen)
  answered_more x e c ds seen h = (met_more c x ds seen e.reply h.0, h.1)

  pub work_more : (x : ChannelAsk T W) (w : ListStep T W) (c : Channel T W) (ds : List (MarkedMoment T W)) (seen : List (Channel T W)) → WorkAt x w ds seen → WorkAt x w ds (c ∷ seen)
  work_more x (TellReceive e) c ds seen h = answered_more x e c ds seen h
  work_more x (TellStreams e) c ds seen h = answered_more x e c ds seen h
  work_more x (TellSend e) c ds seen h = answered_more x e c ds seen h
  work_more x (TellSends n e) c ds seen h = answered_more x e c ds seen h
  work_more x (TellAll line closer) c ds seen h = answered_more x (closer_ending closer true) c ds seen h
  work_more x (Insert w task) c ds seen h = (h.0, h.1, waits_more (line_of w) c seen h.2)
  work_more x (Register w key task) c ds seen h = (h.0, h.1, λ e. waits_more (line_of w) c seen (h.2 e))
  work_more x (Leave e) c ds seen h = answered_more x e c ds seen h
  work_more x (Load side making) c ds seen h = (makes_more x side making c seen h.0, h.1)
  work_more x (Raise side n making) c ds seen h = (makes_more x side making c seen h.0, h.1, h.2)
  work_more x w c ds seen h = h

  module _ (d : Channel T W) (ds : List (MarkedMoment T W)) (seen : List (Channel T W)) where
    -- ---- a poll

    -- it was not let listen
    not_listening : (x : ChannelAsk T W) (w : Waiting T) (error : ListenError) → IsFor x w → ds ≡ [] → WaitsFor (line_of w) (d ∷ seen) → TurnAt d x [] ds (d ∷ seen) (unlistened w error)
    not_listening (channel.PollSend m k t) (waiting.Send v) listen_error.NoMemory h e n = ((([], d ∷ seen, refl, (e, open_once (Some 0) (d ∷ seen) n)), ap (λ (z : T). let kept : Returned T = leaving None (Some z) in kept) h), owes_nothing ds e)
    not_listening (channel.PollSend m k t) (waiting.Send v) listen_error.SerialsUsedUp h e n = ((([], d ∷ seen, refl, (e, n)), ap (λ (z : T). let kept : Returned T = leaving None (Some z) in kept) h), owes_nothing ds e)
    not_listening (channel.PollRecv k t) waiting.Receive listen_error.NoMemory h e n = ((([], d ∷ seen, refl, (e, n)), refl), owes_nothing ds e)
    not_listening (channel.PollRecv k t) waiting.Receive listen_error.SerialsUsedUp h e n = ((([], d ∷ seen, refl, (e, n)), refl), owes_nothing ds e)
    not_listening (channel.PollNext k t) waiting.Stream error h e n = ((([], d ∷ seen, refl, e), refl), owes_nothing ds e)
    not_listening (channel.PollClosed k t) waiting.Closing error h e n = ((([], d ∷ seen, refl, (e, n)), refl), owes_nothing ds e)
    not_listening x w error h e n = absurd h

    -- it is pending
    pending : (x : ChannelAsk T W) (w : Waiting T) (key : Key) → IsFor x w → ds ≡ [] → (asks_first x ≡ false → WaitsFor (line_of w) (d ∷ seen)) → TurnAt d x [] ds (d ∷ seen) (pends_by w key)
    pending (channel.PollSend m k t) (waiting.Send v) key h e n = ((([], d ∷ seen, refl, (e, n)), (refl, ap (λ (z : T). Some z) h)), owes_nothing ds e)
    pending (channel.PollRecv k t) waiting.Receive key h e n = ((([], d ∷ seen, refl, (e, n)), (refl, refl)), owes_nothing ds e)
    pending (channel.PollNext k t) waiting.Stream key h e n = ((([], d ∷ seen, refl, (e, tt)), (refl, refl)), owes_nothing ds e)
    pending (channel.PollClosed k t) waiting.Closing key h e n = ((([], d ∷ seen, refl, (e, n refl)), (refl, refl)), owes_nothing ds e)
    pending x w key h e n = absurd h

    registered : (x : ChannelAsk T W) (w : Waiting T) (key : Key) (task : W) (b : Bool) → IsFor x w → ds ≡ [] → (asks_first x ≡ false → WaitsFor (line_of w) (d ∷ seen))
        → TurnAt d x [] ds (d ∷ seen) (if b then pends_by w key else again w None task)
    registered x w key task true h e n = pending x w key h e n
    registered x w key task false h e n = tries_again d [] ds (d ∷ seen) x w None task h e refl

  module _ (c d : Channel T W) (seen : List (Channel T W)) where
    -- ---- a handle is dropped

    lowered_at : (x : ChannelAsk T W) (side : Side) (key : Option Key) (b : Bool) → (count side c.wait_lists == 1) ≡ b → IsDropOf x side
        → TurnAt d x [] (with_marked [] (down side) c seen) (d ∷ seen) (if b then Tries ask.Close (purpose.Close (dropper side key)) else ends_by (closer_ending (dropper side key) false))
    lowered_at channel.DropSender Senders key true e h = (((refl, eq_of (count Senders c.wait_lists) 1 e, d ∷ [], refl), tt), refl)
    lowered_at channel.DropSender Senders key false e h = ((([], d ∷ seen, refl, ((refl, inl (λ k. not_one (count Senders c.wait_lists) e k)), refl)), refl), refl)
    lowered_at (channel.DropReceiver k) Receivers key true e h = (((refl, eq_of (count Receivers c.wait_lists) 1 e, d ∷ [], refl), tt), refl)
    lowered_at (channel.DropReceiver k) Receivers key false e h =
        ended d (channel.DropReceiver k) [] (with_marked [] (down Receivers) c seen) (d ∷ seen) (closer_ending (dropper Receivers key) false)
        (([], d ∷ seen, refl, ((refl, inl (λ j. not_one (count Receivers c.wait_lists) e j)), refl)), refl) refl
    lowered_at x side key b e h = absurd h

    -- ---- a handle is made

    same_wait_lists : (P : ℕ → Type 0) (side s : Side) → side ≡ s → d.wait_lists ≡ c.wait_lists → P (count side c.wait_lists) → P (count s d.wait_lists)
    same_wait_lists P side s e f h =
        subst (λ (z : Side). P (count z d.wait_lists)) e (subst (λ (a : WaitLists W). P (count side a)) (sym f) h)

    cloned_at : (ds : List (MarkedMoment T W)) (s side : Side) (b : Bool) → nat_lt most (count side c.wait_lists) ≡ b → side ≡ s → d.wait_lists ≡ c.wait_lists → ds ≡ []
        → TurnAt d (channel.CloneHandle s) [] ds (d ∷ seen) (if b then Ends reply.TooMany nothing_kept else Works (Raise side (count side c.wait_lists) making.Clone))
    cloned_at ds s side true e h f k = ((([], d ∷ seen, refl, (k, inl (same_wait_lists (λ n. most < n) side s h f (past_most (count side c.wait_lists) e)))), refl), owes_nothing ds k)
    cloned_at ds s side false e h f k = ((h, k, most_of (count side c.wait_lists) e), owes_nothing ds k)

    checked_at : (ds : List (MarkedMoment T W)) (s side : Side) (b : Bool) → nat_lt most (count side c.wait_lists) ≡ b → side ≡ s → d.wait_lists ≡ c.wait_lists → 0 < count side c.wait_lists → Once Open seen → ds ≡ []
        → TurnAt d (channel.Upgrade s) [] ds (d ∷ seen) (if b then Ends reply.TooMany nothing_kept else Works (Raise side (count side c.wait_lists) making.Upgrade))
    checked_at ds s side true e h f some o k =
        ((([], d ∷ seen, refl, (k, inl (same_wait_lists (λ n. most < n) side s h f (past_most (count side c.wait_lists) e), inr o))), refl), owes_nothing ds k)
    checked_at ds s side false e h f some o k = (((h, inr o), k, (some, most_of (count side c.wait_lists) e)), owes_nothing ds k)

    renewed_at : (ds : List (MarkedMoment T W)) (s side : Side) (z : Bool) → (count side c.wait_lists == 0) ≡ z → side ≡ s → d.wait_lists ≡ c.wait_lists → Once Open seen → ds ≡ []
        → TurnAt d (channel.Upgrade s) [] ds (d ∷ seen) (if z then Ends reply.NotMade nothing_kept else counted_next side making.Upgrade (count side c.wait_lists))
    renewed_at ds s side true e h f o k = ((([], d ∷ seen, refl, (k, inl (inr (same_wait_lists (λ n. n ≡ 0) side s h f (eq_of (count side c.wait_lists) 0 e))))), refl), owes_nothing ds k)
    renewed_at ds s side false e h f o k = checked_at ds s side (nat_lt most (count side c.wait_lists)) refl h f (some_of (count side c.wait_lists) e) o k

    loaded_at : (ds : List (MarkedMoment T W)) (x : ChannelAsk T W) (side : Side) (m : Making) → d.wait_lists ≡ c.wait_lists → Makes x side m seen → ds ≡ []
        → TurnAt d x [] ds (d ∷ seen) (loaded_next side m (count side c.wait_lists))
    loaded_at ds (channel.CloneHandle s) side making.Clone f h k = cloned_at ds s side (nat_lt most (count side c.wait_lists)) refl h f k
    loaded_at ds (channel.Upgrade s) side making.Upgrade f h k = renewed_at ds s side (count side c.wait_lists == 0) refl h.0 f h.1 k
    loaded_at ds x side m f h k = absurd h

    raised_clone : (side : Side) → count side c.wait_lists ≤ most → TurnAt d (channel.CloneHandle side) [] (with_marked [] (up side) c seen) (d ∷ seen) (raised_next side making.Clone true)
    raised_clone Senders h = ((([], d ∷ seen, refl, (refl, h)), refl), refl)
    raised_clone Receivers h = ((([], d ∷ seen, refl, (refl, h)), refl), refl)

    raised_again : (side : Side) → 0 < count side c.wait_lists → count side c.wait_lists ≤ most → Once Open seen
        → TurnAt d (channel.Upgrade side) [] (with_marked [] (up side) c seen) (d ∷ seen) (raised_next side making.Upgrade true)
    raised_again Senders some h o = ((([], d ∷ seen, refl, (refl, some, h, o)), refl), refl)
    raised_again Receivers some h o = ((([], d ∷ seen, refl, (refl, some, h, o)), refl), refl)

    raised_at : (x : ChannelAsk T W) (side : Side) (m : Making) (n : ℕ) → count side c.wait_lists ≡ n → Makes x side m seen → MayRaise m n
        → TurnAt d x [] (with_marked [] (up side) c seen) (d ∷ seen) (raised_next side m true)
    raised_at (channel.CloneHandle s) side making.Clone n e h k =
        subst (λ (z : Side). TurnAt d (channel.CloneHandle z) [] (with_marked [] (up side) c seen) (d ∷ seen) (raised_next side making.Clone true)) h
        (raised_clone side (subst (λ (i : ℕ). i ≤ most) (sym e) k))
    raised_at (channel.Upgrade s) side making.Upgrade n e h k =
        subst (λ (z : Side). TurnAt d (channel.Upgrade z) [] (with_marked [] (up side) c seen) (d ∷ seen) (raised_next side making.Upgrade true)) h.0
        (raised_again side (subst (λ (i : ℕ). 0 < i) (sym e) k.0) (subst (λ (i : ℕ). i ≤ most) (sym e) k.1) h.1)
    raised_at x side m n e h k = absurd h

  -- ---- any step on a list or on a count

  module _ (c : Channel T W) (x : ChannelAsk T W) (told : List Telling) (ds : List (MarkedMoment T W)) (seen : List (Channel T W)) where
    -- what is known after a step with the effect e, which told these
    abbrev pub AfterWork : List Telling → Effect T W → Option (Reply T) → Stage (Phase T) T W → Type 0
    AfterWork ts e r s = After e.channel x (told ++ ts) (with_marked ds e.mark c seen) (e.channel ∷ seen) r s

    -- a step that told somebody
    telling_step : (ts : List Telling) (e : Effect T W) (r : Option (Reply T)) (s : Stage (Phase T) T W) (turn : NextStep T W) → e.mark ≡ Nothing → Turned turn r s
        → TurnAt e.channel x (told ++ ts) ds (e.channel ∷ seen) turn → AfterWork ts e r s
    telling_step ts e r s turn m t h =
        subst (λ (z : Mark). After e.channel x (told ++ ts) (with_marked ds z c seen) (e.channel ∷ seen) r s) (sym m)
        (turned_at e.channel x (told ++ ts) ds (e.channel ∷ seen) turn r s t h)

    -- a step of a call that has told nobody
    first_step : (m : Mark) (e : Effect T W) (r : Option (Reply T)) (s : Stage (Phase T) T W) (turn : NextStep T W) → e.mark ≡ m → told ≡ [] → Turned turn r s
        → TurnAt e.channel x [] (with_marked ds m c seen) (e.channel ∷ seen) turn → AfterWork [] e r s
    first_step m e r s turn same none t h =
        subst (λ (z : Mark). After e.channel x (told ++ []) (with_marked ds z c seen) (e.channel ∷ seen) r s) (sym same)
        (subst (λ (ts : List Telling). After e.channel x (ts ++ []) (with_marked ds m c seen) (e.channel ∷ seen) r s) (sym none)
        (turned_at e.channel x [] (with_marked ds m c seen) (e.channel ∷ seen) turn r s t h))

    mark_is : (e f : Effect T W) → e ≡ f → e.mark ≡ f.mark
    mark_is e f h = ap (λ (z : Effect T W). z.mark) h

    wait_lists_is : (e f : Effect T W) → e ≡ f → e.channel.wait_lists ≡ f.channel.wait_lists
    wait_lists_is e f h = ap (λ (z : Effect T W). z.channel.wait_lists) h

    left_mark : (o : Option ListenerRef) → (leaves o c).mark ≡ Nothing
    left_mark None = refl
    left_mark (Some h) = refl

    then_tell : (t : Telling) (ts : List Telling) → told ++ (t ∷ ts) ≡ owed ds → (told ++ t ∷ []) ++ ts ≡ owed ds
    then_tell t ts h = append_assoc told (t ∷ []) ts ∙ h

    told_all : (line : WaitList) (closer : Closer) (e : Effect T W) (r : Option (Reply T)) (s : Stage (Phase T) T W) → e.mark ≡ Nothing → Turned (told_all_next line closer) r s
        → Answered x (closer_ending closer true) ds seen → (let w : ListStep T W = TellAll line closer in told ++ to_tell w ≡ owed ds) → AfterWork (all_of line ∷ []) e r s
    told_all Sends closer e r s m t h k = telling_step _ e r s (Works (TellAll Receives closer)) m t (answered_more x (closer_ending closer true) e.channel ds seen h, then_tell _ _ k)
    told_all Receives closer e r s m t h k = telling_step _ e r s (Works (TellAll Streams closer)) m t (answered_more x (closer_ending closer true) e.channel ds seen h, then_tell _ _ k)
    told_all Streams closer e r s m t h k = telling_step _ e r s (Works (TellAll Closings closer)) m t (answered_more x (closer_ending closer true) e.channel ds seen h, then_tell _ _ k)
    told_all Closings closer e r s m t h k =
        telling_step _ e r s (ends_by (closer_ending closer true)) m t
        (ended e.channel x (told ++ all_of Closings ∷ []) ds (e.channel ∷ seen) (closer_ending closer true) (answered_more x (closer_ending closer true) e.channel ds seen h) (then_tell _ [] k))

    dropped : (side : Side) (key : Option Key) (e : Effect T W) (r : Option (Reply T)) (s : Stage (Phase T) T W) → e.mark ≡ down side → Turned (lowered_next side key (count side c.wait_lists)) r s
        → IsDropOf x side → ds ≡ [] → told ≡ [] → AfterWork [] e r s
    dropped side key e r s m t h k n =
        first_step (down side) e r s (lowered_next side key (count side c.wait_lists)) m n t
        (subst (λ (xs : List (MarkedMoment T W)). TurnAt e.channel x [] (with_marked xs (down side) c seen) (e.channel ∷ seen) (lowered_next side key (count side c.wait_lists))) (sym k)
        (lowered_at c e.channel seen x side key (count side c.wait_lists == 1) refl h))

    counted : (side : Side) (e : Effect T W) → e.channel.wait_lists ≡ c.wait_lists → x ≡ channel.HandleCount side → ds ≡ []
        → TurnAt e.channel x [] ds (e.channel ∷ seen) (Ends (reply.Count (count side c.wait_lists)) nothing_kept)
    counted side e f h k =
        subst (λ (y : ChannelAsk T W). TurnAt e.channel y [] ds (e.channel ∷ seen) (Ends (reply.Count (count side c.wait_lists)) nothing_kept)) (sym h)
        ((([], e.channel ∷ seen, refl, (k, inl (ap (λ (a : WaitLists W). count side a) f))), refl), owes_nothing ds k)

    raising : (side : Side) (n : ℕ) (m : Making) (b : Bool) (e : Effect T W) (r : Option (Reply T)) (s : Stage (Phase T) T W) → is_raised side n c.wait_lists ≡ b
        → e ≡ (if b then on_count side (n + 1) (up side) c else untouched c) → Turned (raised_next side m b) r s → Makes x side m seen → ds ≡ [] → MayRaise m n → told ≡ [] → AfterWork [] e r s
    raising side n m true e r s is f t h k may none =
        first_step (up side) e r s (raised_next side m true) (mark_is e _ f) none t
        (subst (λ (xs : List (MarkedMoment T W)). TurnAt e.channel x [] (with_marked xs (up side) c seen) (e.channel ∷ seen) (raised_next side m true)) (sym k)
        (raised_at c e.channel seen x side m n (same_count (count side c.wait_lists) n (nat_lt n (2 ^ 64 - 1)) is) h may))
    raising side n m false e r s is f t h k may none =
        first_step Nothing e r s (Works (Load side m)) (mark_is e _ f) none t ((makes_more x side m e.channel seen h, k), owes_nothing ds k)

    room_at : (n : ℕ) (d : Channel T W) → ds ≡ [] → TurnAt d (channel.RecvMany n) [] ds (d ∷ seen) (room_next n)
    room_at zero d e = ((([], d ∷ seen, refl, (subst (λ (xs : List (MarkedMoment T W)). TookAll xs []) (sym e) tt, inl refl)), refl), owes_nothing ds e)
    room_at (suc n) d e =
        ((omega arith, ([], record { before = []; all = e; took = tt; behind = subst (λ (xs : List (MarkedMoment T W)). AreBehind xs (d ∷ seen)) (sym e) tt }, refl)), refl)

    roomed : (n : ℕ) (e : Effect T W) (r : Option (Reply T)) (s : Stage (Phase T) T W) → e.mark ≡ Nothing → x ≡ channel.RecvMany n → ds ≡ [] → told ≡ [] → TakesRoomFor n r s → AfterWork [] e r s
    roomed n e r s m is k none (inl t) =
        first_step Nothing e r s (room_next n) m none t
        (subst (λ (y : ChannelAsk T W). TurnAt e.channel y [] ds (e.channel ∷ seen) (room_next n)) (sym is) (room_at n e.channel k))
    roomed n e r s m is k none (inr t) =
        first_step Nothing e r s roomless m none t.1
        (subst (λ (y : ChannelAsk T W). TurnAt e.channel y [] ds (e.channel ∷ seen) roomless) (sym is) ((([], e.channel ∷ seen, refl, (k, t.0)), refl), owes_nothing ds k))

    pub worked : (w : ListStep T W) (e : Effect T W) (r : Option (Reply T)) (s : Stage (Phase T) T W) → WorkAt x w ds seen → told ++ to_tell w ≡ owed ds → Worked c w e r s → AfterWork (telling (Working w)) e r s
    worked (TellReceive y) e r s h k g =
        telling_step _ e r s (Works (TellStreams y)) (mark_is e _ g.0) g.1 (answered_more x y e.channel ds seen h, then_tell _ _ k)
    worked (TellStreams y) e r s h k g =
        telling_step _ e r s (ends_by y) (mark_is e _ g.0) g.1
        (ended e.channel x (told ++ all_of Streams ∷ []) ds (e.channel ∷ seen) y (answered_more x y e.channel ds seen h) (then_tell _ [] k))
    worked (TellSend y) e r s h k g =
        telling_step _ e r s (ends_by y) (mark_is e _ g.0) g.1
        (ended e.channel x (told ++ one_of Sends ∷ []) ds (e.channel ∷ seen) y (answered_more x y e.channel ds seen h) (then_tell _ [] k))
    worked (TellSends n y) e r s h k g =
        telling_step _ e r s (ends_by y) (mark_is e _ g.0) g.1
        (ended e.channel x (told ++ more_of n Sends ∷ []) ds (e.channel ∷ seen) y (answered_more x y e.channel ds seen h) (then_tell _ [] k))
    worked (TakeRoom n) e r s h k g = roomed n e r s (mark_is e _ g.0) h.0 h.1 (told_nobody told ds k h.1) g.1
    worked (TellAll line closer) e r s h k g = told_all line closer e r s (mark_is e _ g.0) g.1 h k
    worked (Insert w task) e r s h k (inl g) =
        let none : told ≡ [] = told_nobody told ds k h.1 in
        first_step Nothing e r s (again w (Some g.0) task) (mark_is e _ g.2) none g.3 (tries_again e.channel [] ds (e.channel ∷ seen) x w (Some g.0) task h.0 h.1 refl)
    worked (Insert w task) e r s h k (inr g) =
        let none : told ≡ [] = told_nobody told ds k h.1 in
        first_step Nothing e r s (unlistened w g.0) (mark_is e _ g.1) none g.2 (not_listening e.channel ds seen x w g.0 h.0 h.1 (waits_more (line_of w) e.channel seen h.2))
    worked (Register w key task) e r s h k g =
        let none : told ≡ [] = told_nobody told ds k h.1 in
        first_step Nothing e r s (if waits key (listeners (line_of w) c.wait_lists) then pends_by w key else again w None task) (mark_is e _ g.0) none g.1
        (registered e.channel ds seen x w key task (waits key (listeners (line_of w) c.wait_lists)) h.0 h.1 (λ f. waits_more (line_of w) e.channel seen (h.2 f)))
    worked (Leave y) e r s h k g =
        telling_step [] e r s (Ends y.reply (leaving None y.message)) (mark_is e _ g.0 ∙ left_mark y.held) g.1
        (answered_more x y e.channel ds seen h, subst (λ (ts : List Telling). ts ++ [] ≡ owed ds) (sym (append-nil told)) k)
    worked (Lower side key) e r s h k g = dropped side key e r s (mark_is e _ g.0) g.1 h.0 h.1 (told_nobody told ds k h.1)
    worked (Count side) e r s h k g =
        first_step Nothing e r s (Ends (reply.Count (count side c.wait_lists)) nothing_kept) (mark_is e _ g.0) (told_nobody told ds k h.1) g.1 (counted side e (wait_lists_is e _ g.0) h.0 h.1)
    worked (Load side m) e r s h k g =
        first_step Nothing e r s (loaded_next side m (count side c.wait_lists)) (mark_is e _ g.0) (told_nobody told ds k h.1) g.1 (loaded_at c e.channel seen ds x side m (wait_lists_is e _ g.0) h.0 h.1)
    worked (Raise side n m) e r s h k g = raising side n m (is_raised side n c.wait_lists) e r s refl g.0 g.1 h.0 h.1 h.2 (told_nobody told ds k h.1)
