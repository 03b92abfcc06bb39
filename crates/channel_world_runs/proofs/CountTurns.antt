-- What one step of a call does to the counts.
use Rattle.std.specs.Prelude.{◌≡◌, ◌+◌, ◌-◌, ◌^◌, ◌≤◌, ◌==◌, ◌&&◌, if◌then◌else◌, ◌⊎◌}
use Rattle.channel_world_runs.proofs.Lemmas.{arith, ℕ, Bool, true, false, nat_lt, List, [], Option, None, Some, inl, inr, refl, sym, ap, ◌∙◌, subst, nat_tests, Phase, Continues, QueueReply, listened, registration, removed, Key, answered_next, up, is_made, Channel, Effect, queued, untouched, on_line, on_count, leaves, Turned, TakesRoomFor, Inserts, Worked, Moves, WaitLists, Listeners, listeners, with_listeners, with_count, count, is_raised, line_of, leaving, nothing_kept, ends_by, again, pends_by, unlistened, told_all_next, room_next, roomless, lowered_next, loaded_next, raised_next, ChannelAsk, Reply, Purpose, Ending, ListenerRef, WaitList, Sends, Receives, Streams, Closings, Making, Side, Senders, Receivers, Stage, Trying, Working, Finished, NextStep, Tries, Works, Ends, WaitingStep as Waiting, ListStep, TellReceive, TellStreams, TellSend, TellSends, TakeRoom, TellAll, Insert, Register, Leave, Lower, Count, Load, Raise, StageAt, MarkedMoment, same_side, is_lowering, is_raising, bit, Stays, ends_has, told_all_has, room_has, lowered_has, loaded_has, answered_has}
use Rattle.concurrent_queue.specs.Queue.{Answers}
use Rattle.channel_calls.specs.Parts.{waits}

-- ---- a count

module _ {W : Type 0} where
  lines_count : (side : Side) (line : WaitList) (l : Listeners W) (r : WaitLists W) → count side (with_listeners line l r) ≡ count side r
  lines_count Senders Sends l r = refl
  lines_count Receivers Sends l r = refl
  lines_count side line l r = refl

  -- a count that is lowered by one
  lowered_count : (side s : Side) (r : WaitLists W) → bit (same_side side s) ≤ count side r
      → count side (with_count s (count s r - 1) r) + bit (same_side side s) ≡ count side r
  lowered_count Senders Senders r h = omega (arith, h)
  lowered_count Receivers Receivers r h = omega (arith, h)
  lowered_count Senders Receivers r h = omega arith
  lowered_count Receivers Senders r h = omega arith

  -- or raised, where it is still the one that was read
  raised_count : (side s : Side) (n : ℕ) (r : WaitLists W) → count s r ≡ n
      → count side (with_count s (n + 1) r) ≡ count side r + bit (same_side side s && true)
  raised_count Senders Senders n r h = omega (arith, h)
  raised_count Receivers Receivers n r h = omega (arith, h)
  raised_count Senders Receivers n r h = omega arith
  raised_count Receivers Senders n r h = omega arith

  was_read : (s : Side) (n : ℕ) (r : WaitLists W) → is_raised s n r ≡ true → count s r ≡ n
  was_read s n r h = by (count s r == n) refl h where
    by : (b : Bool) → (count s r == n) ≡ b → (b && nat_lt n (2 ^ 64 - 1)) ≡ true → count s r ≡ n
    by true e g = grind (arith, nat_tests, e)
    by false e g = absurd (let no : false ≡ true = g in cc)

module _ (T W : Type 0) where
  abbrev works_at : ListStep T W → Stage (Phase T) T W
  works_at w = Working w

  -- ---- steps

  -- what a step does to the count of a side: from n to m
  abbrev pub Turns : Side → Stage (Phase T) T W → ℕ → Option (Reply T) → Stage (Phase T) T W → ℕ → Type 0
  Turns side at n None s m = (m + bit (is_lowering side at) ≡ n + bit (is_lowering side s)) × (is_raising side s ≡ is_raising side at)
  Turns side at n (Some y) s m = m + bit (is_lowering side at) ≡ n + bit (is_raising side at && is_made (Some y))

  taken : (side : Side) (at : Stage (Phase T) T W) (t : NextStep T W) (r : Option (Reply T)) (s : Stage (Phase T) T W) (n m : ℕ)
      → Turned t r s → Stays T W side (is_raising side at) t → m + bit (is_lowering side at) ≡ n → Turns side at n r s m
  taken side at (Tries x a) None s n m h k e =
      subst (λ (z : Stage (Phase T) T W). Turns side at n None z m) (sym h.1) (omega (arith, e), k)
  taken side at (Works w) None s n m h k e =
      let none : bit (is_lowering side (works_at w)) ≡ 0 = ap bit k.0 in
      subst (λ (z : Stage (Phase T) T W). Turns side at n None z m) (sym h.1) (omega (arith, e, none), k.1)
  taken side at (Ends y kept) (Some z) s n m h k e =
      let none : bit (is_raising side at && is_made (Some z)) ≡ 0 =
      ap (λ (o : Option (Reply T)). bit (is_raising side at && is_made o)) h.0 ∙ ap bit k in
      omega (arith, e, none)
  taken side at (Tries x a) (Some z) s n m h k e = absurd (let no : Some z ≡ None = h.0 in cc)
  taken side at (Works w) (Some z) s n m h k e = absurd (let no : Some z ≡ None = h.0 in cc)
  taken side at (Ends y kept) None s n m h k e = absurd (let no : None ≡ Some y = h.0 in cc)

  module _ (side : Side) (c : Channel T W) where
    abbrev was : ℕ
    was = count side c.wait_lists

    abbrev Out : Stage (Phase T) T W → Option (Reply T) → Stage (Phase T) T W → Effect T W → Type 0
    Out at r s e = Turns side at was r s (count side e.channel.wait_lists)

    as_it : (at : Stage (Phase T) T W) (r : Option (Reply T)) (s : Stage (Phase T) T W) (e e' : Effect T W) → e ≡ e'
        → Out at r s e' → Out at r s e
    as_it at r s e e' same h = subst (λ (y : Effect T W). Out at r s y) (sym same) h

    -- a step on a list
    lists : (at : Stage (Phase T) T W) (t : NextStep T W) (r : Option (Reply T)) (s : Stage (Phase T) T W) (line : WaitList) (l : Listeners W)
        → is_lowering side at ≡ false → Turned t r s → Stays T W side (is_raising side at) t
        → Turns side at was r s (count side (with_listeners line l c.wait_lists))
    lists at t r s line l low h k =
        let same = lines_count side line l c.wait_lists in
        let none : bit (is_lowering side at) ≡ 0 = ap bit low in
        taken side at t r s was _ h k (omega (arith, same, none))

    -- or on nothing
    still : (at : Stage (Phase T) T W) (t : NextStep T W) (r : Option (Reply T)) (s : Stage (Phase T) T W)
        → is_lowering side at ≡ false → Turned t r s → Stays T W side (is_raising side at) t → Turns side at was r s was
    still at t r s low h k =
        let none : bit (is_lowering side at) ≡ 0 = ap bit low in
        taken side at t r s was was h k (omega (arith, none))

    left : (y : Ending T) (o : Option ListenerRef) (r : Option (Reply T)) (s : Stage (Phase T) T W)
        → Turned (Ends y.reply (leaving None y.message)) r s → Out (Working (Leave y)) r s (leaves o c)
    left y None r s h = still (Working (Leave y)) (Ends y.reply (leaving None y.message)) r s refl h refl
    left y (Some k) r s h =
        lists (Working (Leave y)) (Ends y.reply (leaving None y.message)) r s k.line (removed k.key true (listeners k.line c.wait_lists)) refl h refl

    asks : (w : Waiting T) (key : Key) (task : W) (b : Bool) (r : Option (Reply T)) (s : Stage (Phase T) T W)
        → Turned (if b then pends_by w key else again w None task) r s
        → Out (Working (Register w key task)) r s (on_line (line_of w) (registration key task (listeners (line_of w) c.wait_lists)) [] c)
    asks w key task true r s h = lists (Working (Register w key task)) (pends_by w key) r s (line_of w) _ refl h refl
    asks w key task false r s h = lists (Working (Register w key task)) (again w None task) r s (line_of w) _ refl h refl

    inserts : (w : Waiting T) (task : W) (e : Effect T W) (r : Option (Reply T)) (s : Stage (Phase T) T W)
        → Inserts w task c e r s → Out (Working (Insert w task)) r s e
    inserts w task e r s (inl (key, new, same, t)) =
        as_it (Working (Insert w task)) r s e _ same
        (lists (Working (Insert w task)) (again w (Some key) task) r s (line_of w) (listened key (listeners (line_of w) c.wait_lists)) refl t refl)
    inserts w task e r s (inr (error, same, t)) =
        as_it (Working (Insert w task)) r s e _ same (still (Working (Insert w task)) (unlistened w error) r s refl t refl)

    roomed : (n : ℕ) (r : Option (Reply T)) (s : Stage (Phase T) T W) → TakesRoomFor n r s → Out (Working (TakeRoom n)) r s (untouched c)
    roomed n r s (inl t) = still (Working (TakeRoom n)) (room_next n) r s refl t ((room_has T W n).1 side)
    roomed n r s (inr t) = still (Working (TakeRoom n)) roomless r s refl t.1 refl

    raised : (s : Side) (n : ℕ) (m : Making) (b : Bool) (r : Option (Reply T)) (at : Stage (Phase T) T W) → is_raised s n c.wait_lists ≡ b
        → Turned (raised_next s m b) r at
        → Out (Working (Raise s n m)) r at (if b then on_count s (n + 1) (up s) c else untouched c)
    raised s n m true None at e h = absurd (let no : None ≡ Some _ = h.0 in cc)
    raised s n m true (Some y) at e h =
        let more = raised_count side s n c.wait_lists (was_read s n c.wait_lists e) in
        let made : bit (same_side side s && is_made (Some y)) ≡ bit (same_side side s && true) =
        ap (λ (o : Option (Reply T)). bit (same_side side s && is_made o)) h.0 in
        omega (arith, more, made)
    raised s n m false r at e h = still (Working (Raise s n m)) (Works (Load s m)) r at refl h (refl, refl)

    works : (w : ListStep T W) (e : Effect T W) (r : Option (Reply T)) (s : Stage (Phase T) T W)
        → bit (is_lowering side (works_at w)) ≤ was → Worked c w e r s → Out (Working w) r s e
    works (TellReceive y) e r s low h =
        as_it (Working (TellReceive y)) r s e _ h.0 (lists (Working (TellReceive y)) (Works (TellStreams y)) r s Receives _ refl h.1 (refl, refl))
    works (TellStreams y) e r s low h =
        as_it (Working (TellStreams y)) r s e _ h.0 (lists (Working (TellStreams y)) (ends_by y) r s Streams _ refl h.1 ((ends_has T W y None).1 side))
    works (TellSend y) e r s low h =
        as_it (Working (TellSend y)) r s e _ h.0 (lists (Working (TellSend y)) (ends_by y) r s Sends _ refl h.1 ((ends_has T W y None).1 side))
    works (TellSends n y) e r s low h =
        as_it (Working (TellSends n y)) r s e _ h.0 (lists (Working (TellSends n y)) (ends_by y) r s Sends _ refl h.1 ((ends_has T W y None).1 side))
    works (TakeRoom n) e r s low h = as_it (Working (TakeRoom n)) r s e _ h.0 (roomed n r s h.1)
    works (TellAll line x) e r s low h =
        as_it (Working (TellAll line x)) r s e _ h.0
        (lists (Working (TellAll line x)) (told_all_next line x) r s line _ refl h.1 ((told_all_has T W line x None).1 side))
    works (Insert w task) e r s low h = inserts w task e r s h
    works (Register w key task) e r s low h =
        as_it (Working (Register w key task)) r s e _ h.0 (asks w key task (waits key (listeners (line_of w) c.wait_lists)) r s h.1)
    works (Leave y) e r s low h = as_it (Working (Leave y)) r s e _ h.0 (left y y.held r s h.1)
    works (Lower s key) e r at low h =
        as_it (Working (Lower s key)) r at e _ h.0
        (taken side (Working (Lower s key)) (lowered_next s key (count s c.wait_lists)) r at was _ h.1
        ((lowered_has T W s key (count s c.wait_lists) None).1 side) (lowered_count side s c.wait_lists low))
    works (Count s) e r at low h =
        as_it (Working (Count s)) r at e _ h.0 (still (Working (Count s)) (Ends (Reply.Count (count s c.wait_lists)) nothing_kept) r at refl h.1 refl)
    works (Load s m) e r at low h =
        as_it (Working (Load s m)) r at e _ h.0
        (still (Working (Load s m)) (loaded_next s m (count s c.wait_lists)) r at refl h.1 ((loaded_has T W s m (count s c.wait_lists)).1 side))
    works (Raise s n m) e r at low h =
        as_it (Working (Raise s n m)) r at e _ h.0 (raised s n m (is_raised s n c.wait_lists) r at refl h.1)

    goes_on : (f f' : Phase T) (a : Purpose T W) → is_raising side (Trying f' a) ≡ is_raising side (Trying f a)
    goes_on f f' Purpose.TrySend = refl
    goes_on f f' x = refl

    continues : (f f' : Phase T) (a : Purpose T W) (r : Option (Reply T)) (s : Stage (Phase T) T W) → r ≡ None → s ≡ Trying f' a
        → Turns side (Trying f a) was r s was
    continues f f' a None s none same =
        subst (λ (z : Stage (Phase T) T W). Turns side (Trying f a) was None z was) (sym same) (refl, goes_on f f' a)
    continues f f' a (Some y) s none same = absurd (let no : Some y ≡ None = none in cc)

    -- any step
    pub turns : (x : ChannelAsk T W) (at : Stage (Phase T) T W) (e : Effect T W) (r : Option (Reply T)) (s : Stage (Phase T) T W)
        (ds : List (MarkedMoment T W)) (seen : List (Channel T W)) → StageAt c x at ds seen → bit (is_lowering side at) ≤ was → Moves c at e r s
        → Out at r s e
    turns x (Trying f a) e r s ds seen k low h = tried h.how
      where
        tried : ((f' : Phase T) × Continues c.queue f h.mark f' × (r ≡ None) × (s ≡ Trying f' a))
            ⊎ ((y : QueueReply T) × Answers c.queue f h.mark y × Turned (answered_next a y) r s) → Out (Trying f a) r s e
        tried (inl g) = as_it (Trying f a) r s e (queued f h.mark c) h.effect (continues f g.0 a r s g.2 g.3)
        tried (inr g) =
            as_it (Trying f a) r s e (queued f h.mark c) h.effect
            (still (Trying f a) (answered_next a g.0) r s refl g.2 ((answered_has T W f c.queue x a f.ask h.mark g.0 f.stage ds seen k.0 g.1).1 side))
    turns x (Working w) e r s ds seen k low h = works w e r s low h
    turns x (Finished kept) e r s ds seen k low h = as_it (Finished kept) r s e (untouched c) h.0 (by r h.1)
      where
        by : (o : Option (Reply T)) → o ≡ None → Turns side (Finished kept) was o s was
        by None none = subst (λ (z : Stage (Phase T) T W). Turns side (Finished kept) was None z was) (sym h.2) (refl, refl)
        by (Some y) none = absurd (let no : Some y ≡ None = none in cc)
