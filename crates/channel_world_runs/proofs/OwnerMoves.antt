-- What a step of a call does to the listeners, and what it has in hand then.
use Rattle.std.specs.Prelude.{◌≡◌, ◌+◌, ◌-◌, if◌then◌else◌, ◌⊎◌}
use Rattle.channel_world_runs.proofs.Lemmas.{ℕ, Bool, true, false, List, [], Option, None, Some, inl, inr, refl, sym, ap, ◌∙◌, subst, Phase, Continues, QueueReply, answered_next, Purpose, listened, registration, removed, removed_wakes, Key, up, Channel, Effect, queued, untouched, on_line, on_count, leaves, Turned, TakesRoomFor, Inserts, Worked, Moves, WaitLists, Listeners, listeners, with_listeners, with_count, count, is_raised, told_one, told_one_wakes, told_more, told_more_wakes, told_all, told_all_wakes, line_of, leaving, again, pends_by, unlistened, room_next, roomless, lowered_next, ChannelAsk, Reply, Ending, ListenerRef, Returned, WaitList, Sends, Receives, Streams, Closings, Side, Senders, Receivers, Stage, Trying, Working, Finished, NextStep, Tries, Works, Ends, WaitingStep as Waiting, ListStep, TellReceive, TellStreams, TellSend, TellSends, TakeRoom, TellAll, Insert, Register, Leave, Lower, Count, Load, Raise, MarkedMoment, IsFor, StageAt, IsAmong, holding, task_at, work_holds, work_task, wait_of, Bears, WaitsToWake, on, MayBear, Has, ends_has, told_all_has, room_has, lowered_has, loaded_has, raised_has, answered_has}
use Rattle.concurrent_queue.specs.Queue.{Answers}
use Rattle.channel_calls.specs.Parts.{waits}
use Rattle.channel_world_runs.proofs.OwnerKeys as list

-- ---- the four lists

pub line_or : (a b : WaitList) → (a ≡ b) ⊎ (a ≡ b → ⊥)
line_or Sends Sends = inl refl
line_or Receives Receives = inl refl
line_or Streams Streams = inl refl
line_or Closings Closings = inl refl
line_or a b = inr (λ e. absurd (cc e))

line_is : (a b : WaitList) (k h : Key) → on a k ≡ on b h → b ≡ a
line_is a b k h e = sym (ap (λ (o : Option ListenerRef). elim o [ None ↦ a | Some x ↦ x.line ]) e)

no_held : (h : ListenerRef) → (let none : Option ListenerRef = None in none ≡ Some h) → ⊥
no_held h e = absurd (let never : None ≡ Some h = e in cc)

module _ {W : Type 0} where
  pub same_list : (line : WaitList) (l : Listeners W) (r : WaitLists W) → listeners line (with_listeners line l r) ≡ l
  same_list Sends l r = refl
  same_list x l r = refl

  pub other_list : (line at : WaitList) (l : Listeners W) (r : WaitLists W) → (line ≡ at → ⊥)
      → listeners line (with_listeners at l r) ≡ listeners line r
  other_list Sends Sends l r f = absurd (f refl)
  other_list Receives Receives l r f = absurd (f refl)
  other_list Streams Streams l r f = absurd (f refl)
  other_list Closings Closings l r f = absurd (f refl)
  other_list x at l r f = refl

  pub counted_list : (line : WaitList) (side : Side) (n : ℕ) (r : WaitLists W) → listeners line (with_count side n r) ≡ listeners line r
  counted_list Sends Senders n r = refl
  counted_list Receives Senders n r = refl
  counted_list Streams Senders n r = refl
  counted_list Closings Senders n r = refl
  counted_list line side n r = refl

  -- each list after a step
  abbrev pub Lists : WaitLists W → WaitLists W → List W → Option ListenerRef → Option ListenerRef → Type 0
  Lists r r' names had has = (line : WaitList) → list.Turned line (listeners line r) (listeners line r') names had has

  -- a step on one list
  on_list : (at : WaitList) (l : Listeners W) (names : List W) (r : WaitLists W) (had has : Option ListenerRef)
      → list.Turned at (listeners at r) l names had has
      → ((line : WaitList) → (line ≡ at → ⊥) → list.Turned line (listeners line r) (listeners line r) names had has)
      → Lists r (with_listeners at l r) names had has
  on_list at l names r had has h others line = by (line_or line at)
    where
      by : (line ≡ at) ⊎ (line ≡ at → ⊥)
          → list.Turned line (listeners line r) (listeners line (with_listeners at l r)) names had has
      by (inl same) =
          subst (λ (x : WaitList). list.Turned x (listeners x r) (listeners x (with_listeners at l r)) names had has) (sym same)
          (subst (λ (y : Listeners W). list.Turned at (listeners at r) y names had has) (sym (same_list at l r)) h)
      by (inr other) = subst (λ (y : Listeners W). list.Turned line (listeners line r) y names had has)
          (sym (other_list line at l r other)) (others line other)

  -- what is in hand stays so
  tells : (at : WaitList) (l : Listeners W) (names : List W) (r : WaitLists W) (had : Option ListenerRef)
      → list.Turned at (listeners at r) l names had had → Lists r (with_listeners at l r) names had had
  tells at l names r had h = on_list at l names r had had h (λ line other. list.untouched line (listeners line r) names had)

  drops : (at : WaitList) (key : Key) (l : Listeners W) (names : List W) (r : WaitLists W)
      → list.Turned at (listeners at r) l names (on at key) None → Lists r (with_listeners at l r) names (on at key) None
  drops at key l names r h =
      on_list at l names r (on at key) None h
      (λ line other. list.elsewhere line (listeners line r) names (on at key) None (λ k e. other (line_is at line key k e))
      (λ k e. no_held (record { line = line; key = k }) e))

  comes : (at : WaitList) (key : Key) (l : Listeners W) (names : List W) (r : WaitLists W)
      → list.Turned at (listeners at r) l names None (on at key) → Lists r (with_listeners at l r) names None (on at key)
  comes at key l names r h =
      on_list at l names r None (on at key) h
      (λ line other. list.elsewhere line (listeners line r) names None (on at key)
      (λ k e. no_held (record { line = line; key = k }) e) (λ k e. other (line_is at line key k e)))

  pub still : (r : WaitLists W) (names : List W) (had : Option ListenerRef) → Lists r r names had had
  still r names had line = list.untouched line (listeners line r) names had

  counts : (side : Side) (n : ℕ) (r : WaitLists W) (names : List W) (had : Option ListenerRef) → Lists r (with_count side n r) names had had
  counts side n r names had line =
      subst (λ (y : Listeners W). list.Turned line (listeners line r) y names had had) (sym (counted_list line side n r))
      (list.untouched line (listeners line r) names had)

module _ (T W : Type 0) where
  -- ---- how a step ends

  -- a call that ends has nothing in hand and leaves nothing; or it leaves what it had, and that waits for its own name
  abbrev pub LeavesIt : ChannelAsk T W → Returned T → Option ListenerRef → Channel T W → Type 0
  LeavesIt x kept has d =
      ((has ≡ None) × (kept.key ≡ None))
      ⊎ ((line : WaitList) × (key : Key) × (task : W) × (has ≡ on line key) × (kept.key ≡ Some key) × (wait_of x ≡ Some (line, task))
      × WaitsToWake (record { line = line; key = key }) task d)

  abbrev pub Then : ChannelAsk T W → Stage (Phase T) T W → Option (Reply T) → Stage (Phase T) T W → Option ListenerRef
      → Channel T W → Type 0
  Then x at None s has d = (holding s ≡ has) × MayBear (task_at s) (task_at at)
  Then x at (Some y) s has d = (kept : Returned T) × (s ≡ Finished kept) × LeavesIt x kept has d

  -- the listener is the same before and after; or there was none; or there is none now
  abbrev pub OneAtMost : Option ListenerRef → Option ListenerRef → Type 0
  OneAtMost had has = (has ≡ had) ⊎ ((had ≡ None) ⊎ (has ≡ None))

  pub record Turnout (x : ChannelAsk T W) (c : Channel T W) (at : Stage (Phase T) T W) (e : Effect T W) (r : Option (Reply T))
      (s : Stage (Phase T) T W) : Type 0 where
    pub has : Option ListenerRef
    pub lists : Lists c.wait_lists e.channel.wait_lists e.woken (holding at) has
    pub how : OneAtMost (holding at) has
    pub own : (h : ListenerRef) → has ≡ Some h → (holding at ≡ Some h) ⊎ ((task : W) × (wait_of x ≡ Some (h.line, task)))
    pub next : Then x at r s has e.channel

  -- ---- turns

  taken : (x : ChannelAsk T W) (at : Stage (Phase T) T W) (t : NextStep T W) (r : Option (Reply T)) (s : Stage (Phase T) T W)
      (has : Option ListenerRef) (d : Channel T W) → Turned t r s → Has T W has (task_at at) t → Then x at r s has d
  taken x at (Tries a y) None s has d h k =
      subst (λ (z : Stage (Phase T) T W). (holding z ≡ has) × MayBear (task_at z) (task_at at)) (sym h.1) k
  taken x at (Works w) None s has d h k =
      subst (λ (z : Stage (Phase T) T W). (holding z ≡ has) × MayBear (task_at z) (task_at at)) (sym h.1) k
  taken x at (Ends y kept) (Some z) s has d h k = (kept, h.1, inl (k.0, k.1))
  taken x at (Tries a y) (Some z) s has d h k = absurd (let no : Some z ≡ None = h.0 in cc)
  taken x at (Works w) (Some z) s has d h k = absurd (let no : Some z ≡ None = h.0 in cc)
  taken x at (Ends y kept) None s has d h k = absurd (let no : None ≡ Some y = h.0 in cc)

  -- ---- the stages

  module _ (x : ChannelAsk T W) (c : Channel T W) where
    abbrev Out : Stage (Phase T) T W → Option (Reply T) → Stage (Phase T) T W → Effect T W → Type 0
    Out at r s e = Turnout x c at e r s

    as_it : (at : Stage (Phase T) T W) (r : Option (Reply T)) (s : Stage (Phase T) T W) (e e' : Effect T W) → e ≡ e'
        → Out at r s e' → Out at r s e
    as_it at r s e e' same h = subst (λ (y : Effect T W). Out at r s y) (sym same) h

    -- what is in hand stays so
    on_it_goes : (at : Stage (Phase T) T W) (r : Option (Reply T)) (s : Stage (Phase T) T W) (e : Effect T W) (t : NextStep T W)
        → Lists c.wait_lists e.channel.wait_lists e.woken (holding at) (holding at) → Turned t r s
        → Has T W (holding at) (task_at at) t → Out at r s e
    on_it_goes at r s e t l h k = record {
      has = holding at;
      lists = l;
      how = inl refl;
      own = λ i e. inl e;
      next = taken x at t r s (holding at) e.channel h k;
    }

    raised : (b : Bool) (side : Side) (n : ℕ) (had : Option ListenerRef) → let e : Effect T W =
        if b then on_count side (n + 1) (up side) c else untouched c in Lists c.wait_lists e.channel.wait_lists e.woken had had
    raised true side n had = counts side (n + 1) c.wait_lists [] had
    raised false side n had = still c.wait_lists [] had

    left : (y : Ending T) (o : Option ListenerRef) (r : Option (Reply T)) (s : Stage (Phase T) T W) → y.held ≡ o
        → Turned (Ends y.reply (leaving None y.message)) r s → Out (Working (Leave y)) r s (leaves o c)
    left y None r s same h =
        record {
          has = None;
          lists = subst (λ (o : Option ListenerRef). Lists c.wait_lists c.wait_lists [] o None) (sym same) (still c.wait_lists [] None);
          how = inr (inr refl);
          own = λ h e. absurd (no_held h e);
          next = taken x (Working (Leave y)) (Ends y.reply (leaving None y.message)) r s None c h (refl, refl);
        }
    left y (Some k) r s same h =
        record {
          has = None;
          lists = subst (λ (o : Option ListenerRef). Lists c.wait_lists (leaves (Some k) c).channel.wait_lists
              (removed_wakes k.key true (listeners k.line c.wait_lists)) o None) (sym same)
              (drops k.line k.key (removed k.key true (listeners k.line c.wait_lists))
              (removed_wakes k.key true (listeners k.line c.wait_lists)) c.wait_lists
              (list.one_removed k.line k.key (listeners k.line c.wait_lists)));
          how = inr (inr refl);
          own = λ h e. absurd (no_held h e);
          next = taken x (Working (Leave y)) (Ends y.reply (leaving None y.message)) r s None (leaves (Some k) c).channel
              h (refl, refl);
        }

    -- whom the ask waits for, on the list of its operation
    waits_there : (w : Waiting T) (y : ChannelAsk T W) → IsFor y w → (task : W) × (wait_of y ≡ Some (line_of w, task))
    waits_there (Waiting.Send v) (ChannelAsk.PollSend m k t) h = (t, refl)
    waits_there Waiting.Receive (ChannelAsk.PollRecv k t) h = (t, refl)
    waits_there Waiting.Stream (ChannelAsk.PollNext k t) h = (t, refl)
    waits_there Waiting.Closing (ChannelAsk.PollClosed k t) h = (t, refl)
    waits_there w y h = absurd h

    own_task : (w : Waiting T) (task : W) → IsFor x w → Bears (Some task) (wait_of x) → wait_of x ≡ Some (line_of w, task)
    own_task w task h b =
        let own = waits_there w x h in
        let same : Some (line_of w, own.0) ≡ Some (b.0, task) = sym own.1 ∙ b.1 in
        let t : own.0 ≡ task = ap (λ (o : Option (WaitList × W)). elim o [ None ↦ task | Some p ↦ p.1 ]) same in
        own.1 ∙ ap (λ (v : W). let o : Option (WaitList × W) = Some (line_of w, v) in o) t

    asked : (w : Waiting T) (key : Key) (task : W) (b : Bool) (r : Option (Reply T)) (s : Stage (Phase T) T W) (l : Listeners W)
        → IsFor x w → Bears (Some task) (wait_of x)
        → list.Asked (line_of w) key task (listeners (line_of w) c.wait_lists) l b
        → Turned (if b then pends_by w key else again w None task) r s
        → Out (Working (Register w key task)) r s (on_line (line_of w) l [] c)
    asked w key task true None s l f b h t = absurd (let no : None ≡ Some _ = t.0 in cc)
    asked w key task true (Some y) s l f b h t =
        record {
          has = on (line_of w) key;
          lists = tells (line_of w) l [] c.wait_lists (on (line_of w) key) h.list;
          how = inl refl;
          own = λ h e. inl e;
          next = (
            _,
            t.1,
            inr (
              line_of w,
              key,
              task,
              refl,
              refl,
              own_task w task f b,
              subst (λ (ls : Listeners W). IsAmong (key, Some task) ls.waiting)
                  (sym (same_list (line_of w) l c.wait_lists)) h.task_now,
            ),
          );
        }
    asked w key task false r s l f b h t =
        record {
          has = None;
          lists = drops (line_of w) key l [] c.wait_lists h;
          how = inr (inr refl);
          own = λ h e. absurd (no_held h e);
          next = taken x (Working (Register w key task)) (again w None task) r s None (on_line (line_of w) l [] c).channel t
              (refl, inr refl);
        }

    own_line : (w : Waiting T) (key : Key) (h : ListenerRef) → IsFor x w → on (line_of w) key ≡ Some h
        → (task : W) × (wait_of x ≡ Some (h.line, task))
    own_line w key h k e =
        let own = waits_there w x k in
        let same : line_of w ≡ h.line = ap (λ (o : Option ListenerRef). elim o [ None ↦ line_of w | Some i ↦ i.line ]) e in
        (own.0, own.1 ∙ ap (λ (l : WaitList). let o : Option (WaitList × W) = Some (l, own.0) in o) same)

    inserts : (w : Waiting T) (task : W) → IsFor x w → (e : Effect T W) (r : Option (Reply T)) (s : Stage (Phase T) T W)
        → Inserts w task c e r s → Out (Working (Insert w task)) r s e
    inserts w task k e r s (inl (key, new, same, t)) =
        as_it (Working (Insert w task)) r s e _ same (
        record {
          has = on (line_of w) key;
          lists = comes (line_of w) key (listened key (listeners (line_of w) c.wait_lists)) [] c.wait_lists
              (list.one_listens (line_of w) key (listeners (line_of w) c.wait_lists) new);
          how = inr (inl refl);
          own = λ i e. inr (own_line w key i k e);
          next = taken x (Working (Insert w task)) (again w (Some key) task) r s (on (line_of w) key) _ t (refl, inr refl);
        }
        )
    inserts w task k e r s (inr (error, same, t)) =
        as_it (Working (Insert w task)) r s e _ same
        (on_it_goes (Working (Insert w task)) r s (untouched c) (unlistened w error) (still c.wait_lists [] None) t (refl, refl))

    lowers : (side : Side) (key : Option Key) (n : ℕ)
        → Has T W (work_holds {T = T} {W = W} (Lower side key)) None (lowered_next side key n)
    lowers Senders key n = (lowered_has T W Senders key n None).0
    lowers Receivers key n = (lowered_has T W Receivers key n None).0

    roomed : (n : ℕ) (r : Option (Reply T)) (s : Stage (Phase T) T W) → TakesRoomFor n r s → Out (Working (TakeRoom n)) r s (untouched c)
    roomed n r s (inl t) = on_it_goes (Working (TakeRoom n)) r s (untouched c) (room_next n) (still c.wait_lists [] None) t (room_has T W n).0
    roomed n r s (inr t) = on_it_goes (Working (TakeRoom n)) r s (untouched c) roomless (still c.wait_lists [] None) t.1 (refl, refl)

    works : (w : ListStep T W) (e : Effect T W) (r : Option (Reply T)) (s : Stage (Phase T) T W) (ds : List (MarkedMoment T W))
        (seen : List (Channel T W)) → StageAt c x (Working w) ds seen → Bears (work_task w) (wait_of x) → Worked c w e r s
        → Out (Working w) r s e
    works (TellReceive y) e r s ds seen k b h =
        as_it (Working (TellReceive y)) r s e _ h.0
        (on_it_goes (Working (TellReceive y)) r s _ (Works (TellStreams y))
        (tells Receives (told_one (listeners Receives c.wait_lists)) (told_one_wakes (listeners Receives c.wait_lists)) c.wait_lists
        y.held (list.one_told Receives (listeners Receives c.wait_lists) y.held)) h.1 (refl, inl refl))
    works (TellStreams y) e r s ds seen k b h =
        as_it (Working (TellStreams y)) r s e _ h.0
        (on_it_goes (Working (TellStreams y)) r s _ _
        (tells Streams (told_all (listeners Streams c.wait_lists)) (told_all_wakes (listeners Streams c.wait_lists)) c.wait_lists y.held
        (list.all_told Streams (listeners Streams c.wait_lists) y.held)) h.1 (ends_has T W y None).0)
    works (TellSend y) e r s ds seen k b h =
        as_it (Working (TellSend y)) r s e _ h.0
        (on_it_goes (Working (TellSend y)) r s _ _
        (tells Sends (told_one (listeners Sends c.wait_lists)) (told_one_wakes (listeners Sends c.wait_lists)) c.wait_lists y.held
        (list.one_told Sends (listeners Sends c.wait_lists) y.held)) h.1 (ends_has T W y None).0)
    works (TellSends n y) e r s ds seen k b h =
        as_it (Working (TellSends n y)) r s e _ h.0
        (on_it_goes (Working (TellSends n y)) r s _ _
        (tells Sends (told_more n (listeners Sends c.wait_lists)) (told_more_wakes n (listeners Sends c.wait_lists)) c.wait_lists y.held
        (list.more_told Sends n (listeners Sends c.wait_lists) y.held)) h.1 (ends_has T W y None).0)
    works (TakeRoom n) e r s ds seen k b h = as_it (Working (TakeRoom n)) r s e _ h.0 (roomed n r s h.1)
    works (TellAll line closer) e r s ds seen k b h =
        as_it (Working (TellAll line closer)) r s e _ h.0
        (on_it_goes (Working (TellAll line closer)) r s _ _
        (tells line (told_all (listeners line c.wait_lists)) (told_all_wakes (listeners line c.wait_lists)) c.wait_lists _
        (list.all_told line (listeners line c.wait_lists) _)) h.1 (told_all_has T W line closer None).0)
    works (Insert w task) e r s ds seen k b h = inserts w task k.0 e r s h
    works (Register w key task) e r s ds seen k b h =
        as_it (Working (Register w key task)) r s e _ h.0
        (asked w key task (waits key (listeners (line_of w) c.wait_lists)) r s
        (registration key task (listeners (line_of w) c.wait_lists)) k.0 b
        (list.one_asks (line_of w) key task (listeners (line_of w) c.wait_lists)) h.1)
    works (Leave y) e r s ds seen k b h = as_it (Working (Leave y)) r s e _ h.0 (left y y.held r s refl h.1)
    works (Lower side key) e r s ds seen k b h =
        as_it (Working (Lower side key)) r s e _ h.0
        (on_it_goes (Working (Lower side key)) r s _ _ (counts side (count side c.wait_lists - 1) c.wait_lists [] _) h.1
        (lowers side key (count side c.wait_lists)))
    works (Count side) e r s ds seen k b h = as_it (Working (Count side)) r s e _ h.0
        (on_it_goes (Working (Count side)) r s (untouched c) (Ends (Reply.Count (count side c.wait_lists)) (leaving None None))
        (still c.wait_lists [] None) h.1 (refl, refl))
    works (Load side making) e r s ds seen k b h = as_it (Working (Load side making)) r s e _ h.0
        (on_it_goes (Working (Load side making)) r s (untouched c) _ (still c.wait_lists [] None) h.1
        (loaded_has T W side making (count side c.wait_lists)).0)
    works (Raise side n making) e r s ds seen k b h =
        as_it (Working (Raise side n making)) r s e _ h.0
        (on_it_goes (Working (Raise side n making)) r s _ _ (raised (is_raised side n c.wait_lists) side n None) h.1
        (raised_has T W side making (is_raised side n c.wait_lists)))

    goes_on : (f f' : Phase T) (purpose : Purpose T W) (r : Option (Reply T)) (s : Stage (Phase T) T W) (d : Channel T W) → r ≡ None
        → s ≡ Trying f' purpose → Then x (Trying f purpose) r s (holding (Trying f purpose)) d
    goes_on f f' purpose None s d e same = subst (λ (z : Stage (Phase T) T W). (holding z ≡ holding (Trying f purpose))
        × MayBear (task_at z) (task_at (Trying f purpose))) (sym same) (refl, inr refl)
    goes_on f f' purpose (Some y) s d e same = absurd (let no : Some y ≡ None = e in cc)

    -- any step
    pub turnout : (at : Stage (Phase T) T W) (e : Effect T W) (r : Option (Reply T)) (s : Stage (Phase T) T W)
        (ds : List (MarkedMoment T W)) (seen : List (Channel T W)) → StageAt c x at ds seen → Bears (task_at at) (wait_of x)
        → Moves c at e r s → Out at r s e
    turnout (Trying f purpose) e r s ds seen k b h = tried h.how
      where
        tried : ((f' : Phase T) × Continues c.queue f h.mark f' × (r ≡ None) × (s ≡ Trying f' purpose))
            ⊎ ((y : QueueReply T) × Answers c.queue f h.mark y × Turned (answered_next purpose y) r s) → Out (Trying f purpose) r s e
        tried (inl g) =
            as_it (Trying f purpose) r s e (queued f h.mark c) h.effect
            (record {
              has = holding (Trying f purpose);
              lists = still c.wait_lists [] (holding (Trying f purpose));
              how = inl refl;
              own = λ i e. inl e;
              next = goes_on f g.0 purpose r s (queued f h.mark c).channel g.2 g.3;
            })
        tried (inr g) =
            as_it (Trying f purpose) r s e (queued f h.mark c) h.effect
            (on_it_goes (Trying f purpose) r s (queued f h.mark c) _ (still c.wait_lists [] (holding (Trying f purpose))) g.2
            (answered_has T W f c.queue x purpose f.ask h.mark g.0 f.stage ds seen k.0 g.1).0)
    turnout (Working w) e r s ds seen k b h = works w e r s ds seen k b h
    turnout (Finished kept) e r s ds seen k b h = absurd k
