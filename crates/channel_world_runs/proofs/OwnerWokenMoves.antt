-- Who is told, and whom listeners wake, after a step of a call.
use Rattle.std.specs.Prelude.{◌≡◌, ◌+◌, ◌-◌, if◌then◌else◌, ◌⊎◌}
use Rattle.channel_world_runs.proofs.Lemmas.{ℕ, Bool, true, false, List, [], Option, None, Some, inl, inr, refl, sym, subst, keys_of, Phase, listened, registration, removed, removed_wakes, Key, up, down, Channel, Effect, queued, untouched, on_line, on_count, leaves, Inserts, Worked, Moves, WaitLists, Listeners, listeners, with_listeners, count, is_raised, told_one, told_one_wakes, told_more, told_more_wakes, told_all, told_all_wakes, line_of, Mark, Reply, ListenerRef, WaitList, Sends, Receives, Streams, Closings, Side, Senders, Receivers, Stage, Trying, Working, Finished, WaitingStep as Waiting, ListStep, TellReceive, TellStreams, TellSend, TellSends, TellAll, Insert, Register, Leave, Lower, Raise, IsAmong, holding, task_at, WaitsToWake, IsTold, on}
use Rattle.channel_world_runs.proofs.OwnerMoves.{counted_list}
use Rattle.channel_world_runs.proofs.OwnerWokenLists.{Tells, passes, more_pass, all_pass, leaves_list, comes_in, registers_on}

module _ {W : Type 0} where
  told_on : (line at : WaitList) (l : Listeners W) (names : List W) (r : WaitLists W) (had : Option ListenerRef) (task : Option W)
      → Tells at (listeners at r) l names had task
      → (key : Key) → (had ≡ on line key → ⊥) → IsAmong key (keys_of (listeners line r).told)
      → IsAmong key (keys_of (listeners line (with_listeners at l r)).told)
  told_on Sends Sends l names r had task t key other i = t.told key other i
  told_on Receives Receives l names r had task t key other i = t.told key other i
  told_on Streams Streams l names r had task t key other i = t.told key other i
  told_on Closings Closings l names r had task t key other i = t.told key other i
  told_on x at l names r had task t key other i = i

  tasks_on : (line at : WaitList) (l : Listeners W) (names : List W) (r : WaitLists W) (had : Option ListenerRef) (task : Option W)
      → Tells at (listeners at r) l names had task
      → (key : Key) (w : W) → IsAmong (key, Some w) (listeners line (with_listeners at l r)).waiting
      → IsAmong (key, Some w) (listeners line r).waiting ⊎ ((had ≡ on line key) × (task ≡ Some w))
  tasks_on Sends Sends l names r had task t key w i = t.tasks key w i
  tasks_on Receives Receives l names r had task t key w i = t.tasks key w i
  tasks_on Streams Streams l names r had task t key w i = t.tasks key w i
  tasks_on Closings Closings l names r had task t key w i = t.tasks key w i
  tasks_on x at l names r had task t key w i = inl i

  abbrev Hears : WaitLists W → WaitLists W → W → Type 0
  Hears r r' w =
      (h : ListenerRef) × IsAmong (h.key, Some w) (listeners h.line r).waiting × IsAmong h.key (keys_of (listeners h.line r').told)

  woken_on : (at : WaitList) (l : Listeners W) (names : List W) (r : WaitLists W) (had : Option ListenerRef) (task : Option W)
      → Tells at (listeners at r) l names had task
      → (w : W) → IsAmong w names → Hears r (with_listeners at l r) w
  woken_on Sends l names r had task t w i = let x = t.woken w i in (record { line = Sends; key = x.0 }, x.1, x.2)
  woken_on Receives l names r had task t w i = let x = t.woken w i in (record { line = Receives; key = x.0 }, x.1, x.2)
  woken_on Streams l names r had task t w i = let x = t.woken w i in (record { line = Streams; key = x.0 }, x.1, x.2)
  woken_on Closings l names r had task t w i = let x = t.woken w i in (record { line = Closings; key = x.0 }, x.1, x.2)

module _ {T W : Type 0} where
  -- A channel after a step that wakes these, by a call with this listener in hand, which may be to wake this task: those that were
  -- told are told still, but for the one in hand; a listener that waits waited for the same, or is the one in hand, and waits for
  -- its task; each that is woken waited, and is told.
  pub record Follows (c d : Channel T W) (names : List W) (had : Option ListenerRef) (task : Option W) : Type 0 where
    pub told : (h : ListenerRef) → (had ≡ Some h → ⊥) → IsTold h c → IsTold h d
    pub tasks : (h : ListenerRef) (w : W) → WaitsToWake h w d → WaitsToWake h w c ⊎ ((had ≡ Some h) × (task ≡ Some w))
    pub woken : (w : W) → IsAmong w names → (h : ListenerRef) × WaitsToWake h w c × IsTold h d

  as_before : (c d : Channel T W) (had : Option ListenerRef) (task : Option W)
      → ((line : WaitList) → listeners line d.wait_lists ≡ listeners line c.wait_lists) → Follows c d [] had task
  as_before c d had task f =
      record {
        told = λ h other i. subst (λ (l : Listeners W). IsAmong h.key (keys_of l.told)) (sym (f h.line)) i;
        tasks = λ h w i. inl (subst (λ (l : Listeners W). IsAmong (h.key, Some w) l.waiting) (f h.line) i);
        woken = λ w i. absurd i;
      }

  on_one : (at : WaitList) (l : Listeners W) (names : List W) (c : Channel T W) (had : Option ListenerRef) (task : Option W)
      → Tells at (listeners at c.wait_lists) l names had task → Follows c (on_line at l names c).channel names had task
  on_one at l names c had task t =
      record {
        told = λ h other i. told_on h.line at l names c.wait_lists had task t h.key other i;
        tasks = λ h w i. tasks_on h.line at l names c.wait_lists had task t h.key w i;
        woken = λ w i. woken_on at l names c.wait_lists had task t w i;
      }

  module _ (c : Channel T W) where
    abbrev After : Option ListenerRef → Option W → Effect T W → Type 0
    After had task e = Follows c e.channel e.woken had task

    as_it : (had : Option ListenerRef) (task : Option W) (e e' : Effect T W) → e ≡ e' → After had task e' → After had task e
    as_it had task e e' same h = subst (λ (x : Effect T W). After had task x) (sym same) h

    tells_one_more : (at : WaitList) (had : Option ListenerRef)
        → Follows c (on_line at (told_one (listeners at c.wait_lists)) (told_one_wakes (listeners at c.wait_lists)) c).channel
        (told_one_wakes (listeners at c.wait_lists)) had None
    tells_one_more at had = on_one at (told_one (listeners at c.wait_lists)) (told_one_wakes (listeners at c.wait_lists)) c had None
        (passes at had None (record { additional = true; tag = tt }) (listeners at c.wait_lists))

    tells_several : (at : WaitList) (n : ℕ) (had : Option ListenerRef)
        → Follows c (on_line at (told_more n (listeners at c.wait_lists)) (told_more_wakes n (listeners at c.wait_lists)) c).channel
        (told_more_wakes n (listeners at c.wait_lists)) had None
    tells_several at n had = on_one at (told_more n (listeners at c.wait_lists)) (told_more_wakes n (listeners at c.wait_lists)) c had None
        (more_pass at had None n (listeners at c.wait_lists))

    tells_them_all : (at : WaitList) (had : Option ListenerRef)
        → Follows c (on_line at (told_all (listeners at c.wait_lists)) (told_all_wakes (listeners at c.wait_lists)) c).channel
        (told_all_wakes (listeners at c.wait_lists)) had None
    tells_them_all at had = on_one at (told_all (listeners at c.wait_lists)) (told_all_wakes (listeners at c.wait_lists)) c had None
        (all_pass at had None (listeners at c.wait_lists))

    left : (o : Option ListenerRef) → After o None (leaves o c)
    left None = as_before c c None None (λ line. refl)
    left (Some k) = on_one k.line (removed k.key true (listeners k.line c.wait_lists))
        (removed_wakes k.key true (listeners k.line c.wait_lists)) c (on k.line k.key) None
        (leaves_list k.line k.key (listeners k.line c.wait_lists))

    counts : (side : Side) (n : ℕ) (m : Mark) (had : Option ListenerRef) → After had None (on_count side n m c)
    counts side n m had = as_before c (on_count side n m c).channel had None (λ line. counted_list line side n c.wait_lists)

    raised : (b : Bool) (side : Side) (n : ℕ) → After None None (if b then on_count side (n + 1) (up side) c else untouched c)
    raised true side n = counts side (n + 1) (up side) None
    raised false side n = as_before c c None None (λ line. refl)

    inserts : (w : Waiting T) (task : W) (e : Effect T W) (r : Option (Reply T)) (s : Stage (Phase T) T W)
        → Inserts w task c e r s → After None (Some task) e
    inserts w task e r s (inl (key, new, same, t)) =
        as_it None (Some task) e _ same (on_one (line_of w) (listened key (listeners (line_of w) c.wait_lists)) [] c None
        (Some task) (comes_in (line_of w) key (listeners (line_of w) c.wait_lists) (Some task)))
    inserts w task e r s (inr (error, same, t)) =
        as_it None (Some task) e _ same (as_before c c None (Some task) (λ line. refl))

    works : (w : ListStep T W) (e : Effect T W) (r : Option (Reply T)) (s : Stage (Phase T) T W) → Worked c w e r s → After
        (holding {T = T} {W = W} (Working w)) (task_at {T = T} {W = W} (Working w)) e
    works (TellReceive y) e r s h = as_it y.held None e _ h.0 (tells_one_more Receives y.held)
    works (TellStreams y) e r s h = as_it y.held None e _ h.0 (tells_them_all Streams y.held)
    works (TellSend y) e r s h = as_it y.held None e _ h.0 (tells_one_more Sends y.held)
    works (TellSends n y) e r s h = as_it y.held None e _ h.0 (tells_several Sends n y.held)
    works (TellAll line closer) e r s h = as_it _ None e _ h.0 (tells_them_all line _)
    works (Insert w task) e r s h = inserts w task e r s h
    works (Register w key task) e r s h =
        as_it (on (line_of w) key) (Some task) e _ h.0
        (on_one (line_of w) (registration key task (listeners (line_of w) c.wait_lists)) [] c (on (line_of w) key) (Some task)
        (registers_on (line_of w) key task (listeners (line_of w) c.wait_lists)))
    works (Leave y) e r s h = as_it y.held None e _ h.0 (left y.held)
    works (Lower Senders key) e r s h =
        as_it None None e _ h.0 (counts Senders (count Senders c.wait_lists - 1) (down Senders) None)
    works (Lower Receivers key) e r s h =
        as_it _ None e _ h.0 (counts Receivers (count Receivers c.wait_lists - 1) (down Receivers) _)
    works (Raise side n making) e r s h = as_it None None e _ h.0 (raised (is_raised side n c.wait_lists) side n)
    works x e r s h = as_it None None e _ h.0 (as_before c c None None (λ line. refl))

    -- any step
    pub follows : (at : Stage (Phase T) T W) (e : Effect T W) (r : Option (Reply T)) (s : Stage (Phase T) T W)
        → Moves c at e r s → After (holding at) (task_at at) e
    follows (Trying f purpose) e r s h =
        as_it _ _ e (queued f h.mark c) h.effect (as_before c (queued f h.mark c).channel _ _ (λ line. refl))
    follows (Working w) e r s h = works w e r s h
    follows (Finished kept) e r s h = as_it None None e _ h.0 (as_before c c None None (λ line. refl))
