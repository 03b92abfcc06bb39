-- A step of a merge, with other tasks for which its tasks were put.
use Rattle.std.proofs.Common.{◌≡◌, true, List, map, Option, None, Some, refl, sym, ap, subst, ◌∙◌}
use Rattle.concurrent_queue.specs.Deeds as cell
use Rattle.channel_steps.proofs.every_run.Words.{QueueReply, QueueForm, QueueCall, removed, removed_wakes, Woken, Key, answered_next, Deed, inserted, registered, taken_off, told, counted, lowered, raised, Done, Does, Parts, told_whom, told_as_wakes, line_of, leaving, nothing_kept, registered_next, Takes, Heard, Leaves, WorkMakes, ChannelMakes, Marked, Mark, Reply, Purpose, ListenerRef, WaitList, Whom, One, More, All, Stage, Trying, Working, Finished, NextStep, Works, Ends, ListStep, TellReceive, TellStreams, TellSend, TellSends, TakeRoom, TellAll, Insert, Register, Leave, Lower, Count, Load, Raise, Act, on_queue, on_wait_lists, on_nothing, Notes, Changes, WakesFor, parts_by, act_by, aim_by, work_by, stage_by, Listeners, turn_by, OnList, listeners, listeners_by, wait_lists_by}
use Rattle.channel_calls.specs.declared.mark.Mark.TheVariants.{Nothing}
use Rattle.channel_calls.specs.declared.reply.Reply.TheVariants as reply
use Rattle.channel_steps.specs.every_run.Bridge.{does}
use Rattle.channel_steps.proofs.every_run.TaskCells.{telling_alike, telling_wakes, wakes_for, told_before, inserted_before, registered_before, counted_before, lowered_before, raised_before, stepped_before}
use Rattle.channel_steps.proofs.every_run.TaskLists.{removed_by, removed_wakes_by}
use Rattle.channel_steps.proofs.every_run.TaskTurns.{ends_alike, told_all_alike, inserted_alike, registered_alike, lowered_alike, loaded_alike, raised_alike, room_taken, answered_alike, taken, marked}

-- ---- a step

module _ {T W V S : Type 0} (put : W → V) where
  abbrev pub both_so : Parts T W × S → Parts T V × S
  both_so c = (parts_by put c.0, c.1)

module _ {T W V S : Type 0} (put : W → V) (wakes : S → V → S → Type 0) (form : QueueForm) where
  module _ (o : Act T V) (c : Parts T W × S) (d : Parts T V × S) (change : Changes wakes (does o) (both_so put c) d) where
    -- this was done, for which that one was put
    pub record ActBefore (act : Act T W) : Type 0 where
      pub acts : act_by put act ≡ o
      pub left : Parts T W × S
      pub seen : both_so put left ≡ d
      pub changes : Changes (WakesFor put wakes) (does act) c left

    pub record StepBefore (at : Stage (QueueCall T) T W) (m : Mark) (next : Stage (QueueCall T) T V) (r : Option (Reply T)) : Type 0 where
      pub act : Act T W
      pub before : ActBefore act
      pub after : Stage (QueueCall T) T W
      pub goes : stage_by put after ≡ next
      pub makes : ChannelMakes (Notes form) at on_nothing act m after r

    on : (e : Deed T V) → o ≡ on_wait_lists e → Done Does wakes e (both_so put c) d
    on e is = subst (λ (x : Act T V). Changes wakes (does x) (both_so put c) d) is change

    ends_in : (x : Parts T W) (s : S) → parts_by put x ≡ d.0 → s ≡ d.1 → both_so put (x, s) ≡ d
    ends_in x s e f = ap (λ (p : Parts T V). (p, s)) e ∙ ap (λ (t : S). (d.0, t)) f

    nothing : o ≡ on_nothing → ActBefore on_nothing
    nothing is =
        record {
          acts = sym is;
          left = c;
          seen = sym (subst (λ (x : Act T V). Changes wakes (does x) (both_so put c) d) is change);
          changes = refl;
        }

    -- A telling, or a removal, which may pass a notification on: what it does to its list and whom it wakes are alike whatever the tasks
    -- are.
    abbrev Tells : (List W → Deed T W) → Type 0
    Tells deed = (names : List W) × ActBefore (on_wait_lists (deed names))

    module _ (line : WaitList) (here : Listeners W → Listeners W) (there : Listeners V → Listeners V) (alike : (l : Listeners W) → there (listeners_by put l) ≡ listeners_by put (here l))
        (woken_here : Listeners W → List W) (woken_there : Listeners V → List V) (woken_alike : (l : Listeners W) → woken_there (listeners_by put l) ≡ map put (woken_here l)) where
      tells : (deed : List W → Deed T W) (deed_there : List V → Deed T V) (names : List V) → ((ns : List W) → act_by put (on_wait_lists (deed ns)) ≡ on_wait_lists (deed_there (map put ns)))
          → o ≡ on_wait_lists (deed_there names)
          → (names ≡ woken_there (listeners line (wait_lists_by put c.0.wait_lists))) × OnList line (there (listeners line (wait_lists_by put c.0.wait_lists))) (parts_by put c.0) d.0 × Woken wakes c.1 names d.1
          → ((ns : List W) (x : Parts T W) → ns ≡ woken_here (listeners line c.0.wait_lists) → OnList line (here (listeners line c.0.wait_lists)) c.0 x → Woken (WakesFor put wakes) c.1 ns d.1
          → Changes (WakesFor put wakes) (does (on_wait_lists (deed ns))) c (x, d.1))
          → Tells deed
      tells deed deed_there names same is (whom, left, woke_so) changes =
          let t = told_before put line here there alike woken_here woken_there woken_alike c.0 names d.0 whom left in (
            t.names_before,
            record {
              acts = same t.names_before ∙ ap (λ (xs : List V). on_wait_lists (deed_there xs)) t.were ∙ sym is;
              left = (t.parts, d.1);
              seen = ends_in t.parts d.1 t.left refl;
              changes = changes t.names_before t.parts t.told t.on_it (wakes_for put wakes c.1 t.names_before d.1 (subst (λ (xs : List V). Woken wakes c.1 xs d.1) (sym t.were) woke_so));
            },
          )

    these : (line : WaitList) (telling : Whom) (names : List V) → o ≡ on_wait_lists (told line telling names) → Tells (λ ns. told line telling ns)
    these line telling names is =
        let h = on (told line telling names) is in
        tells line (told_whom telling) (told_whom telling) (telling_alike put telling) (told_as_wakes telling) (told_as_wakes telling) (telling_wakes put telling) (λ ns. told line telling ns) (λ ns. told line telling ns) names (λ ns. refl) is (h.0.0, h.0.1, h.1) (λ ns x e f k. ((e, f), k))

    off : (line : WaitList) (key : Key) (names : List V) → o ≡ on_wait_lists (taken_off line key names) → Tells (λ ns. taken_off line key ns)
    off line key names is =
        let h = on (taken_off line key names) is in
        tells line (removed key true) (removed key true) (removed_by put key) (removed_wakes key true) (removed_wakes key true) (removed_wakes_by put key) (λ ns. taken_off line key ns) (λ ns. taken_off line key ns) names (λ ns. refl) is (h.0.0, h.0.1, h.1) (λ ns x e f k. ((e, f), k))

    leaves : (held : Option ListenerRef) → Leaves (Notes form) held on_nothing o → (act : Act T W) × ActBefore act × Leaves (Notes form) held on_nothing act
    leaves None is = (on_nothing, nothing is, refl)
    leaves (Some held) (names, is) = let t = off held.line held.key names is in (on_wait_lists (taken_off held.line held.key t.0), t.1, (t.0, refl))

    -- a deed that wakes nobody
    quiet : (e : Deed T V) (b : Deed T W) → o ≡ on_wait_lists e → act_by put (on_wait_lists b) ≡ on_wait_lists e → d.1 ≡ c.1 → (x : Parts T W) → parts_by put x ≡ d.0
        → Changes (WakesFor put wakes) (does (on_wait_lists b)) c (x, c.1) → ActBefore (on_wait_lists b)
    quiet e b is same sink x left changes = record { acts = same ∙ sym is; left = (x, c.1); seen = ends_in x c.1 left (sym sink); changes = changes }

    -- a step of the queue's call
    queue_before : (x : Option (cell.Deed T)) → o ≡ on_queue x → ActBefore (on_queue x)
    queue_before None is =
        record {
          acts = sym is;
          left = c;
          seen = sym (subst (λ (y : Act T V). Changes wakes (does y) (both_so put c) d) is change);
          changes = refl;
        }
    queue_before (Some e) is =
        let h : Changes wakes (does (on_queue (Some e))) (both_so put c) d = subst (λ (y : Act T V). Changes wakes (does y) (both_so put c) d) is change in
        record {
          acts = sym is;
          left = (record { cells = d.0.cells; wait_lists = c.0.wait_lists }, c.1);
          seen = ends_in (record { cells = d.0.cells; wait_lists = c.0.wait_lists }) c.1 (stepped_before put c.0 d.0 h.1) (sym h.2);
          changes = (h.0, refl, refl);
        }

    module _ (m : Mark) (next : Stage (QueueCall T) T V) (r : Option (Reply T)) where
      heard : (a : Purpose T W) (after : QueueCall T) (x : Option (QueueReply T)) → Heard (aim_by put a) after x next r
          → (s : Stage (QueueCall T) T W) × Heard a after x s r × (stage_by put s ≡ next)
      heard a after None (is, e) = (Trying after a, (refl, e), sym is)
      heard a after (Some x) h = taken put (answered_next a x) next r (subst (λ (t : NextStep T V). Takes t next r) (sym (answered_alike put a x)) h)

      -- after an act for which that one was put, an alike turn is taken
      then_turns : (w : ListStep T W) (act : Act T W) → ActBefore act → (m0 : Mark) (turn : NextStep T W) (other : NextStep T V) → turn_by put turn ≡ other → Marked m0 other m next r
          → ((s : Stage (QueueCall T) T W) → Marked m0 turn m s r → WorkMakes (Notes form) w on_nothing act m s r) → StepBefore (Working w) m next r
      then_turns w act before m0 turn other alike x makes =
          let k = marked put m0 m r turn other alike next x in record { act = act; before = before; after = k.0; goes = k.2; makes = makes k.0 k.1 }

      worked : (w : ListStep T W) → WorkMakes (Notes form) (work_by put w) on_nothing o m next r → StepBefore (Working w) m next r
      worked (TellReceive e) (names, is, x) = let t = these _ One names is in then_turns _ _ t.1 _ (Works (TellStreams e)) _ refl x (λ s k. (t.0, refl, k))
      worked (TellStreams e) (names, is, x) = let t = these _ All names is in then_turns _ _ t.1 _ _ _ (ends_alike put e) x (λ s k. (t.0, refl, k))
      worked (TellSend e) (names, is, x) = let t = these _ One names is in then_turns _ _ t.1 _ _ _ (ends_alike put e) x (λ s k. (t.0, refl, k))
      worked (TellSends n e) (names, is, x) = let t = these _ (More n) names is in then_turns _ _ t.1 _ _ _ (ends_alike put e) x (λ s k. (t.0, refl, k))
      worked (TakeRoom n) (turn, is, room, x) =
          let y = room_taken put n turn room in then_turns _ _ (nothing is) _ y.0 turn y.2 x (λ s k. (y.0, refl, y.1, k))
      worked (TellAll line e) (names, is, x) = let t = these line All names is in then_turns _ _ t.1 _ _ _ (told_all_alike put line e) x (λ s k. (t.0, refl, k))
      worked (Insert w task) (answer, is, x) =
          let h = on _ is in
          let b = inserted_before put _ answer c.0 d.0 h.0 in
          then_turns _ _ (quiet _ (inserted (line_of w) answer) is refl h.1 b.0 b.1 (b.2, refl)) _ _ _ (inserted_alike put w task answer) x (λ s k. (answer, refl, k))
      worked (Register w key task) (answer, is, x) =
          let h = on (registered (line_of w) key (put task) answer) is in
          let b = registered_before put (line_of w) key task answer c.0 d.0 h.0 in
          then_turns _ _ (quiet _ (registered (line_of w) key task b.0) is (ap (λ (y : Option V). on_wait_lists (registered (line_of w) key (put task) y)) b.1) h.1 b.2 b.3 (b.4, refl)) _ _ _
          (registered_alike put w key b.0) (subst (λ (y : Option V). Marked Nothing (registered_next w key y) m next r) (sym b.1) x) (λ s k. (b.0, refl, k))
      worked (Leave e) (l, x) = let t = leaves e.held l in then_turns _ t.0 t.1 _ (Ends e.reply (leaving None e.message)) _ refl x (λ s k. (t.2, k))
      worked (Lower side key) (n, is, x) =
          let h = on _ is in
          let b = lowered_before put side n c.0 d.0 h.0 in
          then_turns _ _ (quiet _ (lowered side n) is refl h.1 b.0 b.1 (b.2, refl)) _ _ _ (lowered_alike put side key n) x (λ s k. (n, refl, k))
      worked (Count side) (n, is, x) =
          let h = on _ is in
          let b = counted_before put side n c.0 d.0 h.0 in
          then_turns _ _ (quiet _ (counted side n) is refl h.1 b.0 b.1 (b.2, refl)) _ (Ends (reply.Count n) nothing_kept) _ refl x (λ s k. (n, refl, k))
      worked (Load side making) (n, is, x) =
          let h = on _ is in
          let b = counted_before put side n c.0 d.0 h.0 in
          then_turns _ _ (quiet _ (counted side n) is refl h.1 b.0 b.1 (b.2, refl)) _ _ _ (loaded_alike put side making n) x (λ s k. (n, refl, k))
      worked (Raise side n making) (answer, is, x) =
          let h = on _ is in
          let b = raised_before put side n answer c.0 d.0 h.0 in
          then_turns _ _ (quiet _ (raised side n answer) is refl h.1 b.0 b.1 (b.2, refl)) _ _ _ (raised_alike put side making answer) x (λ s k. (answer, refl, k))

      pub step_before : (at : Stage (QueueCall T) T W) → ChannelMakes (Notes form) (stage_by put at) on_nothing o m next r → StepBefore at m next r
      step_before (Trying call a) (after, answer, (x, makes, is), e, h) =
          let k = heard a after answer h in
          record { act = on_queue x; before = queue_before x is; after = k.0; goes = k.2; makes = (after, answer, (x, makes, refl), e, k.1) }
      step_before (Working w) h = worked w h
      step_before (Finished kept) (is, e, f, none) = record { act = on_nothing; before = nothing is; after = Finished kept; goes = sym f; makes = (refl, e, refl, none) }
