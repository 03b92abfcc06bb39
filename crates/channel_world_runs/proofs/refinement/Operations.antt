-- Operations under their names: one that changes as it leaves, one that waits, and one that is given up.
use Rattle.std.specs.Prelude.{◌≡◌, ◌⊎◌}
use Rattle.channel_world_runs.proofs.Lemmas.{nat_eq, List, [], Bool, false, Option, None, Some, refl, sym, ap, subst, ◌∙◌, inl, inr, append-nil, set_value, ListenError, Channel, gives_up, Reply, WaitList, Outcome, ends, replying, after_leaving, pending, poll_answer, give_up_answer, given_up, AwakeIn, line_at, line_of_operation, Waiting, same_waiter, is_among, untold, after_news, gone, passed_on, Names, Directory, Operation, at, Lack, memory, serials, not_standing, not_polled, State, with_waiting, OpId, Waiter, Op, Stream, Nothing, found_name, set_elsewhere, same_refl, Matches, polled_names, given_up_names, KeysHeld, with_held, Refines, ShowsLines, KeysFit, list_of, Call, shows_again, with_own, rekinded_lines, rekinded_keys}
use Rattle.channel_world_runs.proofs.refinement.Departing.{Departed, nowhere_after}
use Rattle.channel_world_runs.proofs.refinement.Ends.{leaves_now}
use Rattle.channel_world_runs.proofs.refinement.Polling.{WaitEnds}
use Rattle.channel_world_runs.proofs.refinement.Told.{told_left_as, told_standing, told_gone}

-- every name but one keeps its kind
pub other_kind : {T : Type 0} → (op : OpId) (v : Option (Operation T)) (x : Operation T) (names names' : Names T) → at op.0 names.operations ≡ Some x → names'.operations ≡ set_value (nat_eq op.0) names.operations v
    → (w : Waiter) → same_waiter (Op op) w ≡ false → line_at names' w ≡ line_at names w
other_kind op v x names names' there set (Stream r) off = refl
other_kind {T} op v x names names' there set (Op other) off =
    ap (λ (o : Option (Operation T)). line_of_operation o)
    (ap (λ (d : Directory (Operation T)). at other.0 d) set ∙ set_elsewhere op.0 other.0 v names.operations (found_name op.0 names.operations x there) off)

pub not_standing_is : {T : Type 0} → (line : WaitList) (w : Waiter) (s : State T) (r : Reply T) → is_among w (untold line s.waiting) ≡ false → not_standing line w s r ≡ Some (replying (with_waiting (gone w s.waiting) s) r)
not_standing_is line w s r u = rw u refl

-- what a listening lacked
abbrev pub lack_of : ListenError → Lack
lack_of ListenError.NoMemory = memory
lack_of ListenError.SerialsUsedUp = serials

module _ {T : Type 0} (held : KeysHeld) (c : Channel T Waiter) (s : State T) (h : Refines held c s) (awake : AwakeIn s) (op : OpId) (x : Operation T) where
  -- ---- a poll that found nothing

  pub poll_waited : (line : WaitList) (pends : Reply T) (refuses : ListenError → Reply T) (left : Option T) → at op.0 s.names.operations ≡ Some x → poll_answer s op (Some x) ≡ pending line (Op op) s pends
      → ((error : ListenError) → is_among (Op op) (untold line s.waiting) ≡ false → not_polled (lack_of error) s op (Some x) ≡ Some (replying (with_waiting (gone (Op op) s.waiting) s) (refuses error)))
      → s.names ≡ polled_names op (Some x) left s.names → (o : Outcome T Waiter) → WaitEnds line pends refuses left (Op op) held s o → Matches held s (Call.Poll op) o
  poll_waited line pends refuses left there pends_is lacks names o (inl (key, d, e, g)) =
      subst (λ (y : Outcome T Waiter). Matches held s (Call.Poll op) y) (sym e)
      (record {
        answer = pending line (Op op) s pends;
        allowed = inl (sym pends_is ∙ ap (λ (y : Option (Operation T)). poll_answer s op y) (sym there));
        reply = refl;
        woken = refl;
        shows = g;
        names = names ∙ ap (λ (y : Option (Operation T)). polled_names op y left s.names) (sym there);
        told = told_standing (line_at s.names) line (Op op) s.waiting awake.placed;
      })
  poll_waited line pends refuses left there pends_is lacks names o (inr (error, d, e, u, g)) =
      subst (λ (y : Outcome T Waiter). Matches held s (Call.Poll op) y) (sym e)
      (record {
        answer = replying (with_waiting (gone (Op op) s.waiting) s) (refuses error);
        allowed = inr (lack_of error, ap (λ (y : Option (Operation T)). not_polled (lack_of error) s op y) there ∙ lacks error u);
        reply = refl;
        woken = refl;
        shows = g;
        names = names ∙ ap (λ (y : Option (Operation T)). polled_names op y left s.names) (sym there);
        told = told_gone (Op op) s.waiting.woken;
      })

  -- ---- an operation that changes as it leaves

  pub changed_lines : (line : WaitList) (l : Waiting) (v : Option (Operation T)) (names' : Names T) (b d : Channel T Waiter) (names : List Waiter) (closed : Bool)
      → at op.0 s.names.operations ≡ Some x → names'.operations ≡ set_value (nat_eq op.0) s.names.operations v → Departed (line_at s.names) held closed line (Op op) l b d names
      → ShowsLines (line_at names') (with_held (Op op) None held) closed d.wait_lists (after_news (passed_on line (Op op) l) (gone (Op op) l))
      × KeysFit (line_at names') (with_held (Op op) None held) (after_news (passed_on line (Op op) l) (gone (Op op) l))
  changed_lines line l v names' b d names closed there set g =
      let m : Waiting = after_news (passed_on line (Op op) l) (gone (Op op) l) in
      let kinds = other_kind op v x s.names names' there set in (
        rekinded_lines (line_at s.names) (line_at names') (with_held (Op op) None held) closed d.wait_lists m (Op op) (nowhere_after (passed_on line (Op op) l) (Op op) l) kinds g.lines,
        rekinded_keys (line_at s.names) (line_at names') (with_held (Op op) None held) m (Op op) (with_own (Op op) (Op op) None held (same_refl (Op op))) kinds g.keys,
      )

  -- ---- an operation that is given up

  pub give_up : (line : WaitList) (msg : Option T) (o : Outcome T Waiter) → at op.0 s.names.operations ≡ Some x → (line_at s.names (Op op) ≡ Some line) ⊎ (line_at s.names (Op op) ≡ None)
      → give_up_answer s op (Some x) ≡ after_leaving Nothing line (Op op) (given_up s op x) (Reply.GivenUp msg)
      → o ≡ ends [] (gives_up (list_of line) msg (held (Op op))) c → Matches held s (Call.GiveUp op) o
  give_up line msg o there k answer_is e =
      let g = leaves_now held c s h awake line (Op op) k in
      let changed = changed_lines line (after_news Nothing s.waiting) None (given_up s op x).names c _ _ s.channel.closed there refl g in
      let woken = append-nil _ ∙ g.wakes in
      subst (λ (y : Outcome T Waiter). Matches held s (Call.GiveUp op) y) (sym e)
      (record {
        answer = after_leaving Nothing line (Op op) (given_up s op x) (Reply.GivenUp msg);
        allowed = inl (sym answer_is ∙ ap (λ (y : Option (Operation T)). give_up_answer s op y) (sym there));
        reply = refl;
        woken = woken;
        shows = shows_again h _ (with_held (Op op) None held) (after_leaving Nothing line (Op op) (given_up s op x) (Reply.GivenUp msg)).after refl g.queue g.senders g.receivers changed.0 changed.1;
        names = ap (λ (y : Option (Operation T)). given_up_names op y s.names) (sym there);
        told = told_left_as Nothing line (Op op) s.waiting _ woken;
      })
