-- Polls of a receive.
use Rattle.std.specs.Prelude.{◌≡◌, ◌∷◌, ◌++◌}
use Rattle.channel_world_runs.proofs.Lemmas.{with_held, Refines, List, [], false, Option, None, Some, Ok, Err, refl, sym, ap, subst, ◌∙◌, inl, inr, append-nil, Queue, ListenError, Key, Channel, leaves, tells_one, held_on, refused_reply, over, Outcome, ends, of_room, over_queue, WaitsOrGoesOn, PollsFor, PollsReceive, Found, first, none_yet, none_ever, found, replying, recv_poll_answer, poll_answer, AwakeIn, line_at, line_of_operation, after_news, told_by, is_among, untold, gone, Operation, at, recv_not_polled, not_polled, State, with_waiting, HandleId, OpId, Waiter, Op, Room, Receives, placed_news, empty_news, decided, Matches, polled_names, KeysHeld, Poll, Refused, Reply, WaitList, WaitingStep as Waiting, Call, shows_moved}
use Rattle.channel_steps.specs.solo.Alone as alone
use Rattle.channel_world_runs.proofs.refinement.Departing.{departed, streams_are}
use Rattle.channel_world_runs.proofs.refinement.Ends.{ends_so}
use Rattle.channel_world_runs.proofs.refinement.News.{room_lines, room_wakes, keys_news}
use Rattle.channel_world_runs.proofs.refinement.Operations.{lack_of, not_standing_is, poll_waited}
use Rattle.channel_world_runs.proofs.refinement.Polling.{WaitsAs, where_true, where_false, wait_ends}
use Rattle.channel_world_runs.proofs.refinement.Told.{told_left_as}

module _ {T : Type 0} (held : KeysHeld) (c : Channel T Waiter) (s : State T) (h : Refines held c s) (awake : AwakeIn s) (op : OpId) (handle : HandleId) (there : at op.0 s.names.operations ≡ Some (Operation.Receive handle)) where
  recv_kind : line_at s.names (Op op) ≡ Some Receives
  recv_kind = ap (λ (o : Option (Operation T)). line_of_operation o) there

  by_found : (x : Found T) → found s.channel ≡ x → recv_poll_answer s op x ≡ poll_answer s op (at op.0 s.names.operations)
  by_found x e = ap (λ (y : Found T). recv_poll_answer s op y) (sym e) ∙ ap (λ (o : Option (Operation T)). poll_answer s op o) (sym there)

  names_stay : (m : Option T) → s.names ≡ polled_names op (at op.0 s.names.operations) m s.names
  names_stay m = ap (λ (o : Option (Operation T)). polled_names op o m s.names) (sym there)

  -- ---- a message is there

  recv_got : (m : T) (ms : List T) (o : Outcome T Waiter) → c.queue.items ≡ m ∷ ms
      → o ≡ ends of_room (over (Reply.RecvPoll (Poll.Ready (Ok m))) None WaitList.Receives (held (Op op))) (over_queue alone.taken c) → Matches held s (Call.Poll op) o
  recv_got m ms o some e =
      let d : Channel T Waiter = (tells_one WaitList.Sends (over_queue alone.taken c)).channel in
      let g =
      departed (line_at s.names) held s.channel.closed (streams_are s.names) Receives (Op op) (inl recv_kind) (after_news Room s.waiting)
      (placed_news (line_at s.names) Room s.waiting awake.placed) (keys_news (line_at s.names) held Room s.waiting h.keys)
      (λ f own. empty_news Room own s.waiting (awake.opened f own)) d (room_lines (line_at s.names) held s.channel.closed c.wait_lists s.waiting awake.placed.lines h.lines) (held (Op op)) refl in
      let found_first : found s.channel ≡ first m ms = rw (sym h.messages ∙ some) refl in
      let woken =
      room_wakes (line_at s.names) held s.channel.closed c.wait_lists s.waiting ((leaves (held_on WaitList.Receives (held (Op op))) d).woken ++ []) h.lines
      ∙ ap (λ (ws : List Waiter). told_by Room s.waiting ++ ws) (append-nil _ ∙ g.wakes) in
      subst (λ (x : Outcome T Waiter). Matches held s (Call.Poll op) x) (sym e)
      (record {
        answer = recv_poll_answer s op (first m ms);
        allowed = inl (by_found (first m ms) found_first);
        reply = refl;
        woken = woken;
        shows =
            shows_moved h _ (with_held (Op op) None held) (recv_poll_answer s op (first m ms)).after refl (ap (λ (q : Queue T). q.items) g.queue ∙ rw some refl)
            (ap (λ (q : Queue T). q.closed) g.queue) (ap (λ (q : Queue T). q.capacity) g.queue) g.senders g.receivers g.lines g.keys;
        names = names_stay None;
        told = told_left_as Room Receives (Op op) s.waiting _ woken;
      })

  -- ---- none is

  recv_waits : (key : Option Key) (o : Outcome T Waiter) → WaitsOrGoesOn Waiting.Receive key (Op op) c o
      → WaitsAs Receives (Reply.RecvPoll Poll.Pending) (λ e. refused_reply WaitList.Receives e) None (Op op) key c o
  recv_waits None o x = x
  recv_waits (Some key) o x = x

  lacks_recv : found s.channel ≡ none_yet → (error : ListenError) → is_among (Op op) (untold Receives s.waiting) ≡ false
      → not_polled (lack_of error) s op (Some (Operation.Receive handle)) ≡ Some (replying (with_waiting (gone (Op op) s.waiting) s) (refused_reply WaitList.Receives error))
  lacks_recv none ListenError.NoMemory u = ap (λ (x : Found T). recv_not_polled (lack_of ListenError.NoMemory) s op x) none ∙ not_standing_is Receives (Op op) s (refused_reply WaitList.Receives ListenError.NoMemory) u
  lacks_recv none ListenError.SerialsUsedUp u = ap (λ (x : Found T). recv_not_polled (lack_of ListenError.SerialsUsedUp) s op x) none ∙ not_standing_is Receives (Op op) s (refused_reply WaitList.Receives ListenError.SerialsUsedUp) u

  polls_recv : (items : List T) (o : Outcome T Waiter) → c.queue.items ≡ items
      → PollsFor items Waiting.Receive (λ m. Reply.RecvPoll (Poll.Ready (Ok m))) (Reply.RecvPoll (Poll.Ready (Err (Refused.Plain (record {}))))) (held (Op op)) (Op op) c o
      → Matches held s (Call.Poll op) o
  polls_recv (m ∷ ms) o e x = recv_got m ms o e x
  polls_recv [] o e x = elim (decided c.queue.closed) [
    | inl t ↦
        let none : found s.channel ≡ none_ever = rw (sym h.messages ∙ e, sym h.closed ∙ t) refl in
        ends_so held c s h awake (Call.Poll op) Receives (Op op) (Reply.RecvPoll (Poll.Ready (Err (Refused.Plain (record {}))))) None o refl (inl recv_kind)
        (inl (by_found none_ever none)) (names_stay None) (where_true c.queue.closed _ _ t x)
    | inr t ↦
        let none : found s.channel ≡ none_yet = rw (sym h.messages ∙ e, sym h.closed ∙ t) refl in
        poll_waited held c s h awake op (Operation.Receive handle) Receives (Reply.RecvPoll Poll.Pending) (λ e. refused_reply WaitList.Receives e) None there
        (ap (λ (y : Found T). recv_poll_answer s op y) none) (lacks_recv none) refl o
        (wait_ends Receives (Reply.RecvPoll Poll.Pending) (λ e. refused_reply WaitList.Receives e) None (Op op) held c s h awake recv_kind (held (Op op)) o refl
        (recv_waits (held (Op op)) o (where_false c.queue.closed _ _ t x)))
  ]

  pub poll_recv : (o : Outcome T Waiter) → PollsReceive (held (Op op)) (Op op) c o → Matches held s (Call.Poll op) o
  poll_recv o x = polls_recv c.queue.items o refl x
