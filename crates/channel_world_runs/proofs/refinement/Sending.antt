-- Polls of a send.
use Rattle.std.specs.Prelude.{◌≡◌, ◌∷◌, ◌++◌}
use Rattle.channel_world_runs.proofs.Lemmas.{with_held, Refines, List, [], false, Option, None, Some, Ok, Err, refl, sym, ap, subst, ◌∙◌, inl, inr, append-nil, Queue, is_filled, Key, ListenError, Channel, leaves, tells_one, tells_all, held_on, refused_reply, over, Outcome, ends, of_message, over_queue, WaitsOrGoesOn, PollsSend, MayLackRoom, replying, after_leaving, send_poll_answer, poll_answer, finished, space_of, memory, refused, not_polled, send_not_polled, line_at, line_of_operation, is_among, untold, after_news, told_by, gone, Operation, at, Reply, AwakeIn, State, with_waiting, HandleId, OpId, Waiter, Op, Nothing, Message, Space, Filled, Sends, decided, placed_news, empty_news, KeysHeld, Matches, polled_names, Poll, Refused, WaitList, WaitingStep as Waiting, Call, shows_again, shows_moved}
use Rattle.channel_world_model.specs.declared.space.Space.TheVariants.{Open, Shut}
use Rattle.channel_steps.specs.solo.Alone as alone
use Rattle.channel_world_runs.proofs.refinement.News.{keys_news, message_lines, message_wakes}
use Rattle.channel_world_runs.proofs.refinement.Departing.{departed, streams_are}
use Rattle.channel_world_runs.proofs.refinement.Polling.{WaitsAs, WaitEnds, where_true, where_false, wait_ends}
use Rattle.channel_world_runs.proofs.refinement.Ends.{leaves_now, ends_so}
use Rattle.channel_world_runs.proofs.refinement.Operations.{lack_of, not_standing_is, poll_waited, changed_lines}
use Rattle.channel_world_runs.proofs.refinement.Told.{told_left_as, same_names}
use Rattle.channel_world_runs.proofs.refinement.Trying.{shut_space, filled_space, open_space, lacking_space}

module _ {T : Type 0} (held : KeysHeld) (c : Channel T Waiter) (s : State T) (h : Refines held c s) (awake : AwakeIn s) (op : OpId) (handle : HandleId) (msg : T) (there : at op.0 s.names.operations ≡ Some (Operation.Send handle (Some msg))) where
  send_is : line_at s.names (Op op) ≡ Some Sends
  send_is = ap (λ (o : Option (Operation T)). line_of_operation o) there

  send_waits : (key : Option Key) (o : Outcome T Waiter) → WaitsOrGoesOn (Waiting.Send msg) key (Op op) c o
      → WaitsAs Sends (Reply.SendPoll Poll.Pending) (λ e. refused_reply WaitList.Sends e) (Some msg) (Op op) key c o
  send_waits None o x = x
  send_waits (Some key) o x = x

  by_space : (x : Space) → space_of s.channel ≡ x → send_poll_answer s op handle msg x ≡ poll_answer s op (at op.0 s.names.operations)
  by_space x e = ap (λ (y : Space). send_poll_answer s op handle msg y) (sym e) ∙ ap (λ (o : Option (Operation T)). poll_answer s op o) (sym there)

  names_stay : s.names ≡ polled_names op (at op.0 s.names.operations) (Some msg) s.names
  names_stay = sym (same_names op (Operation.Send handle (Some msg)) s.names there) ∙ ap (λ (o : Option (Operation T)). polled_names op o (Some msg) s.names) (sym there)

  -- ---- a full channel

  lacks_send : space_of s.channel ≡ Filled → (error : ListenError) → is_among (Op op) (untold Sends s.waiting) ≡ false
      → not_polled (lack_of error) s op (Some (Operation.Send handle (Some msg))) ≡ Some (replying (with_waiting (gone (Op op) s.waiting) s) (refused_reply WaitList.Sends error))
  lacks_send full ListenError.NoMemory u = ap (λ (x : Space). send_not_polled (lack_of ListenError.NoMemory) s op x) full ∙ not_standing_is Sends (Op op) s (refused_reply WaitList.Sends ListenError.NoMemory) u
  lacks_send full ListenError.SerialsUsedUp u = ap (λ (x : Space). send_not_polled (lack_of ListenError.SerialsUsedUp) s op x) full ∙ not_standing_is Sends (Op op) s (refused_reply WaitList.Sends ListenError.SerialsUsedUp) u

  send_waited : space_of s.channel ≡ Filled → (o : Outcome T Waiter)
      → WaitEnds Sends (Reply.SendPoll Poll.Pending) (λ e. refused_reply WaitList.Sends e) (Some msg) (Op op) held s o → Matches held s (Call.Poll op) o
  send_waited full o x =
      poll_waited held c s h awake op (Operation.Send handle (Some msg)) Sends (Reply.SendPoll Poll.Pending) (λ e. refused_reply WaitList.Sends e) (Some msg) there
      (ap (λ (y : Space). send_poll_answer s op handle msg y) full) (lacks_send full) (sym (same_names op (Operation.Send handle (Some msg)) s.names there)) o x

  -- ---- memory is refused to the message, by an open channel without a bound

  send_lacks : (o : Outcome T Waiter) → MayLackRoom (over (Reply.SendPoll (Poll.Ready (Err (Refused.NoMemory tt)))) (Some msg) WaitList.Sends (held (Op op))) c o → Matches held s (Call.Poll op) o
  send_lacks o lack =
      let r : Reply T = Reply.SendPoll (Poll.Ready (Err (refused memory))) in
      let without : send_not_polled memory s op Open ≡ Some (after_leaving Nothing Sends (Op op) s r) = rw (sym h.capacity ∙ lack.1) refl in
      ends_so held c s h awake (Call.Poll op) Sends (Op op) r (Some msg) o refl (inl send_is)
      (inr (memory, ap (λ (x : Option (Operation T)). not_polled memory s op x) there ∙ ap (λ (x : Space). send_not_polled memory s op x) (lacking_space held c s h lack.0 lack.1) ∙ without))
      names_stay lack.2

  -- ---- the send is finished

  send_shut : (o : Outcome T Waiter) → space_of s.channel ≡ Shut
      → o ≡ ends [] (over (Reply.SendPoll (Poll.Ready (Err (Refused.Plain (record { 0 = msg }))))) None WaitList.Sends (held (Op op))) c → Matches held s (Call.Poll op) o
  send_shut o closed e =
      let g = leaves_now held c s h awake Sends (Op op) (inl send_is) in
      let changed = changed_lines held c s h awake op (Operation.Send handle (Some msg)) Sends (after_news Nothing s.waiting) (Some (Operation.Send handle None)) (finished s op handle).names c _ _ s.channel.closed there refl g in
      let woken = append-nil _ ∙ g.wakes in
      subst (λ (x : Outcome T Waiter). Matches held s (Call.Poll op) x) (sym e)
      (record {
        answer = send_poll_answer s op handle msg Shut;
        allowed = inl (by_space Shut closed);
        reply = refl;
        woken = woken;
        shows = shows_again h _ (with_held (Op op) None held) (send_poll_answer s op handle msg Shut).after refl g.queue g.senders g.receivers changed.0 changed.1;
        names = ap (λ (y : Option (Operation T)). polled_names op y None s.names) (sym there);
        told = told_left_as Nothing Sends (Op op) s.waiting _ woken;
      })

  send_sent : (o : Outcome T Waiter) → space_of s.channel ≡ Open
      → o ≡ ends of_message (over (Reply.SendPoll (Poll.Ready (Ok tt))) None WaitList.Sends (held (Op op))) (over_queue (alone.with_appended msg) c) → Matches held s (Call.Poll op) o
  send_sent o free e =
      let d : Channel T Waiter = (tells_all WaitList.Streams (tells_one WaitList.Receives (over_queue (alone.with_appended msg) c)).channel).channel in
      let g =
      departed (line_at s.names) held s.channel.closed (streams_are s.names) Sends (Op op) (inl send_is) (after_news Message s.waiting)
      (placed_news (line_at s.names) Message s.waiting awake.placed) (keys_news (line_at s.names) held Message s.waiting h.keys)
      (λ f own. empty_news Message own s.waiting (awake.opened f own)) d (message_lines (line_at s.names) held s.channel.closed c.wait_lists s.waiting awake.placed.lines h.lines) (held (Op op)) refl in
      let changed = changed_lines held c s h awake op (Operation.Send handle (Some msg)) Sends (after_news Message s.waiting) (Some (Operation.Send handle None)) (finished s op handle).names d _ _ s.channel.closed there refl g in
      let woken =
      message_wakes (line_at s.names) held s.channel.closed c.wait_lists s.waiting ((leaves (held_on WaitList.Sends (held (Op op))) d).woken ++ []) h.lines
      ∙ ap (λ (ws : List Waiter). told_by Message s.waiting ++ ws) (append-nil _ ∙ g.wakes) in
      subst (λ (x : Outcome T Waiter). Matches held s (Call.Poll op) x) (sym e)
      (record {
        answer = send_poll_answer s op handle msg Open;
        allowed = inl (by_space Open free);
        reply = refl;
        woken = woken;
        shows =
            shows_moved h _ (with_held (Op op) None held) (send_poll_answer s op handle msg Open).after refl (ap (λ (q : Queue T). q.items) g.queue ∙ ap (λ (items : List T). items ++ msg ∷ []) h.messages)
            (ap (λ (q : Queue T). q.closed) g.queue) (ap (λ (q : Queue T). q.capacity) g.queue) g.senders g.receivers changed.0 changed.1;
        names = ap (λ (y : Option (Operation T)). polled_names op y None s.names) (sym there);
        told = told_left_as Message Sends (Op op) s.waiting _ woken;
      })

  -- ---- every end of a poll

  pub poll_send : (o : Outcome T Waiter) → PollsSend msg (held (Op op)) (Op op) c o → Matches held s (Call.Poll op) o
  poll_send o (inl lack) = send_lacks o lack
  poll_send o (inr x) = elim (decided c.queue.closed) [
    | inl t ↦ send_shut o (shut_space held c s h t) (where_true c.queue.closed _ _ t x)
    | inr t ↦ elim (decided (is_filled c.queue)) [
      | inl u ↦ send_waited (filled_space held c s h t u) o (wait_ends Sends (Reply.SendPoll Poll.Pending) (λ e. refused_reply WaitList.Sends e) (Some msg) (Op op) held c s h awake send_is (held (Op op)) o refl
          (send_waits (held (Op op)) o (where_true (is_filled c.queue) _ _ u (where_false c.queue.closed _ _ t x))))
      | inr u ↦ send_sent o (open_space held c s h t u) (where_false (is_filled c.queue) _ _ u (where_false c.queue.closed _ _ t x))
    ]
  ]
