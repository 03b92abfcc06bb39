-- A poll of a receiver as a stream: unless it stands untold, its listener is used up, and then it finds a message, waits, or
-- learns that none will come.
use Rattle.std.specs.Prelude.{◌≡◌, ◌∷◌, ◌++◌}
use Rattle.channel_world_runs.proofs.Lemmas.{false_from_ne_true, List, [], length, true, false, Option, None, Some, Ok, refl, sym, ap, subst, ◌∙◌, inl, inr, append-nil, ListenError, Key, Channel, registers, listeners, refused_reply, over, Outcome, Alone, ends, of_room, over_queue, PollsFor, PollsStream, Found, first, none_yet, none_ever, found, replying, next_answer, poll_next_answer, AwakeIn, line_at, Waiting, is_among, without_waiter, told_by, gone, standing, next_not_polled, answer_without, State, with_waiting, HandleId, Waiter, Stream, Room, Streams, awake_without_stream, decided, same_refl, without_absent, none_left, Matches, KeysHeld, with_held, Refines, Poll, ChannelAsk, Reply, WaitList, WaitingStep, Call, shows_moved, Nowhere, gone_nowhere, nowhere_gone, keyless_nowhere, away_holds_none, with_own}
use Rattle.channel_calls.specs.Parts.{waits}
use Rattle.channel_steps.specs.solo.Alone as alone
use Rattle.channel_world_runs.proofs.refinement.Departing.{streams_are, nowhere_after}
use Rattle.channel_world_runs.proofs.refinement.News.{keys_news, room_lines, room_wakes}
use Rattle.channel_world_runs.proofs.refinement.Operations.{lack_of, not_standing_is}
use Rattle.channel_world_runs.proofs.refinement.Pending.{Waited, away_unheld, away_told, stays, held_twice}
use Rattle.channel_world_runs.proofs.refinement.Polling.{WaitEnds, where_true, where_false, wait_ends, shown}
use Rattle.channel_world_runs.proofs.refinement.Told.{told_gone, told_standing, not_both, without_others}

module _ {T : Type 0} (held : KeysHeld) (s : State T) (receiver : HandleId) (awake : AwakeIn s) where
  -- the stream stands nowhere, and holds nothing
  abbrev used_up : State T
  used_up = with_waiting (gone (Stream receiver) s.waiting) s

  abbrev unheld : KeysHeld
  unheld = with_held (Stream receiver) None held

  still_awake : AwakeIn used_up
  still_awake = awake_without_stream (line_at s.names) s.channel.capacity s.channel.closed (length s.channel.messages) (Stream receiver) s.waiting refl awake

  -- what a poll answers then
  answer_then : (x : Found T) → is_among (Stream receiver) s.waiting.streams ≡ false → found s.channel ≡ x → next_answer used_up receiver x ≡ poll_next_answer s receiver
  answer_then x u e = ap (λ (y : Found T). next_answer used_up receiver y) (sym e) ∙ by_place u where
    by_place : is_among (Stream receiver) s.waiting.streams ≡ false → next_answer used_up receiver (found s.channel) ≡ poll_next_answer s receiver
    by_place u = rw u refl

  lacks_then : (error : ListenError) → is_among (Stream receiver) s.waiting.streams ≡ false → found s.channel ≡ none_yet
      → answer_without (lack_of error) s (Call.PollNext receiver) ≡ Some (replying used_up (refused_reply WaitList.Streams error))
  lacks_then ListenError.NoMemory u e =
      ap (λ (x : Found T). next_not_polled (lack_of ListenError.NoMemory) s (Stream receiver) x) e ∙ not_standing_is Streams (Stream receiver) s (refused_reply WaitList.Streams ListenError.NoMemory) u
  lacks_then ListenError.SerialsUsedUp u e =
      ap (λ (x : Found T). next_not_polled (lack_of ListenError.SerialsUsedUp) s (Stream receiver) x) e ∙ not_standing_is Streams (Stream receiver) s (refused_reply WaitList.Streams ListenError.SerialsUsedUp) u

  module _ (u : is_among (Stream receiver) s.waiting.streams ≡ false) (c : Channel T Waiter) (h : Refines unheld c used_up) where
    got : (m : T) (ms : List T) → c.queue.items ≡ m ∷ ms → Matches held s (Call.PollNext receiver) (ends of_room (over (Reply.Next (Poll.Ready (Some (Ok m)))) None WaitList.Streams None) (over_queue alone.taken c))
    got m ms e =
        let found_first : found s.channel ≡ first m ms = rw (sym h.messages ∙ e) refl in
        let l : Waiting = gone (Stream receiver) s.waiting in
        let woken = room_wakes (line_at s.names) unheld s.channel.closed c.wait_lists l [] h.lines ∙ append-nil _ in
        record {
          answer = next_answer used_up receiver (first m ms);
          allowed = inl (answer_then (first m ms) u found_first);
          reply = refl;
          woken = woken;
          shows =
              shows_moved h _ unheld (next_answer used_up receiver (first m ms)).after refl (rw e refl) refl refl refl refl
              (room_lines (line_at s.names) unheld s.channel.closed c.wait_lists l still_awake.placed.lines h.lines) (keys_news (line_at s.names) unheld Room l h.keys);
          names = refl;
          told =
              without_others (Stream receiver) s.waiting.woken (told_by Room l) (nowhere_after Room (Stream receiver) s.waiting).woken
              ∙ ap (λ (ws : List Waiter). without_waiter (Stream receiver) (s.waiting.woken ++ ws)) (sym woken);
        }

    ended : c.queue.items ≡ [] → c.queue.closed ≡ true → Matches held s (Call.PollNext receiver) (ends [] (over (Reply.Next (Poll.Ready None)) None WaitList.Streams None) c)
    ended e t =
        let none : found s.channel ≡ none_ever = rw (sym h.messages ∙ e, sym h.closed ∙ t) refl in
        record {
          answer = next_answer used_up receiver none_ever;
          allowed = inl (answer_then none_ever u none);
          reply = refl;
          woken = refl;
          shows = h;
          names = refl;
          told = told_gone (Stream receiver) s.waiting.woken;
        }

    waited : found s.channel ≡ none_yet → (o : Outcome T Waiter) → WaitEnds Streams (Reply.Next Poll.Pending) (λ e. refused_reply WaitList.Streams e) None (Stream receiver) unheld used_up o → Matches held s (Call.PollNext receiver) o
    waited none o (inl (key, d, e, g)) =
        subst (λ (x : Outcome T Waiter). Matches held s (Call.PollNext receiver) x) (sym e)
        (record {
          answer = next_answer used_up receiver none_yet;
          allowed = inl (answer_then none_yet u none);
          reply = refl;
          woken = refl;
          shows = subst (λ (f : KeysHeld). Refines f d (next_answer used_up receiver none_yet).after) (held_twice (Stream receiver) (Some key) None held) g;
          names = refl;
          told =
              told_standing (line_at s.names) Streams (Stream receiver) (gone (Stream receiver) s.waiting) still_awake.placed
              ∙ sym (told_gone (Stream receiver) (without_waiter (Stream receiver) s.waiting.woken))
              ∙ without_absent (Stream receiver) (without_waiter (Stream receiver) s.waiting.woken) (none_left (Stream receiver) s.waiting.woken)
              ∙ told_gone (Stream receiver) s.waiting.woken;
        })
    waited none o (inr (error, d, e, v, g)) =
        let l : Waiting = gone (Stream receiver) s.waiting in
        let same : gone (Stream receiver) l ≡ l = gone_nowhere (Stream receiver) l (nowhere_gone (Stream receiver) s.waiting) in
        subst (λ (x : Outcome T Waiter). Matches held s (Call.PollNext receiver) x) (sym e)
        (record {
          answer = replying used_up (refused_reply WaitList.Streams error);
          allowed = inr (lack_of error, lacks_then error u none);
          reply = refl;
          woken = refl;
          shows = subst (λ (m : Waiting). Refines unheld d (with_waiting m s)) same (subst (λ (f : KeysHeld). Refines f d (with_waiting (gone (Stream receiver) l) s)) (held_twice (Stream receiver) None None held) g);
          names = refl;
          told = told_gone (Stream receiver) s.waiting.woken;
        })

    polls : (items : List T) (o : Outcome T Waiter) → c.queue.items ≡ items
        → PollsFor items WaitingStep.Stream (λ m. Reply.Next (Poll.Ready (Some (Ok m)))) (Reply.Next (Poll.Ready None)) None (Stream receiver) c o → Matches held s (Call.PollNext receiver) o
    polls (m ∷ ms) o e x = subst (λ (y : Outcome T Waiter). Matches held s (Call.PollNext receiver) y) (sym x) (got m ms e)
    polls [] o e x = elim (decided c.queue.closed) [
      | inl t ↦ subst (λ (y : Outcome T Waiter). Matches held s (Call.PollNext receiver) y) (sym (where_true c.queue.closed _ _ t x)) (ended e t)
      | inr t ↦
          let none : found s.channel ≡ none_yet = rw (sym h.messages ∙ e, sym h.closed ∙ t) refl in
          waited none o
          (wait_ends Streams (Reply.Next Poll.Pending) (λ e. refused_reply WaitList.Streams e) None (Stream receiver) unheld c used_up h still_awake refl None o
          (with_own (Stream receiver) (Stream receiver) None held (same_refl (Stream receiver))) (where_false c.queue.closed _ _ t x))
    ]

    pub polls_used : (o : Outcome T Waiter) → PollsStream None (Stream receiver) c o → Matches held s (Call.PollNext receiver) o
    polls_used o x = polls c.queue.items o refl x

-- ---- from what the stream holds

module _ {T : Type 0} (held : KeysHeld) (c : Channel T Waiter) (s : State T) (h : Refines held c s) (awake : AwakeIn s) (receiver : HandleId) where
  shown_so : (key : Option Key) (m : Waiting) (d : Channel T Waiter) → d.queue ≡ c.queue → Waited (line_at s.names) held s.channel.closed (Stream receiver) c.wait_lists d.wait_lists key m
      → Refines (with_held (Stream receiver) key held) d (with_waiting m s)
  shown_so key m d e g = shown Streams (Reply.Next Poll.Pending) (λ e. refused_reply WaitList.Streams e) None (Stream receiver) held c s h awake refl key m d e g

  told_not_untold : is_among (Stream receiver) s.waiting.woken ≡ true → is_among (Stream receiver) s.waiting.streams ≡ false
  told_not_untold t = false_from_ne_true (is_among (Stream receiver) s.waiting.streams) (λ u. not_both (line_at s.names) Streams (Stream receiver) s.waiting awake.placed u t)

  still_untold : is_among (Stream receiver) s.waiting.streams ≡ true → replying (with_waiting (standing Streams (Stream receiver) s.waiting) s) (Reply.Next Poll.Pending) ≡ poll_next_answer s receiver
  still_untold u = rw u refl

  polls_by : (key : Option Key) (o : Outcome T Waiter) → held (Stream receiver) ≡ key → Alone (ChannelAsk.PollNext key (Stream receiver)) c o → Matches held s (Call.PollNext receiver) o
  polls_by None o e x =
      let away : Nowhere (Stream receiver) s.waiting = keyless_nowhere (line_at s.names) held s.channel.closed c.wait_lists s.waiting Streams (Stream receiver) refl e awake.placed h.lines in
      polls_used held s receiver awake (away.lines Streams) c
      (shown_so None (gone (Stream receiver) s.waiting) c refl
      (away_unheld (line_at s.names) held s.channel.closed (streams_are s.names) Streams (Stream receiver) refl s.waiting awake.placed h.keys awake.opened c.wait_lists h.lines e)) o x
  polls_by (Some key) o e x = elim (decided (is_among (Stream receiver) s.waiting.woken)) [
    | inl t ↦
        let used = away_told (line_at s.names) held s.channel.closed (streams_are s.names) Streams (Stream receiver) refl s.waiting awake.placed h.keys awake.opened c.wait_lists h.lines key e t in
        let d : Channel T Waiter = (registers WaitList.Streams key (Stream receiver) c).channel in
        polls_used held s receiver awake (told_not_untold t) d (shown_so None (gone (Stream receiver) s.waiting) d refl used.1) o
        (where_false (waits key (listeners WaitList.Streams c.wait_lists)) _ _ used.0 x)
    | inr t ↦ elim (decided (is_among (Stream receiver) s.waiting.streams)) [
      | inr u ↦ absurd (away_holds_none (line_at s.names) held Streams (Stream receiver) s.waiting key refl awake.placed h.keys e u t)
      | inl u ↦
          let stayed = stays (line_at s.names) held s.channel.closed (streams_are s.names) Streams (Stream receiver) refl s.waiting awake.placed h.keys awake.opened c.wait_lists h.lines key e t u in
          let d : Channel T Waiter = (registers WaitList.Streams key (Stream receiver) c).channel in
          subst (λ (y : Outcome T Waiter). Matches held s (Call.PollNext receiver) y) (sym (where_true (waits key (listeners WaitList.Streams c.wait_lists)) _ _ stayed.0 x))
          (record {
            answer = replying (with_waiting (standing Streams (Stream receiver) s.waiting) s) (Reply.Next Poll.Pending);
            allowed = inl (still_untold u);
            reply = refl;
            woken = refl;
            shows = shown_so (Some key) (standing Streams (Stream receiver) s.waiting) d refl stayed.1;
            names = refl;
            told = told_standing (line_at s.names) Streams (Stream receiver) s.waiting awake.placed;
          })
    ]
  ]

  pub poll_next : (o : Outcome T Waiter) → Alone (ChannelAsk.PollNext (held (Stream receiver)) (Stream receiver)) c o → Matches held s (Call.PollNext receiver) o
  poll_next o x = polls_by (held (Stream receiver)) o refl x
