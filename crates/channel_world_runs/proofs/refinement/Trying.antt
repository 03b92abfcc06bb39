-- Calls of handles that do not wait.
use Rattle.std.specs.Prelude.{◌<◌, ◌≡◌, ◌∷◌, ◌++◌, ◌==◌, if◌then◌else◌}
use Rattle.channel_world_runs.proofs.Lemmas.{Refines, arith, zero, suc, take, ℕ, List, [], length, drop, slice_get, Bool, true, false, Option, None, Some, Ok, Err, refl, sym, ap, subst, ◌∙◌, inl, inr, append-nil, option_map_or, Queue, is_full_at, is_filled, Channel, says, closer_ending, Reply, Outcome, ends, of_message, of_closing, over_queue, receives_by, receives, receives_these, receives_several, ReceivesSeveral, sends, force_sends, closes, MayLackRoom, Found, first, none_yet, none_ever, found, try_recv_answer, recv_many_answer, try_send_answer, force_send_answer, displacing, space_of, replying, after_telling, shut, AwakeIn, line_at, Answers, memory, not_held, State, with_channel, Call, HandleId, Waiter, Message, Room, Closing, Space, Filled, keeper, Matches, names_after, KeysHeld, is_full, with_messages, Refused, TryRecvError, TrySendError, Closer, shows_moved, matching, Lined}
use Rattle.channel_world_model.specs.declared.space.Space.TheVariants.{Open, Shut}
use Rattle.channel_steps.specs.solo.Alone as alone
use Rattle.channel_world_runs.proofs.refinement.News.{shut_lines, keys_news, keys_rooms, rooms_woken, room_lines, room_wakes, rooms_lines, rooms_wakes, message_lines, message_wakes, closing_lines, closing_wakes}

pub full_as : {T : Type 0} → (cap : Option ℕ) (items : List T) → is_full_at cap items ≡ option_map_or (λ (n : ℕ). length items == n) cap false
full_as None items = refl
full_as (Some n) items = refl

module _ {T : Type 0} (held : KeysHeld) (c : Channel T Waiter) (s : State T) (h : Refines held c s) where
  -- ---- what a channel that shows a state has, in the words of the state

  pub filled_is : is_filled c.queue ≡ is_full s.channel
  filled_is =
      full_as c.queue.capacity c.queue.items
      ∙ ap (λ (cap : Option ℕ). option_map_or (λ (n : ℕ). length c.queue.items == n) cap false) h.capacity
      ∙ ap (λ (items : List T). option_map_or (λ (n : ℕ). length items == n) s.channel.capacity false) h.messages

  pub shut_space : c.queue.closed ≡ true → space_of s.channel ≡ Shut
  shut_space e = rw (sym h.closed ∙ e) refl

  pub filled_space : c.queue.closed ≡ false → is_filled c.queue ≡ true → space_of s.channel ≡ Filled
  filled_space e f = rw (sym h.closed ∙ e, sym filled_is ∙ f) refl

  pub open_space : c.queue.closed ≡ false → is_filled c.queue ≡ false → space_of s.channel ≡ Open
  open_space e f = rw (sym h.closed ∙ e, sym filled_is ∙ f) refl

  never_full : (q : Queue T) → q.capacity ≡ None → is_filled q ≡ false
  never_full q e = rw e refl

  -- where memory may be refused to a message
  pub lacking_space : c.queue.closed ≡ false → c.queue.capacity ≡ None → space_of s.channel ≡ Open
  lacking_space e f = open_space e (never_full c.queue f)

  -- ---- a call over which nobody keeps a listener, and which only answers

  pub only_answers : (call : Call T) (r : Reply T) (o : Outcome T Waiter) → keeper s call ≡ None → Answers s call (replying s r) → s.names ≡ names_after s call (ends [] (says r) c)
      → o ≡ ends [] (says r) c → Matches held s call o
  only_answers call r o nobody allowed names e =
      subst (λ (x : Outcome T Waiter). Matches held s call x) (sym e)
      (matching held s call None nobody (ends [] (says r) c) (replying s r) allowed refl refl h names (sym (append-nil s.waiting.woken)))

  -- memory is refused to a message
  pub lacks_room : (call : Call T) (r : Reply T) (o : Outcome T Waiter) → keeper s call ≡ None → s.names ≡ names_after s call (ends [] (says r) c)
      → ((x : Space) → space_of s.channel ≡ x → not_held memory s.channel x (replying s r) ≡ Some (replying s r) → Answers s call (replying s r))
      → MayLackRoom (says r) c o → Matches held s call o
  lacks_room call r o nobody names allowed lack =
      let free : not_held memory s.channel Open (replying s r) ≡ Some (replying s r) = rw (sym h.capacity ∙ lack.1) refl in
      only_answers call r o nobody (allowed Open (lacking_space lack.0 lack.1) free) names lack.2

  module _ (awake : AwakeIn s) where
    lined : Lined (line_at s.names) s.waiting
    lined = awake.placed.lines

    -- ---- receiving

    receiving : (receiver : HandleId) (items : List T) (closed : Bool) → c.queue.items ≡ items → c.queue.closed ≡ closed → Matches held s (Call.TryRecv receiver) (receives_by items c)
    receiving receiver [] true e f =
        let none : found s.channel ≡ none_ever = rw (sym h.messages ∙ e, sym h.closed ∙ f) refl in
        only_answers (Call.TryRecv receiver) (Reply.TryRecv (Err TryRecvError.Closed)) _ refl (inl (ap (λ (x : Found T). try_recv_answer s x) (sym none))) refl (rw f refl)
    receiving receiver [] false e f =
        let none : found s.channel ≡ none_yet = rw (sym h.messages ∙ e, sym h.closed ∙ f) refl in
        only_answers (Call.TryRecv receiver) (Reply.TryRecv (Err TryRecvError.Empty)) _ refl (inl (ap (λ (x : Found T). try_recv_answer s x) (sym none))) refl (rw f refl)
    receiving receiver (m ∷ ms) closed e f =
        let some : found s.channel ≡ first m ms = rw (sym h.messages ∙ e) refl in
        let woken = room_wakes (line_at s.names) held s.channel.closed c.wait_lists s.waiting [] h.lines ∙ append-nil _ in
        record {
          answer = try_recv_answer s (first m ms);
          allowed = inl (ap (λ (x : Found T). try_recv_answer s x) (sym some));
          reply = refl;
          woken = woken;
          shows =
              shows_moved h _ held (try_recv_answer s (first m ms)).after refl (rw e refl) refl refl refl refl
              (room_lines (line_at s.names) held s.channel.closed c.wait_lists s.waiting lined h.lines) (keys_news (line_at s.names) held Room s.waiting h.keys);
          names = refl;
          told = ap (λ (ws : List Waiter). s.waiting.woken ++ ws) (sym woken);
        }

    pub try_recv : (receiver : HandleId) (o : Outcome T Waiter) → o ≡ receives c → Matches held s (Call.TryRecv receiver) o
    try_recv receiver o e = subst (λ (x : Outcome T Waiter). Matches held s (Call.TryRecv receiver) x) (sym e) (receiving receiver c.queue.items c.queue.closed refl refl)

    -- several at once

    several_taken : (receiver : HandleId) (n : ℕ) (ms : List T) → take (suc n) c.queue.items ≡ ms → Matches held s (Call.RecvMany receiver (suc n)) (receives_these (suc n) ms c)
    several_taken receiver n [] e =
        let none : take (suc n) s.channel.messages ≡ [] = ap (λ (xs : List T). take (suc n) xs) (sym h.messages) ∙ e in
        only_answers (Call.RecvMany receiver (suc n))
        (Reply.RecvMany (Err (Refused.Plain (if c.queue.closed then TryRecvError.Closed else TryRecvError.Empty)))) _ refl
        (inl (ap (λ (b : Bool). replying s (Reply.RecvMany (Err (Refused.Plain (if b then TryRecvError.Closed else TryRecvError.Empty))))) h.closed
        ∙ sym (ap (λ (xs : List T). recv_many_answer s (suc n) xs (drop (suc n) s.channel.messages)) none))) refl refl
    several_taken receiver n (m ∷ ms) e =
        let some : take (suc n) s.channel.messages ≡ m ∷ ms = ap (λ (xs : List T). take (suc n) xs) (sym h.messages) ∙ e in
        let k = length (m ∷ ms) in
        let woken = append-nil _ ∙ rooms_wakes (line_at s.names) held k s.channel.closed c.wait_lists s.waiting lined h.lines in
        record {
          answer = recv_many_answer s (suc n) (m ∷ ms) (drop (suc n) s.channel.messages);
          allowed = inl (sym (ap (λ (xs : List T). recv_many_answer s (suc n) xs (drop (suc n) s.channel.messages)) some));
          reply = refl;
          woken = woken;
          shows =
              shows_moved h _ held (recv_many_answer s (suc n) (m ∷ ms) (drop (suc n) s.channel.messages)).after refl (ap (λ (xs : List T). drop (suc n) xs) h.messages) refl refl refl refl
              (rooms_lines (line_at s.names) held k s.channel.closed c.wait_lists s.waiting lined h.lines) (keys_rooms (line_at s.names) held k s.waiting h.keys);
          names = refl;
          told = rooms_woken k s.waiting ∙ ap (λ (ws : List Waiter). s.waiting.woken ++ ws) (sym woken);
        }

    several : (receiver : HandleId) (limit : ℕ) → Matches held s (Call.RecvMany receiver limit) (receives_several limit c)
    several receiver zero = only_answers (Call.RecvMany receiver zero) (Reply.RecvMany (Ok [])) _ refl (inl refl) refl refl
    several receiver (suc n) = several_taken receiver n (take (suc n) c.queue.items) refl

    several_lack : (receiver : HandleId) (limit : ℕ) (o : Outcome T Waiter) → 0 < limit → o ≡ ends [] (says (Reply.RecvMany (Err (Refused.NoMemory tt)))) c
        → Matches held s (Call.RecvMany receiver limit) o
    several_lack receiver zero o some e = absurd (omega (arith, some))
    several_lack receiver (suc n) o some e =
        only_answers (Call.RecvMany receiver (suc n)) (Reply.RecvMany (Err (Refused.NoMemory tt))) o refl (inr (memory, refl)) refl e

    pub recv_many : (receiver : HandleId) (limit : ℕ) (o : Outcome T Waiter) → ReceivesSeveral limit c o → Matches held s (Call.RecvMany receiver limit) o
    recv_many receiver limit o (inl (some, e)) = several_lack receiver limit o some e
    recv_many receiver limit o (inr e) = subst (λ (x : Outcome T Waiter). Matches held s (Call.RecvMany receiver limit) x) (sym e) (several receiver limit)

    -- ---- sending

    -- a message that comes in, perhaps in the place of an older one
    came_in : (call : Call T) (r : Reply T) (f : Queue T → Queue T) (ms : List T) → keeper s call ≡ None → Answers s call (after_telling Message (with_channel (with_messages s.channel ms) s) r)
        → s.names ≡ names_after s call (ends of_message (says r) (over_queue f c))
        → (f c.queue).items ≡ ms → (f c.queue).closed ≡ c.queue.closed → (f c.queue).capacity ≡ c.queue.capacity → Matches held s call (ends of_message (says r) (over_queue f c))
    came_in call r f ms nobody allowed names items closed capacity =
        let woken = message_wakes (line_at s.names) held s.channel.closed c.wait_lists s.waiting [] h.lines ∙ append-nil _ in
        let shows : Refines held (ends of_message (says r) (over_queue f c)).channel (after_telling Message (with_channel (with_messages s.channel ms) s) r).after =
        shows_moved h _ held _ refl items closed capacity refl refl
        (message_lines (line_at s.names) held s.channel.closed c.wait_lists s.waiting lined h.lines) (keys_news (line_at s.names) held Message s.waiting h.keys) in
        matching held s call None nobody (ends of_message (says r) (over_queue f c)) (after_telling Message (with_channel (with_messages s.channel ms) s) r) allowed refl woken shows names
        (ap (λ (ws : List Waiter). s.waiting.woken ++ ws) (sym woken))

    sending : (sender : HandleId) (m : T) (closed full : Bool) → c.queue.closed ≡ closed → is_filled c.queue ≡ full → Matches held s (Call.TrySend sender m)
        (if closed then ends [] (says (Reply.TrySend (Err (Refused.Plain (TrySendError.Closed m))))) c
        else (if full then ends [] (says (Reply.TrySend (Err (Refused.Plain (TrySendError.Full m))))) c
        else ends of_message (says (Reply.TrySend (Ok tt))) (over_queue (alone.with_appended m) c)))
    sending sender m true full e f =
        only_answers (Call.TrySend sender m) (Reply.TrySend (Err (Refused.Plain (TrySendError.Closed m)))) _ refl (inl (ap (λ (x : Space). try_send_answer s m x) (sym (shut_space e)))) refl refl
    sending sender m false true e f =
        only_answers (Call.TrySend sender m) (Reply.TrySend (Err (Refused.Plain (TrySendError.Full m)))) _ refl (inl (ap (λ (x : Space). try_send_answer s m x) (sym (filled_space e f)))) refl refl
    sending sender m false false e f =
        came_in (Call.TrySend sender m) (Reply.TrySend (Ok tt)) (alone.with_appended m) (s.channel.messages ++ m ∷ []) refl
        (inl (ap (λ (x : Space). try_send_answer s m x) (sym (open_space e f)))) refl (ap (λ (items : List T). items ++ m ∷ []) h.messages) refl refl

    pub try_send : (sender : HandleId) (m : T) (o : Outcome T Waiter) → o ≡ sends m c → Matches held s (Call.TrySend sender m) o
    try_send sender m o e =
        subst (λ (x : Outcome T Waiter). Matches held s (Call.TrySend sender m) x) (sym e) (sending sender m c.queue.closed (is_filled c.queue) refl refl)

    pub try_send_lacks : (sender : HandleId) (m : T) (o : Outcome T Waiter) → MayLackRoom (says (Reply.TrySend (Err (Refused.NoMemory m)))) c o → Matches held s (Call.TrySend sender m) o
    try_send_lacks sender m o lack =
        lacks_room (Call.TrySend sender m) (Reply.TrySend (Err (Refused.NoMemory m))) o refl refl
        (λ x e free. inr (memory, ap (λ (y : Space). not_held memory s.channel y (replying s (Reply.TrySend (Err (Refused.NoMemory m))))) e ∙ free)) lack

    -- ---- sending to a full channel too

    displaces : (sender : HandleId) (m : T) (items : List T) → c.queue.closed ≡ false → is_filled c.queue ≡ true → c.queue.items ≡ items
        → Matches held s (Call.ForceSend sender m) (ends of_message (says (Reply.ForceSend (Ok (slice_get items 0)))) (over_queue (alone.replaced m) c))
    displaces sender m [] e f g =
        let none : s.channel.messages ≡ [] = sym h.messages ∙ g in
        came_in (Call.ForceSend sender m) (Reply.ForceSend (Ok None)) (alone.replaced m) (s.channel.messages ++ m ∷ []) refl
        (inl (ap (λ (ms : List T). displacing s m ms) (sym none) ∙ ap (λ (x : Space). force_send_answer s m x) (sym (filled_space e f)))) refl
        (ap (λ (ms : List T). drop 1 ms ++ m ∷ []) g ∙ ap (λ (ms : List T). ms ++ m ∷ []) (sym none)) refl refl
    displaces sender m (oldest ∷ ms) e f g =
        came_in (Call.ForceSend sender m) (Reply.ForceSend (Ok (Some oldest))) (alone.replaced m) (ms ++ m ∷ []) refl
        (inl (ap (λ (xs : List T). displacing s m xs) (sym (sym h.messages ∙ g)) ∙ ap (λ (x : Space). force_send_answer s m x) (sym (filled_space e f)))) refl
        (ap (λ (xs : List T). drop 1 xs ++ m ∷ []) g) refl refl

    forcing : (sender : HandleId) (m : T) (closed full : Bool) → c.queue.closed ≡ closed → is_filled c.queue ≡ full → Matches held s (Call.ForceSend sender m)
        (if closed then ends [] (says (Reply.ForceSend (Err (Refused.Plain (record { 0 = m }))))) c
        else (if full then ends of_message (says (Reply.ForceSend (Ok (slice_get c.queue.items 0)))) (over_queue (alone.replaced m) c)
        else ends of_message (says (Reply.ForceSend (Ok None))) (over_queue (alone.with_appended m) c)))
    forcing sender m true full e f =
        only_answers (Call.ForceSend sender m) (Reply.ForceSend (Err (Refused.Plain (record { 0 = m })))) _ refl (inl (ap (λ (x : Space). force_send_answer s m x) (sym (shut_space e)))) refl refl
    forcing sender m false true e f = displaces sender m c.queue.items e f refl
    forcing sender m false false e f =
        came_in (Call.ForceSend sender m) (Reply.ForceSend (Ok None)) (alone.with_appended m) (s.channel.messages ++ m ∷ []) refl
        (inl (ap (λ (x : Space). force_send_answer s m x) (sym (open_space e f)))) refl (ap (λ (items : List T). items ++ m ∷ []) h.messages) refl refl

    pub force_send : (sender : HandleId) (m : T) (o : Outcome T Waiter) → o ≡ force_sends m c → Matches held s (Call.ForceSend sender m) o
    force_send sender m o e =
        subst (λ (x : Outcome T Waiter). Matches held s (Call.ForceSend sender m) x) (sym e) (forcing sender m c.queue.closed (is_filled c.queue) refl refl)

    pub force_send_lacks : (sender : HandleId) (m : T) (o : Outcome T Waiter) → MayLackRoom (says (Reply.ForceSend (Err (Refused.NoMemory m)))) c o → Matches held s (Call.ForceSend sender m) o
    force_send_lacks sender m o lack =
        lacks_room (Call.ForceSend sender m) (Reply.ForceSend (Err (Refused.NoMemory m))) o refl refl
        (λ x e free. inr (memory, ap (λ (y : Space). not_held memory s.channel y (replying s (Reply.ForceSend (Err (Refused.NoMemory m))))) e ∙ free)) lack

    -- ---- closing

    closing : (handle : HandleId) (closed : Bool) → c.queue.closed ≡ closed
        → Matches held s (Call.Close handle) (if closed then ends [] (closer_ending Closer.Call false) c else ends of_closing (closer_ending Closer.Call true) (over_queue alone.with_closed c))
    closing handle true e = only_answers (Call.Close handle) (Reply.Closed false) _ refl (inl (rw (sym h.closed ∙ e) refl)) refl refl
    closing handle false e =
        let woken = closing_wakes (line_at s.names) held s.channel.closed c.wait_lists s.waiting [] h.lines ∙ append-nil _ in
        record {
          answer = after_telling Closing (with_channel (shut s.channel) s) (Reply.Closed true);
          allowed = inl (rw (sym h.closed ∙ e) refl);
          reply = refl;
          woken = woken;
          shows = record {
            messages = h.messages;
            closed = refl;
            capacity = h.capacity;
            senders = h.senders;
            receivers = h.receivers;
            lines = closing_lines (line_at s.names) held c.wait_lists s.waiting lined (shut_lines (line_at s.names) held s.channel.closed c.wait_lists s.waiting h.lines);
            keys = keys_news (line_at s.names) held Closing s.waiting h.keys;
          };
          names = refl;
          told = ap (λ (ws : List Waiter). s.waiting.woken ++ ws) (sym woken);
        }

    pub close : (handle : HandleId) (o : Outcome T Waiter) → o ≡ closes Closer.Call c → Matches held s (Call.Close handle) o
    close handle o e = subst (λ (x : Outcome T Waiter). Matches held s (Call.Close handle) x) (sym e) (closing handle c.queue.closed refl)
