-- Drops of handles: the last strong one of its side closes, and then a receiver's own stream leaves.
use Rattle.std.specs.Prelude.{◌≡◌, ◌-◌, ◌==◌, ◌&&◌, ◌++◌, if◌then◌else◌}
use Rattle.channel_world_runs.proofs.Lemmas.{ℕ, List, [], length, Bool, true, false, not, Option, None, Some, refl, sym, ap, subst, ◌∙◌, inl, append-nil, Channel, leaves, lowers, tells_all, count, held_on, closer_ending, dropper, Queue, Key, Side, Senders, Receivers, Outcome, ends, of_closing, over_queue, drops, after_telling, after_leaving, shut, without_one, news_without_one, dropped, drop_answer, AwakeIn, Awake, Kind, line_at, Waiting, untold, told_by, after_news, at, State, with_channel, Handle, HandleId, Sender, Receiver, Waiter, Stream, News, Nothing, Closing, WaitList, Sends, Receives, Streams, Closings, placed_news, stream_of, KeysHeld, Matches, Refines, ShowsLines, Reply, Call, shows_again, matching, kind_of_side, same_kinds, shows_handles, shows_count, same_count}
use Rattle.channel_steps.specs.solo.Alone as alone
use Rattle.channel_world_model.specs.Answer as model
use Rattle.channel_calls.specs.Model as plain
use Rattle.channel_world_runs.proofs.refinement.Departing.{departed, streams_are}
use Rattle.channel_world_runs.proofs.refinement.Ends.{leaves_now, left_state}
use Rattle.channel_world_runs.proofs.refinement.News.{shut_lines, nothing_lines, keys_news, closing_lines, closing_wakes}
use Rattle.channel_world_runs.proofs.refinement.Told.{told_left_as}

nobody_left : (own : WaitList) (l : Waiting) → untold own (after_news Closing l) ≡ []
nobody_left Sends l = refl
nobody_left own l = refl

module _ {T : Type 0} (held : KeysHeld) (c : Channel T Waiter) (s : State T) (h : Refines held c s) (awake : AwakeIn s) (handle : HandleId) where
  -- ---- the handle is gone and its count is lower

  abbrev fewer : Side → plain.ModelChannel T
  fewer side = model.with_strong_handles (kind_of_side side) (model.strong_handles (kind_of_side side) s.channel - 1) s.channel

  abbrev lowered : Side → State T
  lowered side = with_channel (fewer side) (dropped s handle)

  shows_lowered : (side : Side) → Refines held (lowers side c).channel (lowered side)
  shows_lowered side =
      shows_count held c (dropped s handle) side (count side c.wait_lists - 1) (model.strong_handles (kind_of_side side) s.channel - 1) (ap (λ (n : ℕ). n - 1) (same_count held c s side h))
      (shows_handles held c s (dropped s handle).names.handles h)

  awake_names : AwakeIn (dropped s handle)
  awake_names = subst (λ (kind : Kind). Awake kind s.channel.capacity s.channel.closed (length s.channel.messages) s.waiting) (sym (same_kinds s.names (dropped s handle).names.handles)) awake

  awake_lowered : (side : Side) → AwakeIn (lowered side)
  awake_lowered Senders = awake_names
  awake_lowered Receivers = awake_names

  -- ---- what the model says of it

  news_are : (side : Side) (last closed : Bool) → (model.strong_handles (kind_of_side side) s.channel == 1) ≡ last → s.channel.closed ≡ closed
      → news_without_one (kind_of_side side) s.channel ≡ (if last && not closed then Closing else Nothing)
  news_are side last closed e f =
      ap (λ (b : Bool). if b && not s.channel.closed then Closing else Nothing) e ∙ ap (λ (b : Bool). if last && not b then Closing else Nothing) f

  channel_is : (side : Side) (last : Bool) → (model.strong_handles (kind_of_side side) s.channel == 1) ≡ last → without_one (kind_of_side side) s.channel ≡ (if last then shut (fewer side) else fewer side)
  channel_is side last e = ap (λ (b : Bool). if b then shut (fewer side) else fewer side) e

  shut_already : (side : Side) → s.channel.closed ≡ true → shut (fewer side) ≡ fewer side
  shut_already Senders e = ap (λ (b : Bool). let x : plain.ModelChannel T = record (fewer Senders) { closed = b } in x) (sym e)
  shut_already Receivers e = ap (λ (b : Bool). let x : plain.ModelChannel T = record (fewer Receivers) { closed = b } in x) (sym e)

  -- news and the channel, where the drop closes nothing
  quiet : (side : Side) (last closed : Bool) → (model.strong_handles (kind_of_side side) s.channel == 1) ≡ last → s.channel.closed ≡ closed → (last && not closed) ≡ false
      → (news_without_one (kind_of_side side) s.channel ≡ Nothing) × (without_one (kind_of_side side) s.channel ≡ fewer side)
  quiet side true true e f g = (news_are side true true e f, channel_is side true e ∙ shut_already side f)
  quiet side true false e f g = cc g
  quiet side false closed e f g = (news_are side false closed e f, channel_is side false e)

  same_last : (side : Side) (last : Bool) → (count side c.wait_lists == 1) ≡ last → (model.strong_handles (kind_of_side side) s.channel == 1) ≡ last
  same_last side last e = ap (λ (n : ℕ). n == 1) (sym (same_count held c s side h)) ∙ e

  -- ---- a sender

  module _ (borrowers : ℕ) (there : at handle.0 s.names.handles ≡ Some (record { kind = Sender; borrowers = borrowers })) where
    sender_says : (news : News) (channel : plain.ModelChannel T) → news_without_one Sender s.channel ≡ news → without_one Sender s.channel ≡ channel
        → after_telling news (with_channel channel (dropped s handle)) Reply.Unit ≡ drop_answer s handle (at handle.0 s.names.handles)
    sender_says news channel e f =
        ap (λ (n : News). after_telling n (with_channel channel (dropped s handle)) Reply.Unit) (sym e)
        ∙ ap (λ (x : plain.ModelChannel T). after_telling (news_without_one Sender s.channel) (with_channel x (dropped s handle)) Reply.Unit) (sym f)
        ∙ ap (λ (o : Option Handle). drop_answer s handle o) (sym there)

    sender_leaves : (news_without_one Sender s.channel ≡ Nothing) × (without_one Sender s.channel ≡ fewer Senders) → Matches held s (Call.Drop handle) (ends [] (closer_ending (dropper Senders None) false) (lowers Senders c).channel)
    sender_leaves q =
        let g = shows_lowered Senders in
        matching held s (Call.Drop handle) None (ap (λ (o : Option Handle). stream_of handle o) there) (ends [] (closer_ending (dropper Senders None) false) (lowers Senders c).channel)
        (after_telling Nothing (lowered Senders) Reply.Unit) (inl (sender_says Nothing (fewer Senders) q.0 q.1)) refl refl
        (shows_again g _ held (after_telling Nothing (lowered Senders) Reply.Unit).after refl refl refl refl
        (nothing_lines (line_at (lowered Senders).names) held s.channel.closed (lowers Senders c).channel.wait_lists s.waiting g.lines)
        (keys_news (line_at (lowered Senders).names) held Nothing s.waiting g.keys))
        refl refl

    sender_closes : (last : (model.strong_handles Sender s.channel == 1) ≡ true) → s.channel.closed ≡ false
        → Matches held s (Call.Drop handle) (ends of_closing (closer_ending (dropper Senders None) true) (over_queue alone.with_closed (lowers Senders c).channel))
    sender_closes last open_yet =
        let g = shows_lowered Senders in
        let kind = line_at (lowered Senders).names in
        let d : Channel T Waiter = (lowers Senders c).channel in
        let woken = closing_wakes kind held s.channel.closed d.wait_lists s.waiting [] g.lines ∙ append-nil _ in
        matching held s (Call.Drop handle) None (ap (λ (o : Option Handle). stream_of handle o) there) (ends of_closing (closer_ending (dropper Senders None) true) (over_queue alone.with_closed d))
        (after_telling Closing (with_channel (shut (fewer Senders)) (dropped s handle)) Reply.Unit) (inl (sender_says Closing (shut (fewer Senders)) (news_are Senders true false last open_yet) (channel_is Senders true last))) refl woken
        (record {
          messages = g.messages;
          closed = refl;
          capacity = g.capacity;
          senders = g.senders;
          receivers = g.receivers;
          lines = closing_lines kind held d.wait_lists s.waiting (awake_lowered Senders).placed.lines (shut_lines kind held s.channel.closed d.wait_lists s.waiting g.lines);
          keys = keys_news kind held Closing s.waiting g.keys;
        })
        refl (ap (λ (ws : List Waiter). s.waiting.woken ++ ws) (sym woken))

    sender_drops : (last closed : Bool) → (count Senders c.wait_lists == 1) ≡ last → c.queue.closed ≡ closed
        → Matches held s (Call.Drop handle) (if last then (if closed then ends [] (closer_ending (dropper Senders None) false) (lowers Senders c).channel
        else ends of_closing (closer_ending (dropper Senders None) true) (over_queue alone.with_closed (lowers Senders c).channel))
        else ends [] (closer_ending (dropper Senders None) false) (lowers Senders c).channel)
    sender_drops true true e f = sender_leaves (quiet Senders true true (same_last Senders true e) (sym h.closed ∙ f) refl)
    sender_drops true false e f = sender_closes (same_last Senders true e) (sym h.closed ∙ f)
    sender_drops false closed e f = sender_leaves (quiet Senders false closed (same_last Senders false e) (sym h.closed ∙ f) refl)

    pub drop_sender : (o : Outcome T Waiter) → o ≡ drops Senders None c → Matches held s (Call.Drop handle) o
    drop_sender o e = subst (λ (x : Outcome T Waiter). Matches held s (Call.Drop handle) x) (sym e) (sender_drops (count Senders c.wait_lists == 1) c.queue.closed refl refl)

  -- ---- a receiver

  module _ (borrowers : ℕ) (there : at handle.0 s.names.handles ≡ Some (record { kind = Receiver; borrowers = borrowers })) where
    abbrev key : Option Key
    key = held (Stream handle)

    receiver_says : (news : News) (channel : plain.ModelChannel T) → news_without_one Receiver s.channel ≡ news → without_one Receiver s.channel ≡ channel
        → after_leaving news Streams (Stream handle) (with_channel channel (dropped s handle)) Reply.Unit ≡ drop_answer s handle (at handle.0 s.names.handles)
    receiver_says news channel e f =
        ap (λ (n : News). after_leaving n Streams (Stream handle) (with_channel channel (dropped s handle)) Reply.Unit) (sym e)
        ∙ ap (λ (x : plain.ModelChannel T). after_leaving (news_without_one Receiver s.channel) Streams (Stream handle) (with_channel x (dropped s handle)) Reply.Unit) (sym f)
        ∙ ap (λ (o : Option Handle). drop_answer s handle o) (sym there)

    receiver_leaves : (news_without_one Receiver s.channel ≡ Nothing) × (without_one Receiver s.channel ≡ fewer Receivers)
        → Matches held s (Call.Drop handle) (ends [] (closer_ending (dropper Receivers key) false) (lowers Receivers c).channel)
    receiver_leaves q =
        let d : Channel T Waiter = (lowers Receivers c).channel in
        let g = leaves_now held d (lowered Receivers) (shows_lowered Receivers) (awake_lowered Receivers) Streams (Stream handle) (inl refl) in
        let woken = append-nil _ ∙ g.wakes in
        matching held s (Call.Drop handle) (Some (Stream handle)) (ap (λ (o : Option Handle). stream_of handle o) there) (ends [] (closer_ending (dropper Receivers key) false) d)
        (after_leaving Nothing Streams (Stream handle) (lowered Receivers) Reply.Unit) (inl (receiver_says Nothing (fewer Receivers) q.0 q.1)) refl woken
        (left_state held d (lowered Receivers) (shows_lowered Receivers) (awake_lowered Receivers) Streams (Stream handle) Reply.Unit _ _ g)
        refl (told_left_as Nothing Streams (Stream handle) s.waiting _ woken)

    receiver_closes : (last : (model.strong_handles Receiver s.channel == 1) ≡ true) → s.channel.closed ≡ false
        → Matches held s (Call.Drop handle) (ends of_closing (closer_ending (dropper Receivers key) true) (over_queue alone.with_closed (lowers Receivers c).channel))
    receiver_closes last open_yet =
        let w : Waiter = Stream handle in
        let g = shows_lowered Receivers in
        let names = (lowered Receivers).names in
        let d : Channel T Waiter = (lowers Receivers c).channel in
        let told : Channel T Waiter = (tells_all WaitList.Closings (tells_all WaitList.Streams (tells_all WaitList.Receives (tells_all WaitList.Sends (over_queue alone.with_closed d)).channel).channel).channel).channel in
        let placed = (awake_lowered Receivers).placed in
        let lines : ShowsLines (line_at names) held true told.wait_lists (after_news Closing s.waiting) =
        closing_lines (line_at names) held d.wait_lists s.waiting placed.lines (shut_lines (line_at names) held s.channel.closed d.wait_lists s.waiting g.lines) in
        let left =
        departed (line_at names) held true (streams_are names) Streams w (inl refl) (after_news Closing s.waiting) (placed_news (line_at names) Closing s.waiting placed)
        (keys_news (line_at names) held Closing s.waiting g.keys) (λ f own. nobody_left own s.waiting) told lines key refl in
        let woken =
        closing_wakes (line_at names) held s.channel.closed d.wait_lists s.waiting ((leaves (held_on WaitList.Streams key) told).woken ++ []) g.lines
        ∙ ap (λ (ws : List Waiter). told_by Closing s.waiting ++ ws) (append-nil _ ∙ left.wakes) in
        matching held s (Call.Drop handle) (Some w) (ap (λ (o : Option Handle). stream_of handle o) there) (ends of_closing (closer_ending (dropper Receivers key) true) (over_queue alone.with_closed d))
        (after_leaving Closing Streams w (with_channel (shut (fewer Receivers)) (dropped s handle)) Reply.Unit)
        (inl (receiver_says Closing (shut (fewer Receivers)) (news_are Receivers true false last open_yet) (channel_is Receivers true last))) refl woken
        (record {
          messages = ap (λ (q : Queue T). q.items) left.queue ∙ g.messages;
          closed = ap (λ (q : Queue T). q.closed) left.queue;
          capacity = ap (λ (q : Queue T). q.capacity) left.queue ∙ g.capacity;
          senders = left.senders ∙ g.senders;
          receivers = left.receivers ∙ g.receivers;
          lines = left.lines;
          keys = left.keys;
        })
        refl (told_left_as Closing Streams w s.waiting _ woken)

    receiver_drops : (last closed : Bool) → (count Receivers c.wait_lists == 1) ≡ last → c.queue.closed ≡ closed
        → Matches held s (Call.Drop handle) (if last then (if closed then ends [] (closer_ending (dropper Receivers key) false) (lowers Receivers c).channel
        else ends of_closing (closer_ending (dropper Receivers key) true) (over_queue alone.with_closed (lowers Receivers c).channel))
        else ends [] (closer_ending (dropper Receivers key) false) (lowers Receivers c).channel)
    receiver_drops true true e f = receiver_leaves (quiet Receivers true true (same_last Receivers true e) (sym h.closed ∙ f) refl)
    receiver_drops true false e f = receiver_closes (same_last Receivers true e) (sym h.closed ∙ f)
    receiver_drops false closed e f = receiver_leaves (quiet Receivers false closed (same_last Receivers false e) (sym h.closed ∙ f) refl)

    pub drop_receiver : (o : Outcome T Waiter) → o ≡ drops Receivers (held (Stream handle)) c → Matches held s (Call.Drop handle) o
    drop_receiver o e = subst (λ (x : Outcome T Waiter). Matches held s (Call.Drop handle) x) (sym e) (receiver_drops (count Receivers c.wait_lists == 1) c.queue.closed refl refl)
