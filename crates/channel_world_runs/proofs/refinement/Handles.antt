-- Handles: what their names and their counts are to a channel that shows a state, which is nothing; and new handles.
use Rattle.std.specs.Prelude.{◌≡◌, ◌+◌, ◌-◌, ◌^◌, ◌==◌, ◌&&◌, ◌||◌, if◌then◌else◌}
use Rattle.channel_world_runs.proofs.Words.{ℕ, nat_lt, Bool, true, false, None, Some, refl, sym, ap, subst, ◌∙◌, append-nil, arith, nat_tests, Channel, on_count, raises, untouched, WaitLists, with_count, count, is_raised, most, nothing_kept, Reply, Side, Senders, Receivers, Outcome, answers, says_only, clones, upgrades, Answer, replying, made, spent, one_more, upgrade_to, Kind, line_at, Waiting, Names, Directory, with_handles, Answers, State, with_channel, with_names, Call, Handle, HandleId, HandleKind, Sender, Receiver, Waiter, Op, Stream, Sends, chosen_no, keeper, Matches, names_after, made_names, KeysHeld, Refines, ShowsLines, KeysFit, up}
use Rattle.channel_world_model.specs.Answer as model
use Rattle.channel_world_runs.proofs.refinement.Matching.{shows_again, matching}

-- the counts of handles are no matter to the lists
pub counted_lines : (kind : Kind) (held : KeysHeld) (closed : Bool) (side : Side) (n : ℕ) (a : WaitLists Waiter) (l : Waiting) → ShowsLines kind held closed a l → ShowsLines kind held closed (with_count side n a) l
counted_lines kind held closed Senders n a l h Sends = h Sends
counted_lines kind held closed Senders n a l h line = h line
counted_lines kind held closed side n a l h Sends = h Sends
counted_lines kind held closed side n a l h line = h line

-- the strong handles of a side
abbrev pub kind_of_side : Side → HandleKind
kind_of_side Senders = Sender
kind_of_side Receivers = Receiver

raised_now : (n : ℕ) → nat_lt most n ≡ false → ((n == n) && nat_lt n (2 ^ 64 - 1)) ≡ true
raised_now n e = grind (arith, nat_tests)

module _ {T : Type 0} where
  -- the handles are no matter to what kind of name each is
  pub same_kinds : (names : Names T) (handles : Directory Handle) → line_at (with_handles handles names) ≡ line_at names
  same_kinds names handles = λ i w. same w i where
    same : (w : Waiter) → line_at (with_handles handles names) w ≡ line_at names w
    same (Stream r) = refl
    same (Op op) = refl

  pub shows_handles : (held : KeysHeld) (c : Channel T Waiter) (s : State T) (handles : Directory Handle) → Refines held c s → Refines held c (with_names (with_handles handles s.names) s)
  shows_handles held c s handles h =
      shows_again h c held (with_names (with_handles handles s.names) s) refl refl refl refl
      (subst (λ (kind : Kind). ShowsLines kind held s.channel.closed c.wait_lists s.waiting) (sym (same_kinds s.names handles)) h.lines)
      (subst (λ (kind : Kind). KeysFit kind held s.waiting) (sym (same_kinds s.names handles)) h.keys)

  -- a count that changed
  pub shows_count : (held : KeysHeld) (c : Channel T Waiter) (s : State T) (side : Side) (n m : ℕ) → n ≡ m → Refines held c s
      → Refines held (record c { wait_lists = with_count side n c.wait_lists }) (with_channel (model.with_strong_handles (kind_of_side side) m s.channel) s)
  shows_count held c s Senders n m e h = record {
    messages = h.messages;
    closed = h.closed;
    capacity = h.capacity;
    senders = e;
    receivers = h.receivers;
    lines = counted_lines (line_at s.names) held s.channel.closed Senders n c.wait_lists s.waiting h.lines;
    keys = h.keys;
  }
  shows_count held c s Receivers n m e h = record {
    messages = h.messages;
    closed = h.closed;
    capacity = h.capacity;
    senders = h.senders;
    receivers = e;
    lines = counted_lines (line_at s.names) held s.channel.closed Receivers n c.wait_lists s.waiting h.lines;
    keys = h.keys;
  }

  pub same_count : (held : KeysHeld) (c : Channel T Waiter) (s : State T) (side : Side) → Refines held c s → count side c.wait_lists ≡ model.strong_handles (kind_of_side side) s.channel
  same_count held c s Senders h = h.senders
  same_count held c s Receivers h = h.receivers

-- ---- new handles

module _ {T : Type 0} (held : KeysHeld) (c : Channel T Waiter) (s : State T) (h : Refines held c s) (call : Call T) (nobody : keeper s call ≡ None) where
  -- a call over which nobody keeps a listener, which wakes nobody and changes the handles alone
  pub renames : (handles : Directory Handle) (r : Reply T) (o : Outcome T Waiter) → Answers s call (replying (with_names (with_handles handles s.names) s) r)
      → with_handles handles s.names ≡ names_after s call (says_only r c) → o ≡ says_only r c → Matches held s call o
  renames handles r o allowed names e =
      subst (λ (x : Outcome T Waiter). Matches held s call x) (sym e)
      (matching held s call None nobody (says_only r c) (replying (with_names (with_handles handles s.names) s) r) allowed refl refl (shows_handles held c s handles h) names
      (sym (append-nil s.waiting.woken)))

  module _ (new : HandleId) (side : Side) (renamed : (o : Outcome T Waiter) → names_after s call o ≡ made_names new (Some (kind_of_side side)) o.reply s.names) where
    counted : Answers s call (replying (with_channel (model.with_strong_handles (kind_of_side side) (model.strong_handles (kind_of_side side) s.channel + 1) s.channel) (made s new (kind_of_side side))) Reply.Made)
        → (d : Channel T Waiter) → d ≡ record c { wait_lists = with_count side (count side c.wait_lists + 1) c.wait_lists } → Matches held s call (answers Reply.Made nothing_kept d)
    counted allowed d e =
        let n : ℕ = model.strong_handles (kind_of_side side) s.channel + 1 in
        let t : State T = with_channel (model.with_strong_handles (kind_of_side side) n s.channel) (made s new (kind_of_side side)) in
        let one_more_each : count side c.wait_lists + 1 ≡ n = ap (λ (m : ℕ). m + 1) (same_count held c s side h) in
        let shows : Refines held d t =
        subst (λ (x : Channel T Waiter). Refines held x t) (sym e) (shows_count held c (made s new (kind_of_side side)) side (count side c.wait_lists + 1) n one_more_each (shows_handles held c s _ h)) in
        matching held s call None nobody (answers Reply.Made nothing_kept d) (replying t Reply.Made) allowed refl refl shows (sym (renamed (answers Reply.Made nothing_kept d)))
        (sym (append-nil s.waiting.woken))

    raises_are : nat_lt most (count side c.wait_lists) ≡ false → (raises side (count side c.wait_lists) c).channel ≡ record c { wait_lists = with_count side (count side c.wait_lists + 1) c.wait_lists }
    raises_are e = by_test (is_raised side (count side c.wait_lists) c.wait_lists) (raised_now (count side c.wait_lists) e) where
      by_test : (b : Bool) → b ≡ true → (if b then on_count side (count side c.wait_lists + 1) (up side) c else untouched c).channel ≡ record c { wait_lists = with_count side (count side c.wait_lists + 1) c.wait_lists }
      by_test true t = refl
      by_test false t = cc t

    -- the model's count is as great as the channel's
    as_great : (b : Bool) → nat_lt most (count side c.wait_lists) ≡ b → nat_lt (2 ^ 63 - 1) (model.strong_handles (kind_of_side side) s.channel) ≡ b
    as_great b e = ap (λ (n : ℕ). nat_lt most n) (sym (same_count held c s side h)) ∙ e

    cloned : (b : Bool) → nat_lt most (count side c.wait_lists) ≡ b → Answers s call (one_more s new (kind_of_side side))
        → Matches held s call (if b then answers Reply.TooMany nothing_kept c else answers Reply.Made nothing_kept (raises side (count side c.wait_lists) c).channel)
    cloned true e allowed =
        let too_many : one_more s new (kind_of_side side) ≡ replying (spent s new) Reply.TooMany = rw (as_great true e) refl in
        renames (spent s new).names.handles Reply.TooMany _ (subst (λ (a : Answer T). Answers s call a) too_many allowed) (sym (renamed (says_only Reply.TooMany c))) refl
    cloned false e allowed =
        let more : one_more s new (kind_of_side side) ≡ replying (with_channel (model.with_strong_handles (kind_of_side side) (model.strong_handles (kind_of_side side) s.channel + 1) s.channel) (made s new (kind_of_side side))) Reply.Made = rw (as_great false e) refl in
        counted (subst (λ (a : Answer T). Answers s call a) more allowed) _ (raises_are e)

    pub clones_so : (o : Outcome T Waiter) → o ≡ clones side c → Answers s call (one_more s new (kind_of_side side)) → Matches held s call o
    clones_so o e allowed = subst (λ (x : Outcome T Waiter). Matches held s call x) (sym e) (cloned (nat_lt most (count side c.wait_lists)) refl allowed)

    not_made : (s.channel.closed || (model.strong_handles (kind_of_side side) s.channel == 0)) ≡ true → Answers s call (upgrade_to s new (kind_of_side side)) → Matches held s call (answers Reply.NotMade nothing_kept c)
    not_made e allowed =
        let none : upgrade_to s new (kind_of_side side) ≡ replying (spent s new) Reply.NotMade = rw e refl in
        renames (spent s new).names.handles Reply.NotMade _ (subst (λ (a : Answer T). Answers s call a) none allowed) (sym (renamed (says_only Reply.NotMade c))) refl

    upgraded : (closed none : Bool) → c.queue.closed ≡ closed → (count side c.wait_lists == 0) ≡ none → Answers s call (upgrade_to s new (kind_of_side side))
        → Matches held s call (if closed then answers Reply.NotMade nothing_kept c else (if none then answers Reply.NotMade nothing_kept c else clones side c))
    upgraded true none e f allowed = not_made (ap (λ (b : Bool). b || (model.strong_handles (kind_of_side side) s.channel == 0)) (sym h.closed ∙ e)) allowed
    upgraded false true e f allowed =
        let zero : (model.strong_handles (kind_of_side side) s.channel == 0) ≡ true = ap (λ (n : ℕ). n == 0) (sym (same_count held c s side h)) ∙ f in
        not_made (ap (λ (b : Bool). b || (model.strong_handles (kind_of_side side) s.channel == 0)) (sym h.closed ∙ e) ∙ zero) allowed
    upgraded false false e f allowed =
        let some : (s.channel.closed || (model.strong_handles (kind_of_side side) s.channel == 0)) ≡ false =
        ap (λ (b : Bool). b || (model.strong_handles (kind_of_side side) s.channel == 0)) (sym h.closed ∙ e) ∙ (ap (λ (n : ℕ). n == 0) (sym (same_count held c s side h)) ∙ f) in
        let made_so : upgrade_to s new (kind_of_side side) ≡ one_more s new (kind_of_side side) = chosen_no _ _ _ some in
        clones_so _ refl (subst (λ (a : Answer T). Answers s call a) made_so allowed)

    pub upgrades_so : (o : Outcome T Waiter) → o ≡ upgrades side c → Answers s call (upgrade_to s new (kind_of_side side)) → Matches held s call o
    upgrades_so o e allowed = subst (λ (x : Outcome T Waiter). Matches held s call x) (sym e) (upgraded c.queue.closed (count side c.wait_lists == 0) refl refl allowed)
