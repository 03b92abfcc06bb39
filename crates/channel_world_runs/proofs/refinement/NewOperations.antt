-- A new operation stands nowhere and holds nothing; a finished send, too.
use Rattle.std.specs.Prelude.{◌≡◌}
use Rattle.channel_world_runs.proofs.Lemmas.{nat_eq, false, Option, None, Some, refl, sym, ap, subst, ◌∙◌, inl, append-nil, Channel, Outcome, says_only, replying, new_answer, poll_answer, AwakeIn, line_at, line_of_operation, same_waiter, Names, Operation, at, with_new_operation, Answers, State, Call, HandleId, OpId, Waiter, Op, Stream, same_symm, keeper, Matches, names_after, polled_names, KeysHeld, Refines, Poll, Reply, shows_again, matching, Nowhere, kindless_nowhere, nowhere_keyless, rekinded_lines, rekinded_keys}
use Rattle.channel_world_runs.proofs.refinement.Pending.{held_same}
use Rattle.channel_world_runs.proofs.refinement.Told.{told_away}

-- every name but the new one keeps its kind
new_kind : {T : Type 0} → (op : OpId) (x : Operation T) (names : Names T) (w : Waiter) → same_waiter (Op op) w ≡ false → line_at (with_new_operation op x names) w ≡ line_at names w
new_kind op x names (Stream r) off = refl
new_kind op x names (Op other) off = let apart : nat_eq other.0 op.0 ≡ false = same_symm (Op other) (Op op) ∙ off in rw apart refl

module _ {T : Type 0} (held : KeysHeld) (c : Channel T Waiter) (s : State T) (h : Refines held c s) (awake : AwakeIn s) (op : OpId) where
  -- one that belongs to no line
  kindless : line_at s.names (Op op) ≡ None → Nowhere (Op op) s.waiting
  kindless none = kindless_nowhere (line_at s.names) (Op op) s.waiting none awake.placed

  unheld : line_at s.names (Op op) ≡ None → held (Op op) ≡ None
  unheld none = nowhere_keyless (line_at s.names) held (Op op) s.waiting (kindless none) h.keys

  pub new_operation : (call : Call T) (x : Operation T) (o : Outcome T Waiter) → keeper s call ≡ None → at op.0 s.names.operations ≡ None → Answers s call (new_answer s op x)
      → with_new_operation op x s.names ≡ names_after s call (says_only Reply.Made c) → o ≡ says_only Reply.Made c → Matches held s call o
  new_operation call x o nobody free allowed names e =
      let none : line_at s.names (Op op) ≡ None = ap (λ (y : Option (Operation T)). line_of_operation y) free in
      subst (λ (y : Outcome T Waiter). Matches held s call y) (sym e)
      (matching held s call None nobody (says_only Reply.Made c) (new_answer s op x) allowed refl refl
      (shows_again h c held (new_answer s op x).after refl refl refl refl
      (rekinded_lines (line_at s.names) (line_at (with_new_operation op x s.names)) held s.channel.closed c.wait_lists s.waiting (Op op) (kindless none) (new_kind op x s.names) h.lines)
      (rekinded_keys (line_at s.names) (line_at (with_new_operation op x s.names)) held s.waiting (Op op) (unheld none) (new_kind op x s.names) h.keys))
      names (sym (append-nil s.waiting.woken)))

  -- a finished send stays pending, and is only answered
  pub poll_finished : (handle : HandleId) (o : Outcome T Waiter) → at op.0 s.names.operations ≡ Some (Operation.Send handle None) → o ≡ says_only (Reply.SendPoll Poll.Pending) c → Matches held s (Call.Poll op) o
  poll_finished handle o there e =
      let none : line_at s.names (Op op) ≡ None = ap (λ (y : Option (Operation T)). line_of_operation y) there in
      subst (λ (y : Outcome T Waiter). Matches held s (Call.Poll op) y) (sym e)
      (matching held s (Call.Poll op) (Some (Op op)) refl (says_only (Reply.SendPoll Poll.Pending) c) (replying s (Reply.SendPoll Poll.Pending))
      (inl (ap (λ (y : Option (Operation T)). poll_answer s op y) (sym there))) refl refl
      (subst (λ (g : KeysHeld). Refines g c s) (sym (held_same (Op op) None held (unheld none))) h)
      (ap (λ (y : Option (Operation T)). polled_names op y None s.names) (sym there)) (told_away (Op op) s.waiting.woken (kindless none).woken))
