-- Polls for the channel's closing.
use Rattle.std.specs.Prelude.{◌≡◌}
use Rattle.channel_world_runs.proofs.Lemmas.{true, false, Option, None, Some, Ok, refl, sym, ap, ◌∙◌, inl, inr, ListenError, Key, Channel, refused_reply, Outcome, WaitsOrGoesOn, PollsClosing, replying, after_leaving, pending, closed_poll_answer, poll_answer, AwakeIn, line_at, line_of_operation, is_among, untold, gone, Operation, at, not_polled, State, with_waiting, HandleId, OpId, Waiter, Op, Nothing, Closings, chosen_no, decided, Matches, polled_names, KeysHeld, Refines, Poll, Reply, WaitList, WaitingStep as Waiting, Call}
use Rattle.channel_world_runs.proofs.refinement.Ends.{ends_so}
use Rattle.channel_world_runs.proofs.refinement.Operations.{lack_of, not_standing_is, poll_waited}
use Rattle.channel_world_runs.proofs.refinement.Polling.{WaitsAs, where_true, where_false, wait_ends}

module _ {T : Type 0} (held : KeysHeld) (c : Channel T Waiter) (s : State T) (h : Refines held c s) (awake : AwakeIn s) (op : OpId) (handle : HandleId) (there : at op.0 s.names.operations ≡ Some (Operation.Closing handle)) where
  closing_kind : line_at s.names (Op op) ≡ Some Closings
  closing_kind = ap (λ (o : Option (Operation T)). line_of_operation o) there

  closing_waits : (key : Option Key) (o : Outcome T Waiter) → WaitsOrGoesOn Waiting.Closing key (Op op) c o
      → WaitsAs Closings (Reply.ClosedPoll Poll.Pending) (λ e. refused_reply WaitList.Closings e) None (Op op) key c o
  closing_waits None o x = x
  closing_waits (Some key) o x = x

  lacks_closing : s.channel.closed ≡ false → (error : ListenError) → is_among (Op op) (untold Closings s.waiting) ≡ false
      → not_polled (lack_of error) s op (Some (Operation.Closing handle)) ≡ Some (replying (with_waiting (gone (Op op) s.waiting) s) (refused_reply WaitList.Closings error))
  lacks_closing t ListenError.NoMemory u = chosen_no s.channel.closed _ _ t ∙ not_standing_is Closings (Op op) s (refused_reply WaitList.Closings ListenError.NoMemory) u
  lacks_closing t ListenError.SerialsUsedUp u = chosen_no s.channel.closed _ _ t ∙ not_standing_is Closings (Op op) s (refused_reply WaitList.Closings ListenError.SerialsUsedUp) u

  shut_answer : s.channel.closed ≡ true → closed_poll_answer s op ≡ after_leaving Nothing Closings (Op op) s (Reply.ClosedPoll (Poll.Ready (Ok tt)))
  shut_answer t = rw t refl

  open_answer : s.channel.closed ≡ false → closed_poll_answer s op ≡ pending Closings (Op op) s (Reply.ClosedPoll Poll.Pending)
  open_answer t = rw t refl

  pub poll_closing : (o : Outcome T Waiter) → PollsClosing (held (Op op)) (Op op) c o → Matches held s (Call.Poll op) o
  poll_closing o x = elim (decided c.queue.closed) [
    | inl t ↦
        ends_so held c s h awake (Call.Poll op) Closings (Op op) (Reply.ClosedPoll (Poll.Ready (Ok tt))) None o refl (inl closing_kind)
        (inl (sym (shut_answer (sym h.closed ∙ t)) ∙ ap (λ (y : Option (Operation T)). poll_answer s op y) (sym there)))
        (ap (λ (y : Option (Operation T)). polled_names op y None s.names) (sym there)) (where_true c.queue.closed _ _ t x)
    | inr t ↦
        poll_waited held c s h awake op (Operation.Closing handle) Closings (Reply.ClosedPoll Poll.Pending) (λ e. refused_reply WaitList.Closings e) None there
        (open_answer (sym h.closed ∙ t)) (lacks_closing (sym h.closed ∙ t)) refl o
        (wait_ends Closings (Reply.ClosedPoll Poll.Pending) (λ e. refused_reply WaitList.Closings e) None (Op op) held c s h awake closing_kind (held (Op op)) o refl
        (closing_waits (held (Op op)) o (where_false c.queue.closed _ _ t x)))
  ]
