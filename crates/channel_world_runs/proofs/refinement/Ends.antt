-- A call that ends with nothing told: its operation or stream drops its listener, and passes on what it was told.
use Rattle.std.specs.Prelude.{◌≡◌, ◌⊎◌}
use Rattle.channel_world_runs.proofs.Lemmas.{List, [], Option, None, Some, refl, sym, subst, ◌∙◌, append-nil, Channel, leaves, held_on, over, Reply, WaitList, Outcome, ends, after_leaving, AwakeIn, line_at, after_news, Answers, State, Call, Waiter, Nothing, placed_news, empty_news, keeper, Matches, names_after, KeysHeld, with_held, Refines, list_of, shows_again, matching}
use Rattle.channel_world_runs.proofs.refinement.Departing.{Departed, departed, streams_are}
use Rattle.channel_world_runs.proofs.refinement.News.{nothing_lines, keys_news}
use Rattle.channel_world_runs.proofs.refinement.Told.{told_left_as}

module _ {T : Type 0} (held : KeysHeld) (c : Channel T Waiter) (s : State T) (h : Refines held c s) (awake : AwakeIn s) where
  -- nothing is told, and w leaves
  pub leaves_now : (line : WaitList) (w : Waiter) → (line_at s.names w ≡ Some line) ⊎ (line_at s.names w ≡ None)
      → Departed (line_at s.names) held s.channel.closed line w (after_news Nothing s.waiting) c (leaves (held_on (list_of line) (held w)) c).channel (leaves (held_on (list_of line) (held w)) c).woken
  leaves_now line w k =
      departed (line_at s.names) held s.channel.closed (streams_are s.names) line w k (after_news Nothing s.waiting) (placed_news (line_at s.names) Nothing s.waiting awake.placed)
      (keys_news (line_at s.names) held Nothing s.waiting h.keys) (λ e own. empty_news Nothing own s.waiting (awake.opened e own)) c
      (nothing_lines (line_at s.names) held s.channel.closed c.wait_lists s.waiting h.lines) (held w) refl

  -- the state after it, where no name changed
  pub left_state : (line : WaitList) (w : Waiter) (r : Reply T) (d : Channel T Waiter) (names : List Waiter)
      → Departed (line_at s.names) held s.channel.closed line w (after_news Nothing s.waiting) c d names → Refines (with_held w None held) d (after_leaving Nothing line w s r).after
  left_state line w r d names g = shows_again h d (with_held w None held) (after_leaving Nothing line w s r).after refl g.queue g.senders g.receivers g.lines g.keys

  -- a call of w's that ends so with this answer, and keeps this message
  pub ends_so : (call : Call T) (line : WaitList) (w : Waiter) (r : Reply T) (m : Option T) (o : Outcome T Waiter) → keeper s call ≡ Some w
      → (line_at s.names w ≡ Some line) ⊎ (line_at s.names w ≡ None) → Answers s call (after_leaving Nothing line w s r)
      → s.names ≡ names_after s call (ends [] (over r m (list_of line) (held w)) c) → o ≡ ends [] (over r m (list_of line) (held w)) c → Matches held s call o
  ends_so call line w r m o own k allowed names e =
      let g = leaves_now line w k in
      let woken = append-nil _ ∙ g.wakes in
      subst (λ (x : Outcome T Waiter). Matches held s call x) (sym e)
      (matching held s call (Some w) own (ends [] (over r m (list_of line) (held w)) c) (after_leaving Nothing line w s r) allowed refl woken (left_state line w r _ _ g) names
      (told_left_as Nothing line w s.waiting _ woken))
