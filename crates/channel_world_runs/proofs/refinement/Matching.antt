-- What makes an outcome match, once it is known who keeps the listener that the call leaves.
use Rattle.std.specs.Prelude.{◌≡◌, ◌++◌}
use Rattle.channel_world_runs.proofs.Words.{Channel, PlainChannel as ModelChannel, with_messages, line_at, KeysFit, ShowsLines, Refines, with_held, Queue, sym, ◌∙◌, ap, List, Option, subst, option_map_or, Outcome, Answer, without_waiter, Answers, State, Call, Waiter, Key, keeper, Matches, names_after, KeysHeld}

-- the keys held once this one is left to its keeper, and who is told of these then
abbrev pub held_by : Option Waiter → Option Key → KeysHeld → KeysHeld
held_by own key held = option_map_or (λ (w : Waiter). with_held w key held) own held

abbrev pub told_but : Option Waiter → List Waiter → List Waiter
told_but own told = option_map_or (λ (w : Waiter). without_waiter w told) own told

module _ {T : Type 0} (held : KeysHeld) (s : State T) (call : Call T) (own : Option Waiter) (keeps : keeper s call ≡ own) where
  pub matching : (o : Outcome T Waiter) (a : Answer T) → Answers s call a → o.reply ≡ a.reply → o.woken ≡ a.woken → Refines (held_by own o.kept.key held) o.channel a.after
      → a.after.names ≡ names_after s call o → a.after.waiting.woken ≡ told_but own (s.waiting.woken ++ o.woken) → Matches held s call o
  matching o a allowed reply woken shows names told = record {
    answer = a;
    allowed = allowed;
    reply = reply;
    woken = woken;
    shows = subst (λ (k : Option Waiter). Refines (held_by k o.kept.key held) o.channel a.after) (sym keeps) shows;
    names = names;
    told = told ∙ ap (λ (k : Option Waiter). told_but k (s.waiting.woken ++ o.woken)) (sym keeps);
  }

module _ {T : Type 0} {held : KeysHeld} {c : Channel T Waiter} {s : State T} (h : Refines held c s) where
  -- a channel with other messages, perhaps, and other listeners shows a state with these
  pub shows_moved : (d : Channel T Waiter) (other : KeysHeld) (t : State T) → t.channel ≡ with_messages s.channel t.channel.messages → d.queue.items ≡ t.channel.messages
      → d.queue.closed ≡ c.queue.closed → d.queue.capacity ≡ c.queue.capacity → d.wait_lists.senders ≡ c.wait_lists.senders → d.wait_lists.receivers ≡ c.wait_lists.receivers
      → ShowsLines (line_at t.names) other t.channel.closed d.wait_lists t.waiting → KeysFit (line_at t.names) other t.waiting → Refines other d t
  shows_moved d other t e items closed capacity senders receivers lines keys = record {
    messages = items;
    closed = closed ∙ h.closed ∙ ap (λ (p : ModelChannel T). p.closed) (sym e);
    capacity = capacity ∙ h.capacity ∙ ap (λ (p : ModelChannel T). p.capacity) (sym e);
    senders = senders ∙ h.senders ∙ ap (λ (p : ModelChannel T). p.senders) (sym e);
    receivers = receivers ∙ h.receivers ∙ ap (λ (p : ModelChannel T). p.receivers) (sym e);
    lines = lines;
    keys = keys;
  }

  -- with the same messages
  pub shows_again : (d : Channel T Waiter) (other : KeysHeld) (t : State T) → t.channel ≡ s.channel → d.queue ≡ c.queue → d.wait_lists.senders ≡ c.wait_lists.senders → d.wait_lists.receivers ≡ c.wait_lists.receivers
      → ShowsLines (line_at t.names) other t.channel.closed d.wait_lists t.waiting → KeysFit (line_at t.names) other t.waiting → Refines other d t
  shows_again d other t e same senders receivers lines keys =
      shows_moved d other t (e ∙ ap (λ (p : ModelChannel T). with_messages s.channel p.messages) (sym e)) (ap (λ (q : Queue T). q.items) same ∙ h.messages ∙ ap (λ (p : ModelChannel T). p.messages) (sym e))
      (ap (λ (q : Queue T). q.closed) same) (ap (λ (q : Queue T). q.capacity) same) senders receivers lines keys
