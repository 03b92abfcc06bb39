-- What a step does to the plain channel.
use Rattle.std.proofs.Common.{arith, ◌≡◌, ℕ, ◌+◌, ◌-◌, ◌^◌, ◌==◌, ◌&&◌, nat_lt, Bool, true, false, if◌then◌else◌, take, drop, List, [], ◌∷◌, ◌++◌, None, Some, Option, inl, inr, refl, sym, ap, ◌∙◌, subst, append-nil, append_assoc}
use Rattle.std.proofs.lemmas.Bool.Decides.{nat_tests}
use Rattle.channel_steps.proofs.every_run.Words.{Phase, message, QueueMark, listened, registration, removed, removed_wakes, up, Effect, queued, untouched, on_line, tells_one, tells_all, leaves, lowers, Worked, Moves, Listeners, listeners, count, is_raised, told_one, told_one_wakes, told_more, told_more_wakes, told_all, told_all_wakes, line_of, ChannelAsk, Mark, Append, Take, TakeDisplaced, Replace, Reply, ListenerRef, WaitList, Sends, Receives, Streams, Side, Senders, Receivers, Stage, Trying, Working, Finished, Waiting, ListStep, TellReceive, TellStreams, TellSend, TellSends, TellAll, Insert, Register, Leave, Lower, Raise, Configuration, Steps, brought, gone_by, came_by, Entry, Inserts, ModelChannel, plain, brought_by, AddUp}
use Rattle.concurrent_queue.specs.declared.call.QueueMark.TheVariants as queue
use Rattle.channel_calls.specs.Moves as moves
use Rattle.channel_calls.specs.declared.mark.Mark.TheVariants.{Nothing}
use Rattle.channel_steps.specs.every_run.Marked.{marked}

-- ---- the effect of a step

module _ {T W : Type 0} where
  -- with some message
  abbrev Does : moves.Channel T W → Effect T W → Type 0
  Does c e = (came : List T) × (plain e.channel ≡ marked e.mark came (plain c))

  as_it : (c : moves.Channel T W) (e e' : Effect T W) → e ≡ e' → Does c e' → Does c e
  as_it c e e' same h = subst (λ (x : Effect T W). Does c x) (sym same) h

  by_queue : (f : Phase T) (m : QueueMark) (c : moves.Channel T W) → Does c (queued f m c)
  by_queue f queue.Append c = (message f.ask, refl)
  by_queue f queue.Replace c = (message f.ask, refl)
  by_queue f w c = ([], refl)

  by_line : (line : WaitList) (l : Listeners W) (names : List W) (c : moves.Channel T W) → Does c (on_line line l names c)
  by_line Sends l names c = ([], refl)
  by_line line l names c = ([], refl)

  by_one : (line : WaitList) (c : moves.Channel T W) → Does c (tells_one line c)
  by_one line c = by_line line (told_one (listeners line c.wait_lists)) (told_one_wakes (listeners line c.wait_lists)) c

  by_all : (line : WaitList) (c : moves.Channel T W) → Does c (tells_all line c)
  by_all line c = by_line line (told_all (listeners line c.wait_lists)) (told_all_wakes (listeners line c.wait_lists)) c

  by_none : (c : moves.Channel T W) → Does c (untouched c)
  by_none c = ([], refl)

  by_leaving : (o : Option ListenerRef) (c : moves.Channel T W) → Does c (leaves o c)
  by_leaving None c = by_none c
  by_leaving (Some h) c =
      by_line h.line (removed h.key true (listeners h.line c.wait_lists)) (removed_wakes h.key true (listeners h.line c.wait_lists)) c

  by_lowering : (s : Side) (c : moves.Channel T W) → Does c (lowers s c)
  by_lowering Senders c = ([], refl)
  by_lowering Receivers c = ([], refl)

  was_read : (s : Side) (n : ℕ) (c : moves.Channel T W) → is_raised s n c.wait_lists ≡ true → n ≡ count s c.wait_lists
  was_read s n c h = by (count s c.wait_lists == n) refl h where
    by : (b : Bool) → (count s c.wait_lists == n) ≡ b → (b && nat_lt n (2 ^ 64 - 1)) ≡ true → n ≡ count s c.wait_lists
    by true e g = sym (let same : count s c.wait_lists ≡ n = grind (arith, nat_tests, e) in same)
    by false e g = absurd (let no : false ≡ true = g in cc)

  by_raising : (s : Side) (n : ℕ) (c : moves.Channel T W) → n ≡ count s c.wait_lists → Does c (moves.on_count s (n + 1) (up s) c)
  by_raising Senders n c e = ([], ap (λ (k : ℕ). record (plain c) { senders = k + 1 }) e)
  by_raising Receivers n c e = ([], ap (λ (k : ℕ). record (plain c) { receivers = k + 1 }) e)

  raised_or : (s : Side) (n : ℕ) (c : moves.Channel T W) (b : Bool) → is_raised s n c.wait_lists ≡ b
      → Does c (if b then moves.on_count s (n + 1) (up s) c else untouched c)
  raised_or s n c true e = by_raising s n c (was_read s n c e)
  raised_or s n c false e = by_none c

  by_inserting : (c : moves.Channel T W) (w : Waiting T) (task : W) (e : Effect T W) (r : Option (Reply T)) (s : Stage (Phase T) T W)
      → Inserts w task c e r s → Does c e
  by_inserting c w task e r s (inl (key, new, same, t)) = as_it c e _ same (by_line (line_of w) (listened key (listeners (line_of w) c.wait_lists)) [] c)
  by_inserting c w task e r s (inr (error, same, t)) = as_it c e _ same (by_none c)

  by_work : (c : moves.Channel T W) (w : ListStep T W) (e : Effect T W) (r : Option (Reply T)) (s : Stage (Phase T) T W) → Worked c w e r s → Does c e
  by_work c (TellReceive x) e r s h = as_it c e _ h.0 (by_one Receives c)
  by_work c (TellStreams x) e r s h = as_it c e _ h.0 (by_all Streams c)
  by_work c (TellSend x) e r s h = as_it c e _ h.0 (by_one Sends c)
  by_work c (TellSends n x) e r s h = as_it c e _ h.0 (by_line Sends (told_more n (listeners Sends c.wait_lists)) (told_more_wakes n (listeners Sends c.wait_lists)) c)
  by_work c (TellAll line closer) e r s h = as_it c e _ h.0 (by_all line c)
  by_work c (Insert w task) e r s h = by_inserting c w task e r s h
  by_work c (Register w key task) e r s h = as_it c e _ h.0 (by_line (line_of w) (registration key task (listeners (line_of w) c.wait_lists)) [] c)
  by_work c (Leave x) e r s h = as_it c e _ h.0 (by_leaving x.held c)
  by_work c (Lower side key) e r s h = as_it c e _ h.0 (by_lowering side c)
  by_work c (Raise side n making) e r s h = as_it c e _ h.0 (raised_or side n c (is_raised side n c.wait_lists) refl)
  by_work c w e r s h = as_it c e _ h.0 (by_none c)

  by_stage : (c : moves.Channel T W) (at : Stage (Phase T) T W) (e : Effect T W) (r : Option (Reply T)) (s : Stage (Phase T) T W)
      → Moves c at e r s → Does c e
  by_stage c (Trying f purpose) e r s h = as_it c e _ h.effect (by_queue f h.mark c)
  by_stage c (Working w) e r s h = by_work c w e r s h
  by_stage c (Finished kept) e r s h = as_it c e _ h.0 (by_none c)

-- ---- the messages

module _ {T : Type 0} where
  -- the message of the call says what else the message says, but which messages there are
  other_message : (m : Mark) (a b : List T) (c : ModelChannel T) → marked m b c ≡ record (marked m a c) { messages = (marked m b c).messages }
  other_message Nothing a b c = refl
  other_message m a b c = refl

  without_first : (xs ys zs : List T) → take 1 xs ++ ys ≡ xs ++ zs → ys ≡ drop 1 xs ++ zs
  without_first [] ys zs e = e
  without_first (x ∷ xs) ys zs e = cc e

  left_is : (xs ys : List T) → take 1 xs ++ ys ≡ xs ++ [] → ys ≡ drop 1 xs
  left_is xs ys e = without_first xs ys [] e ∙ append-nil (drop 1 xs)

module _ {T W : Type 0} where
  messages_are : (m : Mark) (a : ChannelAsk T W) (c : ModelChannel T) (ys : List T)
      → gone_by m c.messages ++ ys ≡ c.messages ++ came_by m a → ys ≡ (marked m (brought a) c).messages
  messages_are Append a c ys e = e
  messages_are Take a c ys e = left_is c.messages ys e
  messages_are TakeDisplaced a c ys e = left_is c.messages ys e
  messages_are Replace a c ys e = without_first c.messages ys (brought a) e
  messages_are w a c ys e = e ∙ append-nil c.messages

  -- a step does to the plain channel what its mark says
  pub step_marked : (s : Configuration T W) (p : ℕ) (e : Entry T) (names : List W) (t : Configuration T W) (st : Steps s p e names t)
      → plain t.now ≡ marked e.mark (brought st.mine.ask) (plain s.now)
  step_marked s p e names t st =
      let x : Effect T W = record { channel = t.now; mark = e.mark; woken = names } in
      let d = by_stage s.now st.mine.at x e.reply st.at_now st.moves in
      let are = messages_are e.mark st.mine.ask (plain s.now) t.now.queue.items st.held in
      ap (λ (c : ModelChannel T). record c { messages = t.now.queue.items }) d.1
      ∙ (ap (λ (ms : List T). record (marked e.mark d.0 (plain s.now)) { messages = ms }) are
      ∙ sym (other_message e.mark d.0 (brought st.mine.ask) (plain s.now)))

  -- what comes in is what the call brings, by its mark
  pub came_is : (m : Mark) (a : ChannelAsk T W) → came_by m a ≡ brought_by m (brought a)
  came_is Nothing a = refl
  came_is m a = refl

  -- ---- accounts

  pub none_adds : (s : Configuration T W) → AddUp s [] [] s
  none_adds s = record { held = sym (append-nil s.now.queue.items); gone = sym (append-nil s.gone); came = sym (append-nil s.came) }

  pub both_add : (s m t : Configuration T W) (out into more_out more_into : List T) → AddUp s out into m → AddUp m more_out more_into t
      → AddUp s (out ++ more_out) (into ++ more_into) t
  both_add s m t out into more_out more_into h k = record {
    held = append_assoc out more_out t.now.queue.items
        ∙ (ap (λ (vs : List T). out ++ vs) k.held
        ∙ (sym (append_assoc out m.now.queue.items more_into)
        ∙ (ap (λ (vs : List T). vs ++ more_into) h.held ∙ append_assoc s.now.queue.items into more_into)));
    gone = k.gone ∙ (ap (λ (vs : List T). vs ++ more_out) h.gone ∙ append_assoc s.gone out more_out);
    came = k.came ∙ (ap (λ (vs : List T). vs ++ more_into) h.came ∙ append_assoc s.came into more_into);
  }
