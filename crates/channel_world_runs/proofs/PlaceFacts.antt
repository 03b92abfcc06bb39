-- Messages that a call made alone brings in, and the positions that are left.
use Rattle.std.specs.Prelude.{◌≡◌, ◌+◌, ◌≤◌, if◌then◌else◌, ◌∷◌, ◌⊎◌}
use Rattle.channel_world_runs.proofs.Words.{arith, ℕ, Bool, true, false, List, [], length, slice_get, is_some, Option, None, Some, Ok, Err, inl, inr, refl, sym, ap, ◌∙◌, subst, option_map, option_map_or, Queue, is_filled, Key, Outcome, Alone, AsksListener, PollsSend, Where, over_queue, with_appended, replaced, answers, ends, of_message, WaitsOrGoesOn, ListensOrIsRefused, LoneRun, steps_by, over, Channel, tells_one, tells_all, registers, listeners, says, leaving, line_of, message_of, pending_reply, ChannelAsk, Reply, Ending, Sends, Receives, Streams, WaitingStep as Waiting, poll_asked, at, own_message, Call, OpId, Operation, Waiter, Op, Stream, EachStep, NextConfiguration, end_of, Configuration, brought, ChannelEntry as Entry, asks, brings, came_in, accepted_by, yet_in, held_of, names_of, OperationEntry, NameTable, Poll, Refused, TrySendError}
use Rattle.channel_calls.specs.Parts.{waits}
use Rattle.channel_world_runs.proofs.AskFacts.{of_refused, of_given_up, of_dropped, of_cloned, of_upgraded}
use Rattle.channel_world_runs.proofs.PositionFacts.{left_queue, step_brings, begin_brings}
use Rattle.channel_world_runs.proofs.RefusalLemmas as refusals

module _ {T : Type 0} where
  -- ---- a call that may bring none asks for none to be brought

  abbrev BringsNone : ChannelAsk T Waiter → Type 0
  BringsNone a = length (brought a) ≡ 0

  none_polled : (key : Option Key) (op : OpId) (x : Operation T) → is_some (own_message x) ≡ false → length (brought (poll_asked key op (Some x))) ≡ 0
  none_polled key op (Operation.Send h (Some m)) e = absurd (let no : true ≡ false = e in cc)
  none_polled key op x e = refl

  by_entry : (key : Option Key) (op : OpId) (o : Option (OperationEntry T))
      → option_map_or (λ (x : OperationEntry T). is_some (own_message x.operation)) o false ≡ false
      → length (brought (poll_asked key op (option_map (λ (x : OperationEntry T). x.operation) o))) ≡ 0
  by_entry key op None e = refl
  by_entry key op (Some x) e = none_polled key op x.operation e

  -- no call brings more than one
  pub brought_most : (a : ChannelAsk T Waiter) → length (brought a) ≤ 1
  brought_most (ChannelAsk.PollSend m key task) = omega arith
  brought_most a = omega arith

  pub no_message : (r : NameTable T) (c : Call T) → brings r c ≡ false → length (brought (asks r c)) ≡ 0
  no_message r (Call.TrySend sender m) e = absurd (let no : true ≡ false = e in cc)
  no_message r (Call.ForceSend sender m) e = absurd (let no : true ≡ false = e in cc)
  no_message r (Call.Poll op) e =
      ap (λ (o : Option (Operation T)). length (brought (poll_asked (held_of r (Op op)) op o))) (refusals.operation_at r op.0)
      ∙ by_entry (held_of r (Op op)) op (at op.0 r.operations) e
  no_message r (Call.PollRefused op) e = of_refused BringsNone refl (λ line m key. refl) (held_of r (Op op)) (at op.0 (names_of r).operations)
  no_message r (Call.GiveUp op) e = of_given_up BringsNone refl (λ line m key. refl) (held_of r (Op op)) (at op.0 (names_of r).operations)
  no_message r (Call.Drop handle) e = of_dropped BringsNone refl refl (λ key. refl) refl (held_of r (Stream handle)) (at handle.0 (names_of r).handles)
  no_message r (Call.TryClone handle new) e = of_cloned BringsNone refl (λ side. refl) (at handle.0 (names_of r).handles)
  no_message r (Call.Upgrade weak new) e = of_upgraded BringsNone refl (λ side. refl) (at weak.0 (names_of r).handles)
  no_message r c e = refl

  -- ---- what a call made alone brings in, its reply says

  abbrev Accepts : Channel T Waiter → Outcome T Waiter → Type 0
  Accepts c o = o.channel.queue.accepted ≤ c.queue.accepted + came_in o.reply

  -- with no message
  kept_out : (x : Ending T) (c : Channel T Waiter) (o : Outcome T Waiter) → o ≡ ends [] x c → Accepts c o
  kept_out x c o e =
      subst (λ (y : Outcome T Waiter). Accepts c y) (sym e)
      (let same : (ends [] x c).channel.queue.accepted ≡ c.queue.accepted = ap (λ (q : Queue T). q.accepted) (left_queue x.held c) in omega (arith, same))

  -- with one
  let_in : (x : Ending T) (c d : Channel T Waiter) (o : Outcome T Waiter) → o ≡ ends of_message x d
      → d.queue.accepted ≡ c.queue.accepted + 1 → came_in x.reply ≡ 1 → Accepts c o
  let_in x c d o e more one =
      subst (λ (y : Outcome T Waiter). Accepts c y) (sym e)
      (let there : Channel T Waiter = (tells_all Streams (tells_one Receives d).channel).channel in
      let same : (ends of_message x d).channel.queue.accepted ≡ d.queue.accepted = ap (λ (q : Queue T). q.accepted) (left_queue x.held there) in
      omega (arith, same, more, one))

  sends_by : (b f : Bool) (m : T) (c : Channel T Waiter) (o : Outcome T Waiter)
      → o ≡ (if b then ends [] (says (Reply.TrySend (Err (Refused.Plain (TrySendError.Closed m))))) c
      else (if f then ends [] (says (Reply.TrySend (Err (Refused.Plain (TrySendError.Full m))))) c
      else ends of_message (says (Reply.TrySend (Ok tt))) (over_queue (with_appended m) c)))
      → Accepts c o
  sends_by true f m c o e = kept_out (says (Reply.TrySend (Err (Refused.Plain (TrySendError.Closed m))))) c o e
  sends_by false true m c o e = kept_out (says (Reply.TrySend (Err (Refused.Plain (TrySendError.Full m))))) c o e
  sends_by false false m c o e = let_in (says (Reply.TrySend (Ok tt))) c (over_queue (with_appended m) c) o e refl refl

  forces_by : (b f : Bool) (m : T) (c : Channel T Waiter) (o : Outcome T Waiter)
      → o ≡ (if b then ends [] (says (Reply.ForceSend (Err (Refused.Plain (record { 0 = m }))))) c
      else (if f then ends of_message (says (Reply.ForceSend (Ok (slice_get c.queue.items 0)))) (over_queue (replaced m) c)
      else ends of_message (says (Reply.ForceSend (Ok None))) (over_queue (with_appended m) c)))
      → Accepts c o
  forces_by true f m c o e = kept_out (says (Reply.ForceSend (Err (Refused.Plain (record { 0 = m }))))) c o e
  forces_by false true m c o e = let_in (says (Reply.ForceSend (Ok (slice_get c.queue.items 0)))) c (over_queue (replaced m) c) o e refl refl
  forces_by false false m c o e = let_in (says (Reply.ForceSend (Ok None))) c (over_queue (with_appended m) c) o e refl refl

  -- a poll that waits brings none
  listens_out : (w : Waiting T) (task : Waiter) (c : Channel T Waiter) (o : Outcome T Waiter) → ListensOrIsRefused w task c o → Accepts c o
  listens_out w task c o (inl h) = subst (λ (y : Outcome T Waiter). Accepts c y) (sym h.2) (omega arith)
  listens_out w task c o (inr h) = subst (λ (y : Outcome T Waiter). Accepts c y) (sym h.1) (omega arith)

  registers_out : (b : Bool) (w : Waiting T) (key : Key) (task : Waiter) (c : Channel T Waiter) (o : Outcome T Waiter)
      → Where b (o ≡ answers (pending_reply (line_of w)) (leaving (Some key) (message_of w)) (registers (line_of w) key task c).channel)
      (ListensOrIsRefused w task (registers (line_of w) key task c).channel o) → Accepts c o
  registers_out true w key task c o e = subst (λ (y : Outcome T Waiter). Accepts c y) (sym e) (omega arith)
  registers_out false w key task c o h = listens_out w task (registers (line_of w) key task c).channel o h

  waits_out : (w : Waiting T) (key : Option Key) (task : Waiter) (c : Channel T Waiter) (o : Outcome T Waiter) → WaitsOrGoesOn w key task c o
      → Accepts c o
  waits_out w None task c o h = listens_out w task c o h
  waits_out w (Some key) task c o h = registers_out (waits key (listeners (line_of w) c.wait_lists)) w key task c o h

  polls_by : (b f : Bool) (m : T) (key : Option Key) (task : Waiter) (c : Channel T Waiter) (o : Outcome T Waiter)
      → Where b (o ≡ ends [] (over (Reply.SendPoll (Poll.Ready (Err (Refused.Plain (record { 0 = m }))))) None Sends key) c)
      (Where f (WaitsOrGoesOn (Waiting.Send m) key task c o)
      (o ≡ ends of_message (over (Reply.SendPoll (Poll.Ready (Ok tt))) None Sends key) (over_queue (with_appended m) c)))
      → Accepts c o
  polls_by true f m key task c o e =
      kept_out (over (Reply.SendPoll (Poll.Ready (Err (Refused.Plain (record { 0 = m }))))) None Sends key) c o e
  polls_by false true m key task c o h = waits_out (Waiting.Send m) key task c o h
  polls_by false false m key task c o e = let_in (over (Reply.SendPoll (Poll.Ready (Ok tt))) None Sends key) c (over_queue (with_appended m) c) o e refl refl

  tries_out : (m : T) (key : Option Key) (task : Waiter) (c : Channel T Waiter) (o : Outcome T Waiter) → PollsSend m key task c o → Accepts c o
  tries_out m key task c o (inl h) = kept_out (over (Reply.SendPoll (Poll.Ready (Err (Refused.NoMemory tt)))) (Some m) Sends key) c o h.2
  tries_out m key task c o (inr h) = polls_by c.queue.closed (is_filled c.queue) m key task c o h

  asks_out : (b : Bool) (m : T) (key : Key) (task : Waiter) (c : Channel T Waiter) (o : Outcome T Waiter)
      → Where b (o ≡ answers (pending_reply Sends) (leaving (Some key) (Some m)) (registers Sends key task c).channel)
      (PollsSend m None task (registers Sends key task c).channel o) → Accepts c o
  asks_out true m key task c o e = subst (λ (y : Outcome T Waiter). Accepts c y) (sym e) (omega arith)
  asks_out false m key task c o h = tries_out m None task (registers Sends key task c).channel o h

  poll_out : (b : Bool) (m : T) (key : Option Key) (task : Waiter) (c : Channel T Waiter) (o : Outcome T Waiter)
      → Where b (AsksListener (Waiting.Send m) key task c o (λ (d : Channel T Waiter). PollsSend m None task d o)) (PollsSend m key task c o) → Accepts c o
  poll_out false m key task c o h = tries_out m key task c o h
  poll_out true m None task c o h = tries_out m None task c o h
  poll_out true m (Some key) task c o h = asks_out (waits key (listeners Sends c.wait_lists)) m key task c o h

  alone_accepts : (a : ChannelAsk T Waiter) (c : Channel T Waiter) (o : Outcome T Waiter) → Alone a c o
      → (length (brought a) ≡ 0) ⊎ Accepts c o
  alone_accepts (ChannelAsk.TrySend m) c o (inl h) = inr (kept_out (says (Reply.TrySend (Err (Refused.NoMemory m)))) c o h.2)
  alone_accepts (ChannelAsk.TrySend m) c o (inr h) = inr (sends_by c.queue.closed (is_filled c.queue) m c o h)
  alone_accepts (ChannelAsk.ForceSend m) c o (inl h) = inr (kept_out (says (Reply.ForceSend (Err (Refused.NoMemory m)))) c o h.2)
  alone_accepts (ChannelAsk.ForceSend m) c o (inr h) = inr (forces_by c.queue.closed (is_filled c.queue) m c o h)
  alone_accepts (ChannelAsk.PollSend m l task) c o h = inr (poll_out l.asks_first m l.key task c o h)
  alone_accepts a c o h = inl refl

  -- ---- its steps bring in no more than it has

  abbrev all_in : Configuration T Waiter → ℕ
  all_in s = s.now.queue.accepted + yet_in s.under_way

  steps_bring : (s : Configuration T Waiter) (p : ℕ) (es : List (Entry T)) (ns : List (Configuration T Waiter)) → EachStep NextConfiguration s (steps_by p es) es ns
      → all_in (end_of s ns) ≤ all_in s
  steps_bring s p [] [] h = omega arith
  steps_bring s p (e ∷ es) (n ∷ ns) h =
      let b = step_brings s p e h.0.0 n h.0.1 in
      let one = b.accepted in
      let fewer = b.fewer in
      let rest = steps_bring n p es ns h.1 in
      omega (arith, one, fewer, rest)
  steps_bring s p es ns h = absurd h

  lone_brings : (s : Configuration T Waiter) (p : ℕ) (a : ChannelAsk T Waiter) (o : Outcome T Waiter) (t : Configuration T Waiter) → LoneRun s p a o t
      → all_in t ≤ all_in s + length (brought a)
  lone_brings s p a o t run =
      let same = ap (λ (c : Channel T Waiter). c.queue.accepted) run.begins.now in
      let more = begin_brings s p a _ run.begun run.begins in
      let goes = steps_bring run.begun p run.entries run.run.moments run.run.each in
      let end = ap all_in run.run.ends in
      omega (arith, same, more, goes, end)

  pub came_most : (x : Reply T) → came_in x ≤ 1
  came_most (Reply.TrySend (Ok u)) = omega arith
  came_most (Reply.ForceSend (Ok d)) = omega arith
  came_most (Reply.SendPoll (Poll.Ready (Ok u))) = omega arith
  came_most x = omega arith

  -- ---- the count of the accepted

  -- what was counted before and what the reply says is no less than what was accepted, and no more than before where the call
  -- brings none
  pub record Counted (n : ℕ) (b : Bool) (x : Reply T) (t : Configuration T Waiter) : Type 0 where
    pub accepted : t.now.queue.accepted ≤ n + accepted_by b x
    pub most : accepted_by b x ≤ 1
    pub none : b ≡ false → accepted_by b x ≡ 0

  pub counted_alone : (r : NameTable T) (c : Call T) (n : ℕ) (s t : Configuration T Waiter) (o : Outcome T Waiter) (p : ℕ)
      → LoneRun s p (asks r c) o t → Alone (asks r c) s.now o → t.now ≡ o.channel → s.under_way ≡ [] → s.now.queue.accepted ≤ n
      → Counted n (brings r c) o.reply t
  counted_alone r c n s t o p run alone now quiet low = by (brings r c) refl (alone_accepts (asks r c) s.now o alone) where
    all : all_in t ≤ all_in s + length (brought (asks r c))
    all = lone_brings s p (asks r c) o t run

    none_yet : yet_in s.under_way ≡ 0
    none_yet = ap yet_in quiet

    there : t.now.queue.accepted ≡ o.channel.queue.accepted
    there = ap (λ (d : Channel T Waiter). d.queue.accepted) now

    by : (b : Bool) → brings r c ≡ b → (length (brought (asks r c)) ≡ 0) ⊎ Accepts s.now o → Counted n b o.reply t
    by true e (inl none) = record { accepted = omega (arith, all, none_yet, none, low); most = came_most o.reply; none = λ f. absurd (let no : true ≡ false = f in cc) }
    by true e (inr in_it) = record { accepted = omega (arith, there, in_it, low); most = came_most o.reply; none = λ f. absurd (let no : true ≡ false = f in cc) }
    by false e h = let none = no_message r c e in record { accepted = omega (arith, all, none_yet, none, low); most = omega arith; none = λ f. refl }
