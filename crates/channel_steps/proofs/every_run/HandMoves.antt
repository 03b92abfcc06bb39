-- A poll that has a listener in hand keeps it, leaves the list, or finds cause to wait.
use Rattle.std.proofs.Common.{◌≡◌, true, List, [], Option, None, Some, Ok, Err, ◌⊎◌, ⊎_elim, inl, inr, refl, sym, ap, ◌∙◌, subst}
use Rattle.channel_steps.proofs.every_run.Words.{Queue, Phase, trying, appended, taken, is_filled, AnswersPush, AnswersPop, AnswersTo, QueueAsk, QueueMark, Nothing, QueueReply, Key, polled_next, Channel, Effect, queued, Turned, Moves, ChannelAsk, Reply, WaitList, Sends, Receives, Stage, Trying, Working, NextStep, Works, TellReceive, TellStreams, TellSend, Leave, TriesFor, StageAt, MarkedMoment, HoldsListener, LooksAgain, IsOneByOne, Waits, WaitApart}
use Rattle.concurrent_queue.specs.Queue as queue
use Rattle.concurrent_queue.specs.declared.call.QueueReply.TheVariants as answer
use Rattle.concurrent_queue.specs.declared.error.PopError.TheVariants as pop_error
use Rattle.concurrent_queue.specs.declared.error.PushError.TheVariants as push_error
use Rattle.channel_calls.specs.declared.stage.Purpose.TheVariants as purpose
use Rattle.channel_steps.proofs.every_run.AskFacts.{How, poll_asks, held_by, leaves_next, has_left}
use Rattle.channel_steps.proofs.every_run.ListMoves.{Tries}

module _ {T : Type 0} where
  -- what a refusal found: no messages, or no free place
  abbrev pub HasCause : WaitList → Queue T → Type 0
  HasCause Sends q = is_filled q ≡ true
  HasCause Receives q = q.items ≡ []
  HasCause line q = ⊥

module _ {T W : Type 0} where
  -- ---- in whose hand it is

  -- a poll that looks again has its listener in hand
  pub looks_holds : (line : WaitList) (key : Key) (at : Stage (Phase T) T W) → LooksAgain line key at → HoldsListener line key at
  looks_holds line key (Trying f (purpose.Poll at (Some k) task)) h = (h.0, h.1)
  looks_holds line key (Working (TellSend x)) h = h
  looks_holds line key (Working (Leave x)) h = h
  looks_holds line key at h = absurd h

  -- the call goes on with it in hand
  abbrev pub StillHolds : WaitList → Key → Option (Reply T) → Stage (Phase T) T W → Type 0
  StillHolds line key r s = (r ≡ None) × HoldsListener line key s

  holds_at : (line : WaitList) (key : Key) (at : Stage (Phase T) T W) (r : Option (Reply T)) (s : Stage (Phase T) T W) → HoldsListener line key at → (r ≡ None) × (s ≡ at) → StillHolds line key r s
  holds_at line key at r s h t = (t.0, subst (λ (z : Stage (Phase T) T W). HoldsListener line key z) (sym t.1) h)

  pub newcomer_holds : (c : Channel T W) (e : Effect T W) (r : Option (Reply T)) (s : Stage (Phase T) T W) (line : WaitList)
      (key : Key) → Tries line c e r s key → StillHolds line key r s
  newcomer_holds c e r s line key (w, task, at, turned) =
      (turned.0, subst (λ (z : Stage (Phase T) T W). HoldsListener line key z) (sym turned.1) (at, refl))

  -- ---- the queue's answer

  -- it has its answer, and drops its listener at the end
  abbrev DropsLater : WaitList → Key → NextStep T W → Type 0
  DropsLater line key (Works (TellReceive x)) = x.held ≡ Some (held_by line key)
  DropsLater line key (Works (TellSend x)) = x.held ≡ Some (held_by line key)
  DropsLater line key (Works (Leave x)) = x.held ≡ Some (held_by line key)
  DropsLater line key turn = ⊥

  turned_holds : (line : WaitList) (key : Key) (turn : NextStep T W) (r : Option (Reply T)) (s : Stage (Phase T) T W) → DropsLater line key turn → Turned turn r s → StillHolds line key r s
  turned_holds line key (Works (TellReceive x)) r s h t = holds_at line key (Working (TellReceive x)) r s h t
  turned_holds line key (Works (TellSend x)) r s h t = holds_at line key (Working (TellSend x)) r s h t
  turned_holds line key (Works (Leave x)) r s h t = holds_at line key (Working (Leave x)) r s h t
  turned_holds line key turn r s h t = absurd h

  module _ (q : Queue T) (k : Key) (task : W) where
    push_answered : (v : T) (m : QueueMark) (reply : QueueReply T) (s : queue.Stage T) → AnswersPush q v m reply s
        → DropsLater Sends k (polled_next Sends reply (Some k) task) ⊎ ((m ≡ Nothing) × HasCause Sends q)
    push_answered v Nothing (answer.Push (Ok u)) (appended None) h = inl refl
    push_answered v Nothing (answer.Push (Err (push_error.Full w))) (trying b) h = inr (refl, h.1)
    push_answered v Nothing (answer.Push (Err (push_error.Closed w))) (trying b) h = inl refl
    push_answered v Nothing (answer.Push (Err (push_error.NoMemory w))) (trying b) h = inl refl
    push_answered v m reply s h = absurd h

    pop_answered : (m : QueueMark) (reply : QueueReply T) (s : queue.Stage T) → AnswersPop q m reply s
        → DropsLater Receives k (polled_next Receives reply (Some k) task) ⊎ ((m ≡ Nothing) × HasCause Receives q)
    pop_answered Nothing (answer.Pop (Ok w)) (taken v) h = inl refl
    pop_answered Nothing (answer.Pop (Err pop_error.Empty)) (trying b) h = inr (refl, h.1.0)
    pop_answered Nothing (answer.Pop (Err pop_error.Closed)) (trying b) h = inl refl
    pop_answered m reply s h = absurd h

    poll_answered : (line : WaitList) → IsOneByOne line
        → (x : ChannelAsk T W) (a : QueueAsk T) (ds : List (MarkedMoment T W)) (seen : List (Channel T W)) (m : QueueMark)
        (reply : QueueReply T) (s : queue.Stage T)
        → TriesFor x (purpose.Poll line (Some k) task) a ds seen → AnswersTo q a m reply s
        → DropsLater line k (polled_next line reply (Some k) task) ⊎ ((m ≡ Nothing) × HasCause line q)
    poll_answered Sends one x a ds seen m reply s h ans =
        let p = poll_asks x Sends (Some k) task a ds seen h in push_answered p.0 m reply s
        (subst (λ (z : QueueAsk T). AnswersTo q z m reply s) p.1 ans)
    poll_answered Receives one x a ds seen m reply s h ans =
        pop_answered m reply s (subst (λ (z : QueueAsk T). AnswersTo q z m reply s) (poll_asks x Receives (Some k) task a ds seen h)
        ans)
    poll_answered line one x a ds seen m reply s h ans = absurd one

  -- ---- any step

  -- the poll goes on with the listener in hand, or what it waits for is not there
  abbrev pub HoldsOrWaits : WaitList → Key → Effect T W → Option (Reply T) → Stage (Phase T) T W → Type 0
  HoldsOrWaits line key e r s = StillHolds line key r s ⊎ HasCause line e.channel.queue

  polls : (line : WaitList) (key : Key) → IsOneByOne line
      → (c : Channel T W) (x : ChannelAsk T W) (f : Phase T) (task : W) (m : QueueMark) (ds : List (MarkedMoment T W))
      (seen : List (Channel T W)) (e : Effect T W) (r : Option (Reply T)) (s : Stage (Phase T) T W)
      → e ≡ queued f m c → TriesFor x (purpose.Poll line (Some key) task) f.ask ds seen
      → How c f (purpose.Poll line (Some key) task) m r s → HoldsOrWaits line key e r s
  polls line key one c x f task m ds seen e r s effect h (inl (f', goes, none, there)) =
      inl (none, subst (λ (z : Stage (Phase T) T W). HoldsListener line key z) (sym there) (refl, refl))
  polls line key one c x f task m ds seen e r s effect h (inr (reply, ans, turned)) =
      ⊎_elim
      (λ d. inl (turned_holds line key (polled_next line reply (Some key) task) r s d turned))
      (λ d. inr (subst (λ (z : Effect T W). HasCause line z.channel.queue) (sym (effect ∙ ap (λ (n : QueueMark). queued f n c) d.0)) d.1))
      (poll_answered c.queue key task line one x f.ask ds seen m reply f.stage h ans)

  module _ (line : WaitList) (key : Key) (one : IsOneByOne line) (c : Channel T W) (x : ChannelAsk T W) (ds : List (MarkedMoment T W))
      (seen : List (Channel T W)) (e : Effect T W) (r : Option (Reply T)) (s : Stage (Phase T) T W) where
    pub holds_on : (at : Stage (Phase T) T W) → StageAt c x at ds seen → Moves c at e r s → HoldsListener line key at
        → WaitApart line c → Waits line key e.channel → HoldsOrWaits line key e r s
    holds_on (Trying f (purpose.Poll at (Some k) task)) st g h apart w =
        subst (λ (z : WaitList). HoldsOrWaits z key e r s) h.0 (subst (λ (z : Key). HoldsOrWaits at z e r s) h.1
        (polls at k (subst IsOneByOne (sym h.0) one) c x f task g.mark ds seen e r s g.effect st.0 g.how))
    holds_on (Working (TellReceive z)) st g h apart w = inl (holds_at line key (Working (TellStreams z)) r s h g.1)
    holds_on (Working (TellStreams z)) st g h apart w = inl (holds_at line key (Working (Leave z)) r s h (leaves_next z z.held (held_by line key) r s h g.1))
    holds_on (Working (TellSend z)) st g h apart w = inl (holds_at line key (Working (Leave z)) r s h (leaves_next z z.held (held_by line key) r s h g.1))
    holds_on (Working (Leave z)) st g h apart w = absurd (has_left line key c z.held e h g.0 apart w)
    holds_on at st g h apart w = absurd h
