-- Each step pays for what it brings or uses up, as those count it who wait for a message.
use Rattle.std.proofs.Common.{◌≡◌, ℕ, ◌+◌, ◌≤◌, false, List, [], length, Option, None, Some, Ok, Err, ◌⊎◌, ⊎_elim, inl, inr, refl, sym, ap, subst, arith}
use Rattle.channel_steps.proofs.every_run.Words.{Queue, Phase, trying, appended, taken, marked, is_displaced, AnswersTo, ContinuesBy, QueueAsk, QueueMark, Nothing, QueueReply, Key, answered_next, Channel, Effect, queued, Moves, line_of, again, ChannelAsk, Loan, Reply, Purpose, Sends, Receives, Streams, Closings, Stage, Trying, Working, Finished, Waiting, ListStep, TellReceive, TriesFor, IsFor, StageAt, MarkedMoment, HoldsListener, AnyTold, told_of, is_to_tell_receive, counts_for_receives, MessagesAreFew, IsSending, Waits}
use Rattle.concurrent_queue.specs.Queue as queue
use Rattle.concurrent_queue.specs.declared.call.QueueAsk.TheVariants as ask
use Rattle.concurrent_queue.specs.declared.call.QueueReply.TheVariants as answer
use Rattle.concurrent_queue.specs.declared.error.PopError.TheVariants as pop_error
use Rattle.concurrent_queue.specs.declared.error.PushError.TheVariants as push_error
use Rattle.concurrent_queue.specs.declared.error.ForcePushError.TheVariants as force_error
use Rattle.channel_calls.specs.declared.ask.ChannelAsk.TheVariants as channel
use Rattle.channel_calls.specs.declared.stage.Purpose.TheVariants as purpose
use Rattle.channel_calls.specs.declared.stage.Waiting.TheVariants as waiting
use Rattle.channel_steps.proofs.SuitFacts.{push_sends}
use Rattle.channel_steps.proofs.every_run.AskFacts.{How}
use Rattle.channel_steps.proofs.MoveFacts.{worked_spares}
use Rattle.channel_steps.proofs.every_run.NumberMoves.{number, push_brings, force_brings, pop_takes, goes_no_more, answers_same_number, anew_at_most, weigh_turn, turned_weighs}
use Rattle.channel_steps.proofs.every_run.Owed.{Ledger}
use Rattle.channel_steps.proofs.every_run.PayMoves.{OneByDefault, PaysOne, Counting, worked_pays, ledger_of}
use Rattle.channel_steps.proofs.every_run.ToldMoves.{tells_now}
use Rattle.channel_steps.proofs.every_run.TotalFacts.{left_over}

module _ {T W : Type 0} where
  -- what a call of this queue's call counts for
  abbrev counted : ChannelAsk T W → Purpose T W → QueueAsk T → queue.Stage T → ℕ
  counted x y a s = counts_for_receives x (Trying (record { ask = a; stage = s }) y)

  module _ (q : Queue T) (ds : List (MarkedMoment T W)) (seen : List (Channel T W)) where
    popping : (k : Loan) (key : Option Key) (t' task : W) (m : QueueMark) (s t : queue.Stage T) → queue.ContinuesPop q m s t
        → number ask.Pop s m q + counted (channel.PollRecv k t') (purpose.Poll Receives key task) ask.Pop s ≤ length q.items
        + counted (channel.PollRecv k t') (purpose.Poll Receives key task) ask.Pop t
    popping k None t' task m s t g = let n = pop_takes q m s t g in n.0
    popping k (Some key) t' task m s t g = let n = pop_takes q m s t g in let f = n.1 in omega (arith, f)

    -- as it goes on
    goes_pays : (x : ChannelAsk T W) (y : Purpose T W) (a : QueueAsk T) (m : QueueMark) (s t : queue.Stage T) → TriesFor x y a ds seen
        → ContinuesBy q a m s t
        → number a s m q + counted x y a s ≤ length q.items + counted x y a t
    goes_pays (channel.TrySend v) purpose.TrySend (ask.Push w) m s t h g = let n = push_brings q w m s t g in n.0
    goes_pays (channel.TrySend v) y a m s t h g = absurd h
    goes_pays (channel.PollSend v k t') (purpose.Poll Sends key task) (ask.Push w) m s t h g = let n = push_brings q w m s t g in n.0
    goes_pays (channel.PollSend v k t') y a m s t h g = absurd h
    goes_pays (channel.ForceSend v) purpose.ForceSend (ask.ForcePush w) m s t h g = let n = force_brings q w m s t g in n.0
    goes_pays (channel.ForceSend v) y a m s t h g = absurd h
    goes_pays (channel.PollRecv k t') (purpose.Poll Receives key task) ask.Pop m s t h g = popping k key t' task m s t g
    goes_pays (channel.PollRecv k t') y a m s t h g = absurd h
    goes_pays x y a m s t h g = let n = goes_no_more q a m s t (λ p. push_sends x y ds seen a h p) g in omega (arith, n)

    -- ---- as it answers

    -- a sending call counts for what it brought, until it tells
    abbrev Keeps : ChannelAsk T W → Purpose T W → QueueAsk T → QueueReply T → queue.Stage T → Type 0
    Keeps x y a r s = counted x y a s ≤ weigh_turn counts_for_receives x (answered_next y r)

    pub sending_keeps : (x : ChannelAsk T W) → IsSending x → (y : Purpose T W) (a : QueueAsk T) (m : QueueMark) (r : QueueReply T) (s : queue.Stage T) → TriesFor x y a ds seen → AnswersTo q a m r s → Keeps x y a r s
    sending_keeps (channel.TrySend v) sends purpose.TrySend (ask.Push w) Nothing (answer.Push (Ok u)) (appended None) h g = omega arith
    sending_keeps (channel.TrySend v) sends purpose.TrySend (ask.Push w) Nothing (answer.Push (Err (push_error.Full z))) (trying b) h g = omega arith
    sending_keeps (channel.TrySend v) sends purpose.TrySend (ask.Push w) Nothing (answer.Push (Err (push_error.Closed z))) (trying b) h g = omega arith
    sending_keeps (channel.TrySend v) sends purpose.TrySend (ask.Push w) Nothing (answer.Push (Err (push_error.NoMemory z))) (trying b) h g = omega arith
    sending_keeps (channel.TrySend v) sends purpose.TrySend (ask.Push w) m r s h g = absurd g
    sending_keeps (channel.TrySend v) sends y a m r s h g = absurd h
    sending_keeps (channel.PollSend v k t') sends (purpose.Poll Sends key task) (ask.Push w) Nothing (answer.Push (Ok u)) (appended None) h g = omega arith
    sending_keeps (channel.PollSend v k t') sends (purpose.Poll Sends key task) (ask.Push w) Nothing (answer.Push (Err (push_error.Full z))) (trying b) h g = omega arith
    sending_keeps (channel.PollSend v k t') sends (purpose.Poll Sends key task) (ask.Push w) Nothing (answer.Push (Err (push_error.Closed z))) (trying b) h g = omega arith
    sending_keeps (channel.PollSend v k t') sends (purpose.Poll Sends key task) (ask.Push w) Nothing (answer.Push (Err (push_error.NoMemory z))) (trying b) h g = omega arith
    sending_keeps (channel.PollSend v k t') sends (purpose.Poll Sends key task) (ask.Push w) m r s h g = absurd g
    sending_keeps (channel.PollSend v k t') sends y a m r s h g = absurd h
    sending_keeps (channel.ForceSend v) sends purpose.ForceSend (ask.ForcePush w) Nothing (answer.Force (Ok d)) (appended o) h g = omega arith
    sending_keeps (channel.ForceSend v) sends purpose.ForceSend (ask.ForcePush w) Nothing (answer.Force (Err (force_error.Closed z))) (trying b) h g = omega arith
    sending_keeps (channel.ForceSend v) sends purpose.ForceSend (ask.ForcePush w) Nothing (answer.Force (Err (force_error.NoMemory z))) (trying b) h g = omega arith
    sending_keeps (channel.ForceSend v) sends purpose.ForceSend (ask.ForcePush w) m r s h g = absurd g
    sending_keeps (channel.ForceSend v) sends y a m r s h g = absurd h
    sending_keeps x sends y a m r s h g = absurd sends

    -- or it found nothing
    abbrev Answered : ChannelAsk T W → Purpose T W → QueueAsk T → QueueMark → QueueReply T → queue.Stage T → Type 0
    Answered x y a m r s = Keeps x y a r s ⊎ ((marked a (is_displaced s) m q).items ≡ [])

    answers_pay : (x : ChannelAsk T W) (y : Purpose T W) (a : QueueAsk T) (m : QueueMark) (r : QueueReply T) (s : queue.Stage T)
        → TriesFor x y a ds seen → AnswersTo q a m r s → Answered x y a m r s
    answers_pay (channel.TrySend v) y a m r s h g = inl (sending_keeps (channel.TrySend v) tt y a m r s h g)
    answers_pay (channel.PollSend v k t') y a m r s h g = inl (sending_keeps (channel.PollSend v k t') tt y a m r s h g)
    answers_pay (channel.ForceSend v) y a m r s h g = inl (sending_keeps (channel.ForceSend v) tt y a m r s h g)
    answers_pay (channel.PollRecv k t') (purpose.Poll Receives key task) ask.Pop Nothing (answer.Pop (Ok w)) (taken v) h g =
        let few = anew_at_most {T = T} (record { ask = ask.Pop; stage = taken v }) Receives key task in inl (omega (arith, few))
    answers_pay (channel.PollRecv k t') (purpose.Poll Receives key task) ask.Pop Nothing (answer.Pop (Err pop_error.Empty)) (trying b) h g = inr g.1.0
    answers_pay (channel.PollRecv k t') (purpose.Poll Receives key task) ask.Pop Nothing (answer.Pop (Err pop_error.Closed)) (trying b) h g = inr g.1.0
    answers_pay (channel.PollRecv k t') (purpose.Poll Receives key task) ask.Pop m r s h g = absurd g
    answers_pay (channel.PollRecv k t') y a m r s h g = absurd h
    answers_pay x y a m r s h g = inl (omega arith)

  -- ---- a step of the queue's call

  abbrev Paid : Channel T W → ChannelAsk T W → Stage (Phase T) T W → Effect T W → Option (Reply T) → Stage (Phase T) T W → Type 0
  Paid c x at e r s = PaysOne Receives tt MessagesAreFew counts_for_receives c x at e r s

  tried_pays : (c : Channel T W) (x : ChannelAsk T W) (f : Phase T) (y : Purpose T W) (m : QueueMark) (ds : List (MarkedMoment T W))
      (seen : List (Channel T W)) (r : Option (Reply T)) (s : Stage (Phase T) T W)
      → TriesFor x y f.ask ds seen → How c f y m r s → Paid c x (Trying f y) (queued f m c) r s
  tried_pays c x f y m ds seen r s h (inl (f', goes, none, there)) n enough =
      let same = ap (λ (a : QueueAsk T). counts_for_receives x (Trying (record { ask = a; stage = f'.stage }) y)) goes.0 in
      let k = goes_pays c.queue ds seen x y f.ask m f.stage f'.stage h goes.1 in
      let now = ap (λ (z : Option (Reply T)). left_over counts_for_receives x z s) none in
      let at = ap (λ (z : Stage (Phase T) T W). counts_for_receives x z) there in
      omega (arith, enough, same, k, now, at)
  tried_pays c x f y m ds seen r s h (inr (reply, ans, turned)) n enough =
      ⊎_elim
      (λ k. let same = answers_same_number c.queue f.ask m reply f.stage ans in
      let now = turned_weighs counts_for_receives x (answered_next y reply) r s turned in omega (arith, enough, same, k, now))
      (λ k. let none : length (marked f.ask (is_displaced f.stage) m c.queue).items ≡ 0 = ap length k in omega (arith, none))
      (answers_pay c.queue ds seen x y f.ask m reply f.stage h ans)

  -- ---- a step on a list

  tells_at_most : (w : ListStep T W) → is_to_tell_receive (let at : Stage (Phase T) T W = Working w in at) ≤ tells_now w Receives
  tells_at_most (TellReceive x) = omega arith
  tells_at_most w = omega arith

  work_counts : (x : ChannelAsk T W) (w : ListStep T W) → counts_for_receives x (Working w) ≤ tells_now w Receives
  work_counts (channel.TrySend v) w = tells_at_most w
  work_counts (channel.ForceSend v) w = tells_at_most w
  work_counts (channel.PollSend v k t) w = tells_at_most w
  work_counts x w = omega arith

  asks_one : (x : ChannelAsk T W) (v : Waiting T) (task : W) → IsFor x v → Receives ≡ line_of v → weigh_turn counts_for_receives x (again v None task) ≡ 1
  asks_one (channel.PollRecv k t) waiting.Receive task h at = refl
  asks_one x (waiting.Send v) task h at = absurd (let never : Receives ≡ Sends = at in cc)
  asks_one x waiting.Stream task h at = absurd (let never : Receives ≡ Streams = at in cc)
  asks_one x waiting.Closing task h at = absurd (let never : Receives ≡ Closings = at in cc)
  asks_one x v task h at = absurd h

  counting : Counting {T = T} {W = W} Receives tt MessagesAreFew counts_for_receives
  counting =
      record {
        tells = work_counts;
        asks = asks_one;
        caused = λ c n h. (let none : length c.queue.items ≡ 0 = ap length h in omega (arith, none));
        eased = λ c d m n same less h. (let items = ap (λ (q : Queue T). length q.items) same in omega (arith, less, items, h));
      }

  receive_pays : (c : Channel T W) (x : ChannelAsk T W) (at : Stage (Phase T) T W) (ds : List (MarkedMoment T W))
      (seen : List (Channel T W)) (e : Effect T W) (r : Option (Reply T)) (s : Stage (Phase T) T W) (key : Key)
      → StageAt c x at ds seen → Moves c at e r s → Waits Receives key e.channel → Paid c x at e r s ⊎ AnyTold false (told_of Receives c)
  receive_pays c x (Trying f y) ds seen e r s key st g w =
      inl (subst (λ (z : Effect T W). Paid c x (Trying f y) z r s) (sym g.effect) (tried_pays c x f y g.mark ds seen r s st.0 g.how))
  receive_pays c x (Working z) ds seen e r s key st g w =
      let k = worked_spares c z e r s g in worked_pays Receives tt MessagesAreFew counts_for_receives counting c x z ds seen e r s key k.0 st g w
  receive_pays c x (Finished kept) ds seen e r s key st g w = absurd st

  pub receive_ledger : Ledger {T = T} {W = W} Receives MessagesAreFew counts_for_receives (HoldsListener Receives) (OneByDefault Receives tt MessagesAreFew counts_for_receives)
  receive_ledger = ledger_of Receives tt MessagesAreFew counts_for_receives counting receive_pays
