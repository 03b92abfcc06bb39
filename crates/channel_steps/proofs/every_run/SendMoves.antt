-- Each step pays for what it takes or uses up, as those count it who wait for a free place.
use Rattle.std.proofs.lemmas.List.{length-append}
use Rattle.channel_steps.proofs.every_run.Words.{with_last, TryRecvError, Queue, Phase, IsShut, trying, appended, taken, is_displaced, is_full_at, is_filled, AnswersTo, ContinuesBy, QueueAsk, QueueMark, Nothing, QueueReply, Key, answered_next, gathered_next, short_next, Channel, Effect, queued, Moves, line_of, again, ChannelAsk, Loan, Reply, Purpose, Sends, Receives, Streams, Closings, Stage, Trying, Working, Finished, Waiting, ListStep, TellSend, TriesFor, IsFor, StageAt, MarkedMoment, Shut, HoldsListener, AnyTold, told_of, is_to_tell_send, counts_for_sends, HasPlaces, PlacesAreFew, Waits}
use Rattle.channel_calls.specs.declared.error.TryRecvError.TheVariants as try_recv_error
use Rattle.std.proofs.Common.{◌≡◌, ℕ, zero, suc, ◌+◌, ◌≤◌, true, false, List, [], ◌∷◌, ◌++◌, length, Option, None, Some, Ok, Err, ◌⊎◌, ⊎_elim, inl, inr, refl, sym, ap, subst, arith}
use Rattle.std.proofs.lemmas.Bool.Decides.{nat_tests}
use Rattle.concurrent_queue.specs.Queue as queue
use Rattle.concurrent_queue.specs.declared.call.QueueAsk.TheVariants as ask
use Rattle.concurrent_queue.specs.declared.call.QueueReply.TheVariants as answer
use Rattle.concurrent_queue.specs.declared.error.PopError.TheVariants as pop_error
use Rattle.concurrent_queue.specs.declared.error.PushError.TheVariants as push_error
use Rattle.concurrent_queue.specs.declared.error.ForcePushError.TheVariants as force_error
use Rattle.channel_calls.specs.declared.ask.ChannelAsk.TheVariants as channel
use Rattle.channel_calls.specs.declared.stage.Purpose.TheVariants as purpose
use Rattle.channel_calls.specs.declared.stage.Waiting.TheVariants as waiting
use Rattle.channel_steps.proofs.SuitFacts.{takes_as}
use Rattle.channel_steps.proofs.QueueFacts.{same_capacity}
use Rattle.channel_steps.proofs.every_run.AskFacts.{How}
use Rattle.channel_steps.proofs.every_run.Closed.{shut_does}
use Rattle.channel_steps.proofs.MoveFacts.{worked_spares}
use Rattle.channel_steps.proofs.every_run.NumberMoves.{number, push_fills, force_fills, pop_frees, goes_no_fewer, answers_same_number, anew_at_most, weigh_turn, turned_weighs}
use Rattle.channel_steps.proofs.every_run.Owed.{Ledger}
use Rattle.channel_steps.proofs.every_run.PayMoves.{OneByDefault, PaysOne, Counting, worked_pays, ledger_of}
use Rattle.channel_steps.proofs.every_run.ToldMoves.{tells_now}
use Rattle.channel_steps.proofs.every_run.TotalFacts.{left_over}

has_more : (cap : Option ℕ) (m n : ℕ) → m ≤ n → HasPlaces cap m → HasPlaces cap n
has_more None m n less h = h
has_more (Some cap) m n less h = omega (arith, less, h)

module _ {T : Type 0} where
  -- the queue is full, closed, or has no bound
  abbrev Refuses : Queue T → Type 0
  Refuses q = (is_filled q ≡ true) ⊎ (IsShut q ⊎ (q.capacity ≡ None))

  filled_as : (cap : Option ℕ) (items : List T) (n : ℕ) → is_full_at cap items ≡ true → HasPlaces cap (length items + n)
  filled_as None items n e = absurd (let never : false ≡ true = e in cc)
  filled_as (Some cap) items n e = let same : length items ≡ cap = grind (arith, nat_tests, e) in omega (arith, same)

module _ {T W : Type 0} where
  -- what a call of this queue's call counts for
  abbrev counted : ChannelAsk T W → Purpose T W → QueueAsk T → queue.Stage T → ℕ
  counted x y a s = counts_for_sends x (Trying (record { ask = a; stage = s }) y)

  module _ (q : Queue T) (ds : List (MarkedMoment T W)) (seen : List (Channel T W)) where
    pushing : (v w : T) (k : Loan) (key : Option Key) (t' task : W) (m : QueueMark) (s t : queue.Stage T) → queue.ContinuesPush q m s t
        → length q.items + counted (channel.PollSend v k t') (purpose.Poll Sends key task) (ask.Push w) s ≤ number (ask.Push w) s m
        q + counted (channel.PollSend v k t') (purpose.Poll Sends key task) (ask.Push w) t
    pushing v w k None t' task m s t g = let n = push_fills q w m s t g in n.0
    pushing v w k (Some key) t' task m s t g = let n = push_fills q w m s t g in let f = n.1 in omega (arith, f)

    -- as it goes on
    goes_pays : (x : ChannelAsk T W) (y : Purpose T W) (a : QueueAsk T) (m : QueueMark) (s t : queue.Stage T) → TriesFor x y a ds seen
        → ContinuesBy q a m s t
        → length q.items + counted x y a s ≤ number a s m q + counted x y a t
    goes_pays channel.TryRecv purpose.TryRecv ask.Pop m s t h g = pop_frees q m s t g
    goes_pays channel.TryRecv y a m s t h g = absurd h
    goes_pays (channel.RecvMany n) (purpose.RecvMany z) ask.Pop m s t h g = let k = pop_frees q m s t g in omega (arith, k)
    goes_pays (channel.RecvMany n) y a m s t h g = absurd h
    goes_pays (channel.PollRecv k t') (purpose.Poll Receives key task) ask.Pop m s t h g = pop_frees q m s t g
    goes_pays (channel.PollRecv k t') y a m s t h g = absurd h
    goes_pays (channel.PollNext k t') (purpose.Poll Streams key task) ask.Pop m s t h g = pop_frees q m s t g
    goes_pays (channel.PollNext k t') y a m s t h g = absurd h
    goes_pays (channel.ForceSend v) purpose.ForceSend (ask.ForcePush w) m s t h g = force_fills q w m s t g
    goes_pays (channel.ForceSend v) y a m s t h g = absurd h
    goes_pays (channel.PollSend v k t') (purpose.Poll Sends key task) (ask.Push w) m s t h g = pushing v w k key t' task m s t g
    goes_pays (channel.PollSend v k t') y a m s t h g = absurd h
    goes_pays x y a m s t h g = let n = goes_no_fewer q a m s t (λ p. takes_as x y ds seen a h p) g in omega (arith, n)

    -- as it answers, or by such a refusal
    abbrev Answered : ChannelAsk T W → Purpose T W → QueueAsk T → QueueMark → QueueReply T → queue.Stage T → Type 0
    Answered x y a m r s =
        (length q.items + counted x y a s ≤ number a s m q + weigh_turn counts_for_sends x (answered_next y r))
        ⊎ ((m ≡ Nothing) × Refuses q)

    -- one more of several is in hand
    gathers : (n k : ℕ) (vs : List T) (v : T) → length vs + 1 ≤ weigh_turn {W = W} counts_for_sends (channel.RecvMany n) (gathered_next (with_last (vs ++ v ∷ []) k))
    gathers n zero vs v = let l = length-append vs (v ∷ []) in omega (arith, l)
    gathers n (suc k) vs v = let l = length-append vs (v ∷ []) in omega (arith, l)

    stops : (n : ℕ) (vs : List T) (e : TryRecvError) → length vs ≤ weigh_turn {W = W} counts_for_sends (channel.RecvMany n) (short_next vs e)
    stops n [] e = omega arith
    stops n (v ∷ vs) e = omega arith

    answers_pay : (x : ChannelAsk T W) (y : Purpose T W) (a : QueueAsk T) (m : QueueMark) (r : QueueReply T) (s : queue.Stage T)
        → TriesFor x y a ds seen → AnswersTo q a m r s → Answered x y a m r s
    answers_pay channel.TryRecv purpose.TryRecv ask.Pop Nothing (answer.Pop (Ok w)) (taken v) h g = inl (omega arith)
    answers_pay channel.TryRecv purpose.TryRecv ask.Pop Nothing (answer.Pop (Err pop_error.Empty)) (trying b) h g = inl (omega arith)
    answers_pay channel.TryRecv purpose.TryRecv ask.Pop Nothing (answer.Pop (Err pop_error.Closed)) (trying b) h g = inl (omega arith)
    answers_pay channel.TryRecv purpose.TryRecv ask.Pop m r s h g = absurd g
    answers_pay channel.TryRecv y a m r s h g = absurd h
    answers_pay (channel.RecvMany n) (purpose.RecvMany z) ask.Pop Nothing (answer.Pop (Ok w)) (taken v) h g = let k = gathers n z.more z.taken w in inl (omega (arith, k))
    answers_pay (channel.RecvMany n) (purpose.RecvMany z) ask.Pop Nothing (answer.Pop (Err pop_error.Empty)) (trying b) h g = let k = stops n z.taken try_recv_error.Empty in inl (omega (arith, k))
    answers_pay (channel.RecvMany n) (purpose.RecvMany z) ask.Pop Nothing (answer.Pop (Err pop_error.Closed)) (trying b) h g = let k = stops n z.taken try_recv_error.Closed in inl (omega (arith, k))
    answers_pay (channel.RecvMany n) (purpose.RecvMany z) ask.Pop m r s h g = absurd g
    answers_pay (channel.RecvMany n) y a m r s h g = absurd h
    answers_pay (channel.PollRecv k t') (purpose.Poll Receives key task) ask.Pop Nothing (answer.Pop (Ok w)) (taken v) h g = inl (omega arith)
    answers_pay (channel.PollRecv k t') (purpose.Poll Receives key task) ask.Pop Nothing (answer.Pop (Err pop_error.Empty)) (trying b) h g = inl (omega arith)
    answers_pay (channel.PollRecv k t') (purpose.Poll Receives key task) ask.Pop Nothing (answer.Pop (Err pop_error.Closed)) (trying b) h g = inl (omega arith)
    answers_pay (channel.PollRecv k t') (purpose.Poll Receives key task) ask.Pop m r s h g = absurd g
    answers_pay (channel.PollRecv k t') y a m r s h g = absurd h
    answers_pay (channel.PollNext k t') (purpose.Poll Streams key task) ask.Pop Nothing (answer.Pop (Ok w)) (taken v) h g = inl (omega arith)
    answers_pay (channel.PollNext k t') (purpose.Poll Streams key task) ask.Pop Nothing (answer.Pop (Err pop_error.Empty)) (trying b) h g = inl (omega arith)
    answers_pay (channel.PollNext k t') (purpose.Poll Streams key task) ask.Pop Nothing (answer.Pop (Err pop_error.Closed)) (trying b) h g = inl (omega arith)
    answers_pay (channel.PollNext k t') (purpose.Poll Streams key task) ask.Pop m r s h g = absurd g
    answers_pay (channel.PollNext k t') y a m r s h g = absurd h
    answers_pay (channel.ForceSend v) purpose.ForceSend (ask.ForcePush w) Nothing (answer.Force (Ok d)) (appended o) h g = inl (omega arith)
    answers_pay (channel.ForceSend v) purpose.ForceSend (ask.ForcePush w) Nothing (answer.Force (Err (force_error.Closed z))) (trying b) h g = inl (omega arith)
    answers_pay (channel.ForceSend v) purpose.ForceSend (ask.ForcePush w) Nothing (answer.Force (Err (force_error.NoMemory z))) (trying b) h g = inl (omega arith)
    answers_pay (channel.ForceSend v) purpose.ForceSend (ask.ForcePush w) m r s h g = absurd g
    answers_pay (channel.ForceSend v) y a m r s h g = absurd h
    answers_pay (channel.PollSend v k t') (purpose.Poll Sends key task) (ask.Push w) Nothing (answer.Push (Ok u)) (appended None) h g =
        let few = anew_at_most {T = T} (record { ask = ask.Push w; stage = appended None }) Sends key task in inl
        (omega (arith, few))
    answers_pay (channel.PollSend v k t') (purpose.Poll Sends key task) (ask.Push w) Nothing (answer.Push (Err (push_error.Full z))) (trying b) h g = inr (refl, inl g.1)
    answers_pay (channel.PollSend v k t') (purpose.Poll Sends key task) (ask.Push w) Nothing (answer.Push (Err (push_error.Closed z))) (trying b) h g = inr (refl, inr (inl g.1))
    answers_pay (channel.PollSend v k t') (purpose.Poll Sends key task) (ask.Push w) Nothing (answer.Push (Err (push_error.NoMemory z))) (trying b) h g = inr (refl, inr (inr g.1))
    answers_pay (channel.PollSend v k t') (purpose.Poll Sends key task) (ask.Push w) m r s h g = absurd g
    answers_pay (channel.PollSend v k t') y a m r s h g = absurd h
    answers_pay x y a m r s h g = let n = answers_same_number q a m r s g in inl (omega (arith, n))

  -- ---- a step of the queue's call

  abbrev Paid : Channel T W → ChannelAsk T W → Stage (Phase T) T W → Effect T W → Option (Reply T) → Stage (Phase T) T W → Type 0
  Paid c x at e r s = PaysOne Sends tt PlacesAreFew counts_for_sends c x at e r s

  -- where the queue has places enough with this many, it has so with that many after the step
  places_on : (c d : Channel T W) (n k : ℕ) → (Shut c → Shut d) → d.queue.capacity ≡ c.queue.capacity
      → length c.queue.items + length (told_of Sends c) + n ≤ length d.queue.items + length (told_of Sends d) + k
      → PlacesAreFew c n → PlacesAreFew d k
  places_on c d n k shut cap less (inl h) = inl (shut h)
  places_on c d n k shut cap less (inr h) =
      inr (subst (λ (o : Option ℕ). HasPlaces o (length d.queue.items + length (told_of Sends d) + k)) (sym cap) (
      has_more c.queue.capacity (length c.queue.items + length (told_of Sends c) + n)
      (length d.queue.items + length (told_of Sends d) + k) less h))

  full_places : (c : Channel T W) (n : ℕ) → is_filled c.queue ≡ true → PlacesAreFew c n
  full_places c n h =
      inr (has_more c.queue.capacity (length c.queue.items + 0) (length c.queue.items + length (told_of Sends c) + n)
      (omega arith) (filled_as c.queue.capacity c.queue.items 0 h))

  -- a refusal leaves places as few as can be
  refused_places : (c : Channel T W) (n k : ℕ) → Refuses c.queue → PlacesAreFew c n → PlacesAreFew c k
  refused_places c n k (inl full) h = full_places c k full
  refused_places c n k (inr (inl shut)) h = inl shut
  refused_places c n k (inr (inr none)) (inl shut) = inl shut
  refused_places c n k (inr (inr none)) (inr h) =
      absurd (subst (λ (o : Option ℕ). HasPlaces o (length c.queue.items + length (told_of Sends c) + n)) none h)

  module _ (c : Channel T W) (x : ChannelAsk T W) (f : Phase T) (y : Purpose T W) (m : QueueMark) (ds : List (MarkedMoment T W))
      (seen : List (Channel T W)) (r : Option (Reply T)) (s : Stage (Phase T) T W)
      (shut : Shut c → Shut (let e : Effect T W = queued f m c in e.channel)) where
    abbrev now : Channel T W
    now = let e : Effect T W = queued f m c in e.channel

    same_bound : now.queue.capacity ≡ c.queue.capacity
    same_bound = same_capacity c.queue f.ask (is_displaced f.stage) m

    tried_pays : TriesFor x y f.ask ds seen → How c f y m r s → Paid c x (Trying f y) (queued f m c) r s
    tried_pays h (inl (f', goes, none, there)) n enough =
        let same = ap (λ (a : QueueAsk T). counts_for_sends x (Trying (record { ask = a; stage = f'.stage }) y)) goes.0 in
        let k = goes_pays c.queue ds seen x y f.ask m f.stage f'.stage h goes.1 in
        let after = ap (λ (z : Option (Reply T)). left_over counts_for_sends x z s) none in
        let at = ap (λ (z : Stage (Phase T) T W). counts_for_sends x z) there in
        places_on c now (counts_for_sends x (Trying f y) + n) (left_over counts_for_sends x r s + n) shut same_bound
        (omega (arith, same, k, after, at)) enough
    tried_pays h (inr (reply, ans, turned)) n enough =
        ⊎_elim
        (λ k. let after = turned_weighs counts_for_sends x (answered_next y reply) r s turned in
        places_on c now (counts_for_sends x (Trying f y) + n) (left_over counts_for_sends x r s + n) shut same_bound
        (omega (arith, k, after)) enough)
        (λ k. subst (λ (z : QueueMark). PlacesAreFew (let e : Effect T W = queued f z c in e.channel)
        (left_over counts_for_sends x r s + n)) (sym k.0) (
        refused_places c (counts_for_sends x (Trying f y) + n) (left_over counts_for_sends x r s + n) k.1 enough))
        (answers_pay c.queue ds seen x y f.ask m reply f.stage h ans)

  -- ---- a step on a list

  tells_at_most : (w : ListStep T W) → is_to_tell_send (let at : Stage (Phase T) T W = Working w in at) ≤ tells_now w Sends
  tells_at_most (TellSend x) = omega arith
  tells_at_most w = omega arith

  work_counts : (x : ChannelAsk T W) (w : ListStep T W) → counts_for_sends x (Working w) ≤ tells_now w Sends
  work_counts channel.TryRecv w = tells_at_most w
  work_counts (channel.RecvMany n) w = tells_at_most w
  work_counts (channel.PollRecv k t) w = tells_at_most w
  work_counts (channel.PollNext k t) w = tells_at_most w
  work_counts x w = omega arith

  asks_one : (x : ChannelAsk T W) (v : Waiting T) (task : W) → IsFor x v → Sends ≡ line_of v → weigh_turn counts_for_sends x (again v None task) ≡ 1
  asks_one (channel.PollSend m k t) (waiting.Send v) task h at = refl
  asks_one x waiting.Receive task h at = absurd (let never : Sends ≡ Receives = at in cc)
  asks_one x waiting.Stream task h at = absurd (let never : Sends ≡ Streams = at in cc)
  asks_one x waiting.Closing task h at = absurd (let never : Sends ≡ Closings = at in cc)
  asks_one x v task h at = absurd h

  places_eased : (c d : Channel T W) (m n : ℕ) → d.queue ≡ c.queue → length (told_of Sends c) + m ≤ length (told_of Sends d) + n → PlacesAreFew c m → PlacesAreFew d n
  places_eased c d m n same less h =
      let items = ap (λ (q : Queue T). length q.items) same in
      places_on c d m n (λ shut. subst (λ (q : Queue T). IsShut q) (sym same) shut) (ap (λ (q : Queue T). q.capacity) same) (omega (arith, less, items)) h

  counting : Counting {T = T} {W = W} Sends tt PlacesAreFew counts_for_sends
  counting = record { tells = work_counts; asks = asks_one; caused = full_places; eased = places_eased }

  send_pays : (c : Channel T W) (x : ChannelAsk T W) (at : Stage (Phase T) T W) (ds : List (MarkedMoment T W))
      (seen : List (Channel T W)) (e : Effect T W) (r : Option (Reply T)) (s : Stage (Phase T) T W) (key : Key)
      → StageAt c x at ds seen → Moves c at e r s → Waits Sends key e.channel → Paid c x at e r s ⊎ AnyTold false (told_of Sends c)
  send_pays c x (Trying f y) ds seen e r s key st g w =
      let shut : Shut c → Shut (let z : Effect T W = queued f g.mark c in z.channel) =
      (λ h. subst (λ (z : Effect T W). Shut z.channel) g.effect (let k = shut_does c (Trying f y) e r s h g in k.0.0)) in
      inl (subst (λ (z : Effect T W). Paid c x (Trying f y) z r s) (sym g.effect) (tried_pays c x f y g.mark ds seen r s shut st.0 g.how))
  send_pays c x (Working z) ds seen e r s key st g w =
      let k = worked_spares c z e r s g in worked_pays Sends tt PlacesAreFew counts_for_sends counting c x z ds seen e r s key k.0 st g w
  send_pays c x (Finished kept) ds seen e r s key st g w = absurd st

  pub send_ledger : Ledger {T = T} {W = W} Sends PlacesAreFew counts_for_sends (HoldsListener Sends) (OneByDefault Sends tt PlacesAreFew counts_for_sends)
  send_ledger = ledger_of Sends tt PlacesAreFew counts_for_sends counting send_pays
