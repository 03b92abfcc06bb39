-- Each step pays for what it brings, as streams count it: there is no message, or a call is to tell them all.
use Rattle.std.proofs.Common.{⊎_elim, ◌≡◌, ℕ, ◌+◌, ◌≤◌, List, [], ◌∷◌, length, Option, Some, Ok, Err, ◌⊎◌, inl, inr, refl, sym, ap, ◌∙◌, subst, arith}
use Rattle.channel_steps.proofs.every_run.Words.{Queue, Phase, trying, appended, taken, marked, is_displaced, ContinuesBy, AnswersPop, AnswersTo, QueueAsk, QueueMark, Nothing, QueueReply, Key, answered_next, stream_next, Channel, Effect, queued, Turned, Moves, ChannelAsk, Reply, Purpose, Sends, Receives, Streams, Closings, Stage, Trying, Working, Finished, NextStep, Tries, Works, Ends, ListStep, TellReceive, TellStreams, TellSend, Leave, TriesFor, StageAt, MarkedMoment, ActiveCall, has_appended, is_to_tell_receive, counts_for_receives, HasAppended, IsSending, IsBringing, HasInHand, Waits, WaitApart}
use Rattle.concurrent_queue.specs.Queue as queue
use Rattle.concurrent_queue.specs.declared.call.QueueAsk.TheVariants as ask
use Rattle.concurrent_queue.specs.declared.call.QueueReply.TheVariants as answer
use Rattle.concurrent_queue.specs.declared.error.PopError.TheVariants as pop_error
use Rattle.channel_calls.specs.declared.ask.ChannelAsk.TheVariants as channel
use Rattle.channel_calls.specs.declared.stage.Purpose.TheVariants as purpose
use Rattle.channel_calls.specs.declared.stage.Waiting.TheVariants as waiting
use Rattle.channel_steps.proofs.every_run.AllOwed.{FreeOrTold, free_more}
use Rattle.channel_steps.proofs.SuitFacts.{push_sends}
use Rattle.channel_steps.proofs.every_run.AskFacts.{How, poll_asks, held_by, leaves_next, has_left}
use Rattle.channel_steps.proofs.MoveFacts.{worked_spares}
use Rattle.channel_steps.proofs.every_run.ListMoves.{Tries as ComesIn}
use Rattle.channel_steps.proofs.every_run.NumberMoves.{number, push_brings, force_brings, goes_no_more, answers_same_number, weigh_turn, turned_weighs}
use Rattle.channel_steps.proofs.every_run.Owed.{Pays, GoesOn, GoesOnOr, Ledger}
use Rattle.channel_steps.proofs.every_run.ReceiveMoves.{sending_keeps}
use Rattle.channel_steps.proofs.every_run.TotalFacts.{left_over}

module _ {T : Type 0} where
  appended_counts : (s : queue.Stage T) → (HasAppended s → 1 ≤ has_appended s) × (1 ≤ has_appended s → HasAppended s)
  appended_counts (appended o) = (λ h. omega arith, λ h. tt)
  appended_counts s = (λ h. absurd h, λ h. absurd (omega (arith, h)))

  -- where no more messages are there than were, but for those that are to be told of, there is none, or one is to be told of
  settled : (items : List T) (n k m l : ℕ) → length items + k ≤ n + m → k ≤ m → (n ≡ 0) ⊎ (1 ≤ k + l) → (items ≡ []) ⊎ (1 ≤ m + l)
  settled [] n k m l less on h = inl refl
  settled (v ∷ vs) n k m l less on (inl none) = inr (omega (arith, less, none))
  settled (v ∷ vs) n k m l less on (inr some) = inr (omega (arith, on, some))

module _ {T W : Type 0} where
  -- ---- what a call counts for

  -- 1 for a call whose message is in and that has not told the streams yet
  abbrev is_to_tell_streams : Stage (Phase T) T W → ℕ
  is_to_tell_streams (Trying f y) = has_appended f.stage
  is_to_tell_streams (Working (TellReceive x)) = 1
  is_to_tell_streams (Working (TellStreams x)) = 1
  is_to_tell_streams at = 0

  abbrev if_sending : ChannelAsk T W → ℕ → ℕ
  if_sending (channel.TrySend m) n = n
  if_sending (channel.ForceSend m) n = n
  if_sending (channel.PollSend m k t) n = n
  if_sending x n = 0

  abbrev pub counts_for_streams : ChannelAsk T W → Stage (Phase T) T W → ℕ
  counts_for_streams x at = if_sending x (is_to_tell_streams at)

  if_none : (x : ChannelAsk T W) → if_sending x 0 ≡ 0
  if_none (channel.TrySend m) = refl
  if_none x = refl

  bringing_counts : (at : Stage (Phase T) T W) → (IsBringing at → 1 ≤ is_to_tell_streams at) × (1 ≤ is_to_tell_streams at → IsBringing at)
  bringing_counts (Trying f y) = appended_counts f.stage
  bringing_counts (Working (TellReceive x)) = (λ h. omega arith, λ h. tt)
  bringing_counts (Working (TellStreams x)) = (λ h. omega arith, λ h. tt)
  bringing_counts at = (λ h. absurd h, λ h. absurd (omega (arith, h)))

  -- a call that is to tell the streams counts, and no other
  pub tells_counts : (x : ChannelAsk T W) (at : Stage (Phase T) T W)
      → (IsSending x × IsBringing at → 1 ≤ counts_for_streams x at) × (1 ≤ counts_for_streams x at → IsSending x × IsBringing at)
  tells_counts (channel.TrySend m) at = let k = bringing_counts at in (λ h. k.0 h.1, λ h. (tt, k.1 h))
  tells_counts (channel.ForceSend m) at = let k = bringing_counts at in (λ h. k.0 h.1, λ h. (tt, k.1 h))
  tells_counts (channel.PollSend m k' t) at = let k = bringing_counts at in (λ h. k.0 h.1, λ h. (tt, k.1 h))
  tells_counts x at = (λ h. absurd h.0, λ h. absurd (omega (arith, h)))

  -- ---- a step of the queue's call

  abbrev pub NoMessages : Channel T W → Type 0
  NoMessages c = c.queue.items ≡ []

  abbrev pub Tells : ActiveCall T W → Type 0
  Tells u = IsSending u.ask × IsBringing u.at

  -- there is no message, or so many calls are to tell the streams
  abbrev pub NoneOrTold : Channel T W → ℕ → Type 0
  NoneOrTold c n = FreeOrTold NoMessages Tells HasInHand counts_for_streams c n

  abbrev counted : ChannelAsk T W → Purpose T W → QueueAsk T → queue.Stage T → ℕ
  counted x y a s = counts_for_streams x (Trying (record { ask = a; stage = s }) y)

  -- a sending call counts no less with the streams than with the receives, which it tells before
  more_told : (at : Stage (Phase T) T W) → is_to_tell_receive at ≤ is_to_tell_streams at
  more_told (Trying f y) = omega arith
  more_told (Working (TellReceive x)) = omega arith
  more_told at = omega arith

  sending_more : (x : ChannelAsk T W) → IsSending x → (at : Stage (Phase T) T W) → counts_for_receives x at ≤ counts_for_streams x at
  sending_more (channel.TrySend m) h at = more_told at
  sending_more (channel.ForceSend m) h at = more_told at
  sending_more (channel.PollSend m k t) h at = more_told at
  sending_more x h at = absurd h

  turn_more : (x : ChannelAsk T W) → IsSending x → (turn : NextStep T W) → weigh_turn counts_for_receives x turn ≤ weigh_turn counts_for_streams x turn
  turn_more x h (Tries a y) = sending_more x h _
  turn_more x h (Works w) = sending_more x h _
  turn_more x h (Ends y kept) = omega arith

  module _ (q : Queue T) (ds : List (MarkedMoment T W)) (seen : List (Channel T W)) where
    goes_on : (x : ChannelAsk T W) (y : Purpose T W) (a : QueueAsk T) (m : QueueMark) (s t : queue.Stage T) → TriesFor x y a ds seen → ContinuesBy q a m s t
        → (number a s m q + counted x y a s ≤ length q.items + counted x y a t) × (counted x y a s ≤ counted x y a t)
    goes_on (channel.TrySend v) purpose.TrySend (ask.Push w) m s t h g = push_brings q w m s t g
    goes_on (channel.TrySend v) y a m s t h g = absurd h
    goes_on (channel.PollSend v k t') (purpose.Poll Sends key task) (ask.Push w) m s t h g = push_brings q w m s t g
    goes_on (channel.PollSend v k t') y a m s t h g = absurd h
    goes_on (channel.ForceSend v) purpose.ForceSend (ask.ForcePush w) m s t h g = force_brings q w m s t g
    goes_on (channel.ForceSend v) y a m s t h g = absurd h
    goes_on x y a m s t h g = let n = goes_no_more q a m s t (λ p. push_sends x y ds seen a h p) g in (omega (arith, n), omega arith)

    answers_on : (x : ChannelAsk T W) (y : Purpose T W) (a : QueueAsk T) (m : QueueMark) (r : QueueReply T) (s : queue.Stage T) → TriesFor x y a ds seen → AnswersTo q a m r s
        → counted x y a s ≤ weigh_turn counts_for_streams x (answered_next y r)
    answers_on (channel.TrySend v) y a m r s h g = let k = sending_keeps q ds seen (channel.TrySend v) tt y a m r s h g in let more = turn_more (channel.TrySend v) tt (answered_next y r) in omega (arith, k, more)
    answers_on (channel.PollSend v k' t') y a m r s h g = let k = sending_keeps q ds seen (channel.PollSend v k' t') tt y a m r s h g in let more = turn_more (channel.PollSend v k' t') tt (answered_next y r) in omega (arith, k, more)
    answers_on (channel.ForceSend v) y a m r s h g = let k = sending_keeps q ds seen (channel.ForceSend v) tt y a m r s h g in let more = turn_more (channel.ForceSend v) tt (answered_next y r) in omega (arith, k, more)
    answers_on x y a m r s h g = omega arith

  abbrev Paid : Channel T W → ChannelAsk T W → Stage (Phase T) T W → Effect T W → Option (Reply T) → Stage (Phase T) T W → Type 0
  Paid c x at e r s = Pays Streams NoneOrTold counts_for_streams HasInHand (λ z. ⊥) c x at e r s

  as_number : (c : Channel T W) (n : ℕ) → NoneOrTold c n → (length c.queue.items ≡ 0) ⊎ (1 ≤ n)
  as_number c n (inl none) = inl (ap length none)
  as_number c n (inr some) = inr some

  tried_pays : (c : Channel T W) (x : ChannelAsk T W) (f : Phase T) (y : Purpose T W) (m : QueueMark) (ds : List (MarkedMoment T W)) (seen : List (Channel T W)) (r : Option (Reply T)) (s : Stage (Phase T) T W)
      → TriesFor x y f.ask ds seen → How c f y m r s → Paid c x (Trying f y) (queued f m c) r s
  tried_pays c x f y m ds seen r s h (inl (f', goes, none, there)) n enough =
      let same = ap (λ (a : QueueAsk T). counts_for_streams x (Trying (record { ask = a; stage = f'.stage }) y)) goes.0 in
      let k = goes_on c.queue ds seen x y f.ask m f.stage f'.stage h goes.1 in
      let less = k.0 in
      let on = k.1 in
      let now = ap (λ (z : Option (Reply T)). left_over counts_for_streams x z s) none in
      let at = ap (λ (z : Stage (Phase T) T W). counts_for_streams x z) there in
      settled (marked f.ask (is_displaced f.stage) m c.queue).items (length c.queue.items) (counts_for_streams x (Trying f y)) (left_over counts_for_streams x r s) n
      (omega (arith, same, less, now, at)) (omega (arith, same, on, now, at)) (as_number c (counts_for_streams x (Trying f y) + n) enough)
  tried_pays c x f y m ds seen r s h (inr (reply, ans, turned)) n enough =
      let same = answers_same_number c.queue f.ask m reply f.stage ans in
      let k = answers_on c.queue ds seen x y f.ask m reply f.stage h ans in
      let now = turned_weighs counts_for_streams x (answered_next y reply) r s turned in
      settled (marked f.ask (is_displaced f.stage) m c.queue).items (length c.queue.items) (counts_for_streams x (Trying f y)) (left_over counts_for_streams x r s) n
      (omega (arith, same, k, now)) (omega (arith, k, now)) (as_number c (counts_for_streams x (Trying f y) + n) enough)

  -- ---- a step on a list

  works_on : (c : Channel T W) (x : ChannelAsk T W) (w : ListStep T W) (e : Effect T W) (r : Option (Reply T)) (s : Stage (Phase T) T W) (key : Key) → Moves c (Working w) e r s → Waits Streams key e.channel
      → counts_for_streams x (Working w) ≤ left_over counts_for_streams x r s
  works_on c x (TellReceive z) e r s key g w = let k = turned_weighs counts_for_streams x (Works (TellStreams z)) r s g.1 in omega (arith, k)
  works_on c x (TellStreams z) e r s key g w = absurd (subst (λ (z : Effect T W). Waits Streams key z.channel) g.0 w)
  works_on c x z e r s key g w = let none = if_none x in omega (arith, none)

  stream_pays : (c : Channel T W) (x : ChannelAsk T W) (at : Stage (Phase T) T W) (ds : List (MarkedMoment T W)) (seen : List (Channel T W)) (e : Effect T W) (r : Option (Reply T)) (s : Stage (Phase T) T W) (key : Key)
      → StageAt c x at ds seen → Moves c at e r s → Waits Streams key e.channel → Paid c x at e r s ⊎ ⊥
  stream_pays c x (Trying f y) ds seen e r s key st g w =
      inl (subst (λ (z : Effect T W). Paid c x (Trying f y) z r s) (sym g.effect) (tried_pays c x f y g.mark ds seen r s st.0 g.how))
  stream_pays c x (Working z) ds seen e r s key st g w =
      inl (λ n h. ⊎_elim (λ none. let same = worked_spares c z e r s g in inl (ap (λ (q : Queue T). q.items) same.0 ∙ none))
      (λ some. let on = works_on c x z e r s key g w in inr (omega (arith, some, on))) h)
  stream_pays c x (Finished kept) ds seen e r s key st g w = absurd st

  -- ---- a stream's own poll

  abbrev InHand : Key → Option (Reply T) → Stage (Phase T) T W → Type 0
  InHand key r s = GoesOn Streams NoneOrTold counts_for_streams HasInHand (λ z. ⊥) key r s

  abbrev InHandOr : Key → ChannelAsk T W → Effect T W → Option (Reply T) → Stage (Phase T) T W → Type 0
  InHandOr key x e r s = GoesOnOr Streams NoneOrTold counts_for_streams HasInHand (λ z. ⊥) key x e r s

  -- it has a message, or nothing is there
  popped : (c : Channel T W) (x : ChannelAsk T W) (f : Phase T) (key : Key) (task : W) (m : QueueMark) (r : Option (Reply T)) (s : Stage (Phase T) T W) (reply : QueueReply T) (st : queue.Stage T)
      → AnswersPop c.queue m reply st → Turned (stream_next reply (Some key) task) r s → InHandOr key x (queued f m c) r s
  popped c x f key task Nothing r s (answer.Pop (Ok w)) (taken v) h t = inl (t.0, subst (λ (z : Stage (Phase T) T W). HasInHand key z) (sym t.1) refl)
  popped c x f key task Nothing r s (answer.Pop (Err pop_error.Empty)) (trying b) h t = inr (λ n. inl h.1.0)
  popped c x f key task Nothing r s (answer.Pop (Err pop_error.Closed)) (trying b) h t = inr (λ n. inl h.1.0)
  popped c x f key task m r s reply st h t = absurd h

  polled : (c : Channel T W) (x : ChannelAsk T W) (f : Phase T) (k key : Key) (task : W) (m : QueueMark) (r : Option (Reply T)) (s : Stage (Phase T) T W)
      → f.ask ≡ ask.Pop → k ≡ key → How c f (purpose.Poll Streams (Some k) task) m r s → InHandOr key x (queued f m c) r s
  polled c x f k key task m r s pops same (inl (f', goes, none, there)) = inl (none, subst (λ (z : Stage (Phase T) T W). HasInHand key z) (sym there) same)
  polled c x f k key task m r s pops same (inr (reply, ans, turned)) =
      popped c x f key task m r s reply f.stage (subst (λ (a : QueueAsk T). AnswersTo c.queue a m reply f.stage) pops ans)
      (subst (λ (z : Key). Turned (stream_next reply (Some z) task) r s) same turned)

  keeps_in_hand : (c : Channel T W) (x : ChannelAsk T W) (at : Stage (Phase T) T W) (ds : List (MarkedMoment T W)) (seen : List (Channel T W)) (e : Effect T W) (r : Option (Reply T)) (s : Stage (Phase T) T W) (key : Key)
      → StageAt c x at ds seen → Moves c at e r s → Waits Streams key e.channel → WaitApart Streams c → HasInHand key at → InHandOr key x e r s
  keeps_in_hand c x (Trying f (purpose.Poll Streams (Some k) task)) ds seen e r s key st g w apart h =
      subst (λ (z : Effect T W). InHandOr key x z r s) (sym g.effect) (polled c x f k key task g.mark r s (poll_asks x Streams (Some k) task f.ask ds seen st.0) h g.how)
  keeps_in_hand c x (Working (TellSend z)) ds seen e r s key st g w apart h =
      let t = leaves_next z z.held (held_by Streams key) r s h g.1 in inl (t.0, subst (λ (at : Stage (Phase T) T W). HasInHand key at) (sym t.1) h)
  keeps_in_hand c x (Working (Leave z)) ds seen e r s key st g w apart h = absurd (has_left Streams key c z.held e h g.0 apart w)
  keeps_in_hand c x at ds seen e r s key st g w apart h = absurd h

  stream_comes : (c : Channel T W) (e : Effect T W) (r : Option (Reply T)) (s : Stage (Phase T) T W) (key : Key) → ComesIn Streams c e r s key → InHand key r s
  stream_comes c e r s key (waiting.Stream, task, at, t) = (t.0, subst (λ (z : Stage (Phase T) T W). HasInHand key z) (sym t.1) refl)
  stream_comes c e r s key (waiting.Send m, task, at, t) = absurd (let never : Sends ≡ Streams = at in cc)
  stream_comes c e r s key (waiting.Receive, task, at, t) = absurd (let never : Receives ≡ Streams = at in cc)
  stream_comes c e r s key (waiting.Closing, task, at, t) = absurd (let never : Closings ≡ Streams = at in cc)

  pub stream_ledger : Ledger {T = T} {W = W} Streams NoneOrTold counts_for_streams HasInHand (λ z. ⊥)
  stream_ledger = record { more = free_more NoMessages Tells HasInHand counts_for_streams; comes = stream_comes; keeps = keeps_in_hand; pays = stream_pays }
