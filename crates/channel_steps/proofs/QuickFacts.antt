-- Quick calls end within eight steps.
use Rattle.std.proofs.Common.{◌≡◌, ℕ, ◌<◌, ◌≤◌, ◌==◌, Bool, true, false, if◌then◌else◌, List, Option, None, Some, ◌⊎◌, inl, inr, refl, sym, ap, subst, arith}
use Rattle.channel_steps.proofs.Words.{Phase, trying, read, ContinuesBy, QueueAsk, QueueMark, Nothing, QueueReply, Key, asked_next, closed_next, terminated_next, answered_next, Channel, Effect, Turned, Worked, Moves, count, leaving, closer_ending, dropper, ends_by, told_all_next, lowered_next, ChannelAsk, Reply, Purpose, Closer, Ending, ListenerRef, WaitList, Sends, Closings, Making, Side, Stage, Trying, Working, Finished, NextStep, Tries, Works, Ends, Waiting, ListStep, TellReceive, TellStreams, TellSend, TellSends, TakeRoom, TellAll, Insert, Register, Leave, Lower, Count, Load, Raise, MarkedMoment, IsFor, Makes, WorkAt, StageAt, IsQuick, left_to_try, left_to_tell, quick_left_to_work, quick_steps_left}
use Rattle.concurrent_queue.specs.Queue as queue
use Rattle.concurrent_queue.specs.declared.call.QueueAsk.TheVariants as ask
use Rattle.concurrent_queue.specs.declared.call.QueueReply.TheVariants as answer
use Rattle.channel_calls.specs.declared.ask.ChannelAsk.TheVariants as channel
use Rattle.channel_calls.specs.declared.stage.Purpose.TheVariants as purpose
use Rattle.channel_steps.proofs.SuitFacts.{IsQuickTry, IsQuickAim, quick_try}

module _ {T : Type 0} where
  some_to_try : (a : QueueAsk T) (s : queue.Stage T) → 0 < left_to_try a s
  some_to_try ask.IsEmpty (read n) = omega arith
  some_to_try ask.IsFull (read n) = omega arith
  some_to_try a s = omega arith

  few_to_try : (a : QueueAsk T) (s : queue.Stage T) → left_to_try a s ≤ 7
  few_to_try ask.IsEmpty (read n) = omega arith
  few_to_try ask.IsFull (read n) = omega arith
  few_to_try a s = omega arith

  at_count : (a : QueueAsk T) (k : ℕ) (s t : queue.Stage T) → t ≡ s → left_to_try a s < k → left_to_try a t < k
  at_count a k s t e h = subst (λ (z : queue.Stage T). left_to_try a z < k) (sym e) h

  quick_goes : (q : queue.Queue T) (a : QueueAsk T) (m : QueueMark) (s t : queue.Stage T) → IsQuickTry a → ContinuesBy q a m s t → left_to_try a t < left_to_try a s
  quick_goes q ask.IsEmpty Nothing (trying b) t h g = at_count ask.IsEmpty 2 (read q.removed) t g (omega arith)
  quick_goes q ask.IsFull Nothing (trying b) t h g = at_count ask.IsFull 2 (read q.accepted) t g.0 (omega arith)
  quick_goes q (ask.Push v) m s t h g = absurd h
  quick_goes q (ask.ForcePush v) m s t h g = absurd h
  quick_goes q ask.Pop m s t h g = absurd h
  quick_goes q ask.Len m s t h g = absurd h
  quick_goes q a m s t h g = absurd g

module _ {T W : Type 0} where
  abbrev left_after : NextStep T W → ℕ
  left_after (Tries a y) = left_to_try a (trying false)
  left_after (Works w) = quick_left_to_work w
  left_after (Ends y kept) = 0

  turned_left : (turn : NextStep T W) (s : Stage (Phase T) T W) → Turned turn None s → quick_steps_left s ≡ left_after turn
  turned_left (Tries a y) s h = ap (λ (z : Stage (Phase T) T W). quick_steps_left z) h.1
  turned_left (Works w) s h = ap (λ (z : Stage (Phase T) T W). quick_steps_left z) h.1
  turned_left (Ends y kept) s h = absurd (let no : None ≡ Some y = h.0 in cc)

module _ {T : Type 0} (W : Type 0) where
  held_left : (e : Ending T) (o : Option ListenerRef) → left_after (let t : NextStep T W = elim o [ None ↦ Ends e.reply (leaving None e.message) | Some held ↦ Works (Leave e) ] in t) ≤ 1
  held_left e None = omega arith
  held_left e (Some h) = omega arith

  ended_left : (e : Ending T) → left_after (let t : NextStep T W = ends_by e in t) ≤ 1
  ended_left e = held_left e e.held

  asked_left : (r : QueueReply T) → left_after (let t : NextStep T W = asked_next r in t) ≡ 0
  asked_left (answer.Flag b) = refl
  asked_left r = refl

  closed_left : (r : QueueReply T) (y : Closer) → left_after (let t : NextStep T W = closed_next r y in t) < 6
  closed_left (answer.Close true) y = omega arith
  closed_left (answer.Close false) y = let h : left_after (let t : NextStep T W = ends_by (closer_ending y false) in t) ≤ 1 = ended_left (closer_ending y false) in omega (arith, h)
  closed_left r y = omega arith

  terminated_left : (r : QueueReply T) → left_after (let t : NextStep T W = terminated_next r in t) < 3
  terminated_left (answer.Flag true) = omega arith
  terminated_left r = omega arith

  asked_less : (a : QueueAsk T) (s : queue.Stage T) (r : QueueReply T) → left_after (let t : NextStep T W = asked_next r in t) < left_to_try a s
  asked_less a s r = subst (λ n. n < left_to_try a s) (sym (asked_left r)) (some_to_try a s)

module _ (T W : Type 0) where
  told_left : (line : WaitList) (y : Closer) → left_after (let t : NextStep T W = told_all_next line y in t) < left_to_tell line
  told_left Closings y = let h : left_after (let t : NextStep T W = ends_by (closer_ending y true) in t) ≤ 1 = ended_left W (closer_ending y true) in omega (arith, h)
  told_left w y = omega arith

  lowered_left : (b : Bool) (side : Side) (key : Option Key) → left_after (let t : NextStep T W = (if b then Tries ask.Close (purpose.Close (dropper side key)) else ends_by (closer_ending (dropper side key) false)) in t) < 7
  lowered_left true side key = omega arith
  lowered_left false side key = let h : left_after (let t : NextStep T W = ends_by (closer_ending (dropper side key) false) in t) ≤ 1 = ended_left W (closer_ending (dropper side key) false) in omega (arith, h)

some_to_tell : (line : WaitList) → 0 < left_to_tell line
some_to_tell Sends = omega arith
some_to_tell line = omega arith

few_to_tell : (line : WaitList) → left_to_tell line ≤ 7
few_to_tell Sends = omega arith
few_to_tell line = omega arith

module _ {T W : Type 0} where
  quick_answers : (y : Purpose T W) (a : QueueAsk T) (s : queue.Stage T) (r : QueueReply T) → IsQuickAim y a → left_after (answered_next y r) < left_to_try a s
  quick_answers (purpose.Close c) ask.Close s r h = closed_left W r c
  quick_answers purpose.IsTerminated ask.IsClosed s r h = terminated_left W r
  quick_answers purpose.Ask a s r h = asked_less W a s r
  quick_answers y a s r h = absurd h

  never_for : (x : ChannelAsk T W) (w : Waiting T) → IsFor x w → IsQuick x → ⊥
  never_for (channel.PollSend m k t) w h q = q
  never_for (channel.PollRecv k t) w h q = q
  never_for (channel.PollNext k t) w h q = q
  never_for (channel.PollClosed k t) w h q = q
  never_for x w h q = absurd h

  never_makes : (x : ChannelAsk T W) (side : Side) (m : Making) (seen : List (Channel T W)) → Makes x side m seen → IsQuick x → ⊥
  never_makes (channel.CloneHandle s) side m seen h q = q
  never_makes (channel.Upgrade s) side m seen h q = q
  never_makes x side m seen h q = absurd h

  abbrev Less : ListStep T W → NextStep T W → Type 0
  Less w turn = left_after turn < quick_left_to_work w

  step_less : (w : ListStep T W) (turn : NextStep T W) (s : Stage (Phase T) T W) → Turned turn None s → Less w turn → quick_steps_left s < quick_left_to_work w
  step_less w turn s t h = subst (λ n. n < quick_left_to_work w) (sym (turned_left turn s t)) h

  ends_less : (w : ListStep T W) (e : Ending T) → 1 < quick_left_to_work w → Less w (ends_by e)
  ends_less w e h = let k : left_after (let t : NextStep T W = ends_by e in t) ≤ 1 = ended_left W e in omega (arith, h, k)

  quick_works : (c : Channel T W) (x : ChannelAsk T W) (w : ListStep T W) (e : Effect T W) (s : Stage (Phase T) T W) (ds : List (MarkedMoment T W)) (seen : List (Channel T W)) → WorkAt x w ds seen → IsQuick x → Worked c w e None s
      → quick_steps_left s < quick_left_to_work w
  quick_works c x (TellReceive y) e s ds seen h q g = step_less (TellReceive y) (Works (TellStreams y)) s g.1 (omega arith)
  quick_works c x (TellStreams y) e s ds seen h q g = step_less (TellStreams y) (ends_by y) s g.1 (ends_less (TellStreams y) y (omega arith))
  quick_works c x (TellSend y) e s ds seen h q g = step_less (TellSend y) (ends_by y) s g.1 (ends_less (TellSend y) y (omega arith))
  quick_works c x (TellSends n y) e s ds seen h q g = step_less (TellSends n y) (ends_by y) s g.1 (ends_less (TellSends n y) y (omega arith))
  quick_works c x (TakeRoom n) e s ds seen h q g = absurd (subst (λ (z : ChannelAsk T W). IsQuick z) h.0 q)
  quick_works c x (TellAll line y) e s ds seen h q g = step_less (TellAll line y) (told_all_next line y) s g.1 (told_left T W line y)
  quick_works c x (Insert w task) e s ds seen h q g = absurd (never_for x w h.0 q)
  quick_works c x (Register w key task) e s ds seen h q g = absurd (never_for x w h.0 q)
  quick_works c x (Leave y) e s ds seen h q g = absurd (let no : None ≡ Some y.reply = g.1.0 in cc)
  quick_works c x (Lower side key) e s ds seen h q g = step_less (Lower side key) (lowered_next side key (count side c.wait_lists)) s g.1 (lowered_left T W (count side c.wait_lists == 1) side key)
  quick_works c x (Count side) e s ds seen h q g = absurd (let no = g.1.0 in cc)
  quick_works c x (Load side m) e s ds seen h q g = absurd (never_makes x side m seen h.0 q)
  quick_works c x (Raise side n m) e s ds seen h q g = absurd (never_makes x side m seen h.0 q)

  pub quick_moves : (c : Channel T W) (x : ChannelAsk T W) (at : Stage (Phase T) T W) (e : Effect T W) (s : Stage (Phase T) T W) (ds : List (MarkedMoment T W)) (seen : List (Channel T W)) → StageAt c x at ds seen → IsQuick x → Moves c at e None s
      → quick_steps_left s < quick_steps_left at
  quick_moves c x (Trying f y) e s ds seen h q g = by_how g.how
    where
      by_how : ((f' : Phase T) × queue.Continues c.queue f g.mark f' × (let r : Option (Reply T) = None in r ≡ None) × (s ≡ Trying f' y)) ⊎ ((r : QueueReply T) × queue.Answers c.queue f g.mark r × Turned (answered_next y r) None s) → quick_steps_left s < left_to_try f.ask f.stage
      by_how (inl (f', goes, none, there)) =
          subst (λ (z : Stage (Phase T) T W). quick_steps_left z < left_to_try f.ask f.stage) (sym there)
          (subst (λ (a : QueueAsk T). left_to_try a f'.stage < left_to_try f.ask f.stage) (sym goes.0) (quick_goes c.queue f.ask g.mark f.stage f'.stage (quick_try x y ds seen f.ask h.0 q).0 goes.1))
      by_how (inr (r, answers, turned)) =
          subst (λ n. n < left_to_try f.ask f.stage) (sym (turned_left (answered_next y r) s turned)) (quick_answers y f.ask f.stage r (quick_try x y ds seen f.ask h.0 q).1)
  quick_moves c x (Working w) e s ds seen h q g = quick_works c x w e s ds seen h q g
  quick_moves c x (Finished kept) e s ds seen h q g = absurd h

  some_to_work : (w : ListStep T W) → 0 < quick_left_to_work w
  some_to_work (TellAll line y) = some_to_tell line
  some_to_work w = omega arith

  pub some_left : (c : Channel T W) (x : ChannelAsk T W) (at : Stage (Phase T) T W) (ds : List (MarkedMoment T W)) (seen : List (Channel T W)) → StageAt c x at ds seen → 0 < quick_steps_left at
  some_left c x (Trying f y) ds seen h = some_to_try f.ask f.stage
  some_left c x (Working w) ds seen h = some_to_work w
  some_left c x (Finished kept) ds seen h = absurd h

  few_to_work : (w : ListStep T W) → quick_left_to_work w ≤ 7
  few_to_work (TellAll line y) = few_to_tell line
  few_to_work w = omega arith

  pub few_left : (at : Stage (Phase T) T W) → quick_steps_left at ≤ 7
  few_left (Trying f y) = few_to_try f.ask f.stage
  few_left (Working w) = few_to_work w
  few_left (Finished kept) = omega arith
