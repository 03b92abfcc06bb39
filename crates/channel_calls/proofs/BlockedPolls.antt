-- The polls of a call that blocks: its tries are those of calls that don't wait, whichever task such a poll has.
use Rattle.std.proofs.Common.{◌≡◌, ℕ, zero, suc, Bool, true, false, List, Option, None, Some, is_some, Result, Ok, Err, IfErr, IfOk, MatchResult, refl, sym, ◌∙◌, ap, subst}
use Rattle.concurrent_queue.specs.Step.{mark_of}
use Rattle.concurrent_queue.specs.declared.call.QueueAsk.{QueueAsk}
use Rattle.concurrent_queue.specs.declared.call.QueueReply.{QueueReply}
use Rattle.concurrent_queue.specs.declared.call.QueueReply.TheVariants.{Push, Force, Pop, Close, Flag, Count, Cap}
use Rattle.concurrent_queue.specs.declared.error.PushError.TheVariants as push_error
use Rattle.concurrent_queue.specs.declared.error.PopError.TheVariants as pop_error
use Rattle.concurrent_queue.specs.declared.queue_call.QueueCall.{QueueCall}
use Rattle.concurrent_queue.specs.declared.cells.QueueForm.{QueueForm}
use Rattle.event_listener.specs.declared.error.ListenError.{ListenError}
use Rattle.event_listener.specs.declared.error.ListenError.TheVariants as listen_error
use Rattle.event_listener.specs.declared.key.Key.{Key}
use Rattle.futures.specs.declared.task.Poll.{Poll}
use Rattle.futures.specs.declared.task.Poll.TheVariants.{Ready}
use Rattle.channel_calls.specs.Answered.{sent_next, received_next, polled_next, over}
use Rattle.channel_calls.specs.Asks.{first}
use Rattle.channel_calls.specs.Blocks.{waiting_of, at_once, not_yet, poll_woken, still_waits, Looks, AnswersAtFirst, Listens, Blocks}
use Rattle.channel_calls.specs.Deeds.{Deed, stepped, inserted, taken_off}
use Rattle.channel_calls.specs.Listed.{pends}
use Rattle.channel_calls.specs.Marks.{mark_of_queue}
use Rattle.channel_calls.specs.Replies.{RefusesTrySend, ReplyAllowed, MayPoll}
use Rattle.channel_calls.specs.Tried.{polled, IsOver, sent_by, received_by, tried_turn, Comes}
use Rattle.channel_calls.specs.Turns.{line_of, message_of, leaving, nothing_kept, says, again, unlistened, refused_reply}
use Rattle.channel_calls.specs.Walks.{Takes, ChannelMakes, Leads, WalkedFrom, WalkedTo}
use Rattle.channel_calls.specs.declared.ask.ChannelAsk.{ChannelAsk}
use Rattle.channel_calls.specs.declared.ask.ChannelAsk.TheVariants as ask
use Rattle.channel_calls.specs.declared.blocked.Blocked.{Blocked}
use Rattle.channel_calls.specs.declared.blocked.Blocked.TheVariants.{Send, Receive}
use Rattle.channel_calls.specs.declared.error.RecvError.{RecvError}
use Rattle.channel_calls.specs.declared.error.Refused.{Refused}
use Rattle.channel_calls.specs.declared.error.Refused.TheVariants.{Plain, NoMemory, SerialsUsedUp}
use Rattle.channel_calls.specs.declared.error.TryRecvError.{TryRecvError}
use Rattle.channel_calls.specs.declared.error.TryRecvError.TheVariants as try_recv_error
use Rattle.channel_calls.specs.declared.error.TrySendError.{TrySendError}
use Rattle.channel_calls.specs.declared.error.TrySendError.TheVariants as try_send_error
use Rattle.channel_calls.specs.declared.mark.Mark.{Mark}
use Rattle.channel_calls.specs.declared.mark.Mark.TheVariants.{Nothing}
use Rattle.channel_calls.specs.declared.reply.Reply.{Reply}
use Rattle.channel_calls.specs.declared.reply.Reply.TheVariants as reply
use Rattle.channel_calls.specs.declared.stage.Purpose.{Purpose}
use Rattle.channel_calls.specs.declared.stage.Purpose.TheVariants as purpose
use Rattle.channel_calls.specs.declared.stage.Returned.{Returned}
use Rattle.channel_calls.specs.declared.stage.WaitList.{WaitList}
use Rattle.channel_calls.specs.declared.stage.WaitList.TheVariants.{Sends, Receives}
use Rattle.channel_calls.specs.declared.stage.Stage.{Stage}
use Rattle.channel_calls.specs.declared.stage.Stage.TheVariants.{Trying, Working, Finished}
use Rattle.channel_calls.specs.declared.stage.NextStep.{NextStep}
use Rattle.channel_calls.specs.declared.stage.NextStep.TheVariants.{Tries, Works, Ends}
use Rattle.channel_calls.specs.declared.stage.Waiting.{Waiting}
use Rattle.channel_calls.specs.declared.stage.Waiting.TheVariants as waiting
use Rattle.channel_calls.specs.declared.stage.ListStep.{ListStep}
use Rattle.channel_calls.specs.declared.stage.ListStep.TheVariants.{TellReceive, TellStreams, TellSend, Insert, Register, Leave}
use Rattle.channel_calls.specs.declared.whole.Completed.{Completed}
use Rattle.channel_calls.proofs.Listed.{TurnFair}
use Rattle.channel_calls.proofs.Walking.{leads_on}

module _ {T : Type 0} where
  abbrev as_sent : Option (Reply T) → Result Unit (Refused (TrySendError T) T)
  as_sent (Some (reply.TrySend r)) = r
  as_sent _ = Ok tt

  abbrev as_received : Result T TryRecvError → Option (Reply T) → Result T TryRecvError
  as_received z (Some (reply.TryRecv r)) = r
  as_received z _ = z

  abbrev unit_reply : Reply T
  unit_reply = reply.Unit

  abbrev empty_reply : Reply T
  empty_reply = reply.TryRecv (Err try_recv_error.Empty)

  abbrev closed_reply : Reply T
  closed_reply = reply.TryRecv (Err try_recv_error.Closed)

-- ---- ways of the machine put together
module _ {T W X : Type 0} (did : Deed T W → X → X → Type 0) where
  pub comes_ends : (turn : NextStep T W) (s : X) (r : Reply T) (kept : Returned T) (t : X) → Comes did turn s (Ends r kept) t → WalkedFrom did turn s r kept t
  comes_ends turn s r kept t (a, takes, n, x, b, m, leads, made) = (a, takes, (n, x, b, m, Finished kept, leads, made (Finished kept) (Some r) (refl, refl), refl))

  pub comes_before : (turn : NextStep T W) (s : X) (w : ListStep T W) (t : X) → Comes did turn s (Works w) t
      → (a : Stage (QueueCall T) T W) × Takes turn a None × (n : ℕ) × Leads did n s a t (Working w)
  comes_before turn s w t (a, takes, n, x, b, m, leads, made) = (a, takes, suc n, leads_on did n s a x b m t (Working w) leads (made (Working w) None (refl, refl)))

  -- a step on a list after it
  pub comes_on : (turn : NextStep T W) (s x : X) (w : ListStep T W) (then : NextStep T W) (k : Mark) (t : X) → Comes did turn s (Works w) x
      → ((next : Stage (QueueCall T) T W) (r : Option (Reply T)) → Takes then next r → ChannelMakes did (Working w) x t k next r) → Comes did turn s then t
  comes_on turn s x w then k t way step =
      let before = comes_before turn s w x way in
      (before.0, before.1, before.2, x, Working w, k, before.3, step)

  joined : (n : ℕ) (s : X) (a : Stage (QueueCall T) T W) (x : X) (b : Stage (QueueCall T) T W) (l : ℕ) (t : X) (c : Stage (QueueCall T) T W)
      → Leads did n s a x b → Leads did l x b t c → (k : ℕ) × Leads did k s a t c
  joined zero s a x b l t c (e, f) rest =
      (l, subst (λ (z : Stage (QueueCall T) T W). Leads did l s z t c) f (subst (λ (z : X). Leads did l z b t c) e rest))
  joined (suc n) s a x b l t c (y, d, k, made, on) rest =
      let w = joined n y d x b l t c on rest in
      (suc w.0, (y, d, k, made, w.1))

  -- a further call of the queue after it
  pub comes_then : (turn : NextStep T W) (s x : X) (q : QueueAsk T) (a : Purpose T W) (then : NextStep T W) (t : X) → Comes did turn s (Tries q a) x → Comes did (Tries q a) x then t → Comes did turn s then t
  comes_then turn s x q a then t (b, takes, n, y, c, m, leads, made) (d, begins, l, z, e, k, on, makes) =
      let way = joined (suc n) s b x d l z e (leads_on did n s b y c m x d leads (made d None begins)) on in
      (b, takes, way.0, z, e, k, way.1, makes)

-- ---- a send that doesn't wait
module _ {T W X : Type 0} (did : Deed T W → X → X → Type 0) (key : Option Key) (task : W) where
  abbrev Way : X → QueueCall T → NextStep T W → X → Type 0
  Way s call then t =
      (n : ℕ) × (x : X) × (b : Stage (QueueCall T) T W) × (m : Mark) × Leads did n s (Trying call (purpose.Poll Sends key task)) x b
      × ((next : Stage (QueueCall T) T W) (r : Option (Reply T)) → Takes then next r → ChannelMakes did b x t m next r)

  abbrev SentTurn : Result Unit (Refused (TrySendError T) T) → NextStep T W
  SentTurn r = tried_turn Sends (sent_by r) key task

  same_turn : (r q : Result Unit (Refused (TrySendError T) T)) → Some (reply.TrySend r) ≡ Some (reply.TrySend q) → SentTurn q ≡ SentTurn r
  same_turn r q e = sym (ap (λ (o : Option (Reply T)). SentTurn (as_sent o)) e)

  sent_last : (y : QueueReply T) (c : Stage (QueueCall T) T W) (r : Result Unit (Refused (TrySendError T) T)) → Takes (sent_next y) c (Some (reply.TrySend r)) → polled_next Sends y key task ≡ SentTurn r
  sent_last (Push (Ok u)) c r (some, at) = absurd (let never : Some (reply.TrySend r) ≡ None = some in cc)
  sent_last (Push (Err (push_error.Full m))) c r (some, at) = same_turn r _ some
  sent_last (Push (Err (push_error.Closed m))) c r (some, at) = same_turn r _ some
  sent_last (Push (Err (push_error.NoMemory m))) c r (some, at) = same_turn r _ some
  sent_last (Force z) c r (some, at) = absurd (let never : Some (reply.TrySend r) ≡ Some reply.Unit = some in cc)
  sent_last (Pop z) c r (some, at) = absurd (let never : Some (reply.TrySend r) ≡ Some reply.Unit = some in cc)
  sent_last (Close z) c r (some, at) = absurd (let never : Some (reply.TrySend r) ≡ Some reply.Unit = some in cc)
  sent_last (Flag z) c r (some, at) = absurd (let never : Some (reply.TrySend r) ≡ Some reply.Unit = some in cc)
  sent_last (Count z) c r (some, at) = absurd (let never : Some (reply.TrySend r) ≡ Some reply.Unit = some in cc)
  sent_last (Cap z) c r (some, at) = absurd (let never : Some (reply.TrySend r) ≡ Some reply.Unit = some in cc)

  -- its queue's call answers by its last step
  sent_at_once : (s : X) (call : QueueCall T) (t : X) (m : Mark) (c : Stage (QueueCall T) T W) (r : Result Unit (Refused (TrySendError T) T))
      → ChannelMakes did (Trying call purpose.TrySend) s t m c (Some (reply.TrySend r)) → Way s call (SentTurn r) t
  sent_at_once s call t m c r (after, None, deed, mark, (at, some)) = absurd (let never : Some (reply.TrySend r) ≡ None = some in cc)
  sent_at_once s call t m c r (after, Some y, deed, mark, takes) =
      let e = sent_last y c r takes in (
        0,
        s,
        Trying call (purpose.Poll Sends key task),
        mark_of_queue (mark_of after),
        (refl, refl),
        λ next o there. (after, Some y, deed, refl, subst (λ (z : NextStep T W). Takes z next o) (sym e) there),
      )

  -- or has answered before, and whom the message is for is told
  sent_then : (s : X) (call after : QueueCall T) (u : Unit) (y : X) → did (stepped call after (Some (Push (Ok u)))) s y
      → (n : ℕ) (x : X) (b : Stage (QueueCall T) T W) (m : Mark) (t : X) (c : Stage (QueueCall T) T W) (r : Result Unit (Refused (TrySendError T) T))
      → Leads did n y (Working (TellReceive (says (reply.TrySend (Ok tt))))) x b → ChannelMakes did b x t m c (Some (reply.TrySend r)) → Way s call (SentTurn r) t
  sent_then s call after u y deed zero x b m t c r (e, f) made =
      let there : ChannelMakes did (Working (TellReceive (says (reply.TrySend (Ok tt))))) x t m c (Some (reply.TrySend r)) = subst (λ (z : Stage (QueueCall T) T W). ChannelMakes did z x t m c (Some (reply.TrySend r))) f made in
      absurd (let never : Some (reply.TrySend r) ≡ None = there.2.1.0 in cc)
  sent_then s call after u y deed (suc zero) x b m t c r (z, d, k, (names, one, (mark, (none, at))), (e, f)) made =
      let tells : Stage (QueueCall T) T W = Working (TellStreams (says (reply.TrySend (Ok tt)))) in
      let last : ChannelMakes did tells z t m c (Some (reply.TrySend r)) =
      subst (λ (w : X). ChannelMakes did tells w t m c (Some (reply.TrySend r))) e (subst (λ (w : Stage (QueueCall T) T W). ChannelMakes did w x t m c (Some (reply.TrySend r))) (f ∙ at) made)
      in
      let ended = over (reply.SendPoll (Ready (Ok tt))) None Sends key in
      let way : Way s call (SentTurn (Ok tt)) t = (
        2,
        z,
        Working (TellStreams ended),
        Nothing,
        (
          y,
          Working (TellReceive ended),
          mark_of_queue (mark_of after),
          (after, Some (Push (Ok u)), deed, refl, (refl, refl)),
          (z, Working (TellStreams ended), Nothing, (names, one, (refl, (refl, refl))), (refl, refl)),
        ),
        λ next o there. (last.0, last.1, (refl, there)),
      )
      in
      subst (λ (then : NextStep T W). Way s call then t) (same_turn r (Ok tt) last.2.1.0) way
  sent_then s call after u y deed (suc (suc n)) x b m t c r (z, d, k, (names, one, (mark, (none, at))), (w, g, j, second, rest)) made =
      let tells : Stage (QueueCall T) T W = Working (TellStreams (says (reply.TrySend (Ok tt)))) in
      let last : ChannelMakes did tells z w j g None = subst (λ (w' : Stage (QueueCall T) T W). ChannelMakes did w' z w j g None) at second in
      absurd (let never : None ≡ Some (reply.TrySend (Ok tt)) = last.2.1.0 in cc)

  -- what led on from this call
  sent_led : (s : X) (call after : QueueCall T) (y : QueueReply T) (z : X) → did (stepped call after (Some y)) s z
      → (n : ℕ) (x : X) (b : Stage (QueueCall T) T W) (m : Mark) (t : X) (c d : Stage (QueueCall T) T W) (r : Result Unit (Refused (TrySendError T) T))
      → Takes (sent_next y) d None → Leads did n z d x b → ChannelMakes did b x t m c (Some (reply.TrySend r)) → Way s call (SentTurn r) t
  sent_led s call after (Push (Ok u)) z deed n x b m t c d r (none, at) leads made =
      sent_then s call after u z deed n x b m t c r (subst (λ (w : Stage (QueueCall T) T W). Leads did n z w x b) at leads) made
  sent_led s call after (Push (Err (push_error.Full v))) z deed n x b m t c d r (none, at) leads made = absurd (let never : None ≡ Some (reply.TrySend _) = none in cc)
  sent_led s call after (Push (Err (push_error.Closed v))) z deed n x b m t c d r (none, at) leads made = absurd (let never : None ≡ Some (reply.TrySend _) = none in cc)
  sent_led s call after (Push (Err (push_error.NoMemory v))) z deed n x b m t c d r (none, at) leads made = absurd (let never : None ≡ Some (reply.TrySend _) = none in cc)
  sent_led s call after (Force y) z deed n x b m t c d r (none, at) leads made = absurd (let never : None ≡ Some unit_reply = none in cc)
  sent_led s call after (Pop y) z deed n x b m t c d r (none, at) leads made = absurd (let never : None ≡ Some unit_reply = none in cc)
  sent_led s call after (Close y) z deed n x b m t c d r (none, at) leads made = absurd (let never : None ≡ Some unit_reply = none in cc)
  sent_led s call after (Flag y) z deed n x b m t c d r (none, at) leads made = absurd (let never : None ≡ Some unit_reply = none in cc)
  sent_led s call after (Count y) z deed n x b m t c d r (none, at) leads made = absurd (let never : None ≡ Some unit_reply = none in cc)
  sent_led s call after (Cap y) z deed n x b m t c d r (none, at) leads made = absurd (let never : None ≡ Some unit_reply = none in cc)

  sent_way : (n : ℕ) (s : X) (call : QueueCall T) (x : X) (b : Stage (QueueCall T) T W) (m : Mark) (t : X) (c : Stage (QueueCall T) T W) (r : Result Unit (Refused (TrySendError T) T))
      → Leads did n s (Trying call purpose.TrySend) x b → ChannelMakes did b x t m c (Some (reply.TrySend r)) → Way s call (SentTurn r) t
  sent_way zero s call x b m t c r (e, f) made =
      sent_at_once s call t m c r
      (subst (λ (w : X). ChannelMakes did (Trying call purpose.TrySend) w t m c (Some (reply.TrySend r))) e (subst (λ (w : Stage (QueueCall T) T W). ChannelMakes did w x t m c (Some (reply.TrySend r))) f made))
  sent_way (suc n) s call x b m t c r (y, d, k, (after, None, deed, mark, (at, none)), rest) made =
      let way = sent_way n y after x b m t c r (subst (λ (w : Stage (QueueCall T) T W). Leads did n y w x b) at rest) made in
      (suc way.0, way.1, way.2, way.3, (y, Trying after (purpose.Poll Sends key task), mark_of_queue (mark_of after), (after, None, deed, refl, (refl, refl)), way.4), way.5)
  sent_way (suc n) s call x b m t c r (y, d, k, (after, Some z, deed, mark, takes), rest) made = sent_led s call after z y deed n x b m t c d r takes rest made

  pub sends : (v : T) (s t : X) (r : Result Unit (Refused (TrySendError T) T)) → WalkedTo did (first (ask.TrySend v)) s (reply.TrySend r) t
      → Comes did (again (waiting.Send v) key task) s (tried_turn Sends (sent_by r) key task) t
  sends v s t r (kept, (a, (call, starts, asks, none, is), (n, x, b, m, c, leads, made, k))) =
      let way = sent_way n s call x b m t c r (subst (λ (w : Stage (QueueCall T) T W). Leads did n s w x b) is leads) made in
      (Trying call (purpose.Poll Sends key task), (call, starts, asks, refl, refl), way.0, way.1, way.2, way.3, way.4, way.5)

-- ---- a receive that doesn't wait
module _ {T W X : Type 0} (did : Deed T W → X → X → Type 0) (key : Option Key) (task : W) where
  abbrev Path : X → QueueCall T → NextStep T W → X → Type 0
  Path s call then t =
      (n : ℕ) × (x : X) × (b : Stage (QueueCall T) T W) × (m : Mark) × Leads did n s (Trying call (purpose.Poll Receives key task)) x b
      × ((next : Stage (QueueCall T) T W) (r : Option (Reply T)) → Takes then next r → ChannelMakes did b x t m next r)

  abbrev GotTurn : Result T TryRecvError → NextStep T W
  GotTurn r = tried_turn Receives (received_by r) key task

  like_turn : (r q : Result T TryRecvError) → Some (reply.TryRecv r) ≡ Some (reply.TryRecv q) → GotTurn q ≡ GotTurn r
  like_turn r q e = sym (ap (λ (o : Option (Reply T)). GotTurn (as_received r o)) e)

  got_last : (y : QueueReply T) (c : Stage (QueueCall T) T W) (r : Result T TryRecvError) → Takes (received_next y) c (Some (reply.TryRecv r)) → polled_next Receives y key task ≡ GotTurn r
  got_last (Pop (Ok v)) c r (some, at) = absurd (let never : Some (reply.TryRecv r) ≡ None = some in cc)
  got_last (Pop (Err pop_error.Empty)) c r (some, at) = like_turn r _ some
  got_last (Pop (Err pop_error.Closed)) c r (some, at) = like_turn r _ some
  got_last (Push z) c r (some, at) = absurd (let never : Some (reply.TryRecv r) ≡ Some reply.Unit = some in cc)
  got_last (Force z) c r (some, at) = absurd (let never : Some (reply.TryRecv r) ≡ Some reply.Unit = some in cc)
  got_last (Close z) c r (some, at) = absurd (let never : Some (reply.TryRecv r) ≡ Some reply.Unit = some in cc)
  got_last (Flag z) c r (some, at) = absurd (let never : Some (reply.TryRecv r) ≡ Some reply.Unit = some in cc)
  got_last (Count z) c r (some, at) = absurd (let never : Some (reply.TryRecv r) ≡ Some reply.Unit = some in cc)
  got_last (Cap z) c r (some, at) = absurd (let never : Some (reply.TryRecv r) ≡ Some reply.Unit = some in cc)

  got_at_once : (s : X) (call : QueueCall T) (t : X) (m : Mark) (c : Stage (QueueCall T) T W) (r : Result T TryRecvError)
      → ChannelMakes did (Trying call purpose.TryRecv) s t m c (Some (reply.TryRecv r)) → Path s call (GotTurn r) t
  got_at_once s call t m c r (after, None, deed, mark, (at, some)) = absurd (let never : Some (reply.TryRecv r) ≡ None = some in cc)
  got_at_once s call t m c r (after, Some y, deed, mark, takes) =
      let e = got_last y c r takes in (
        0,
        s,
        Trying call (purpose.Poll Receives key task),
        mark_of_queue (mark_of after),
        (refl, refl),
        λ next o there. (after, Some y, deed, refl, subst (λ (z : NextStep T W). Takes z next o) (sym e) there),
      )

  got_then : (s : X) (call after : QueueCall T) (v : T) (y : X) → did (stepped call after (Some (Pop (Ok v)))) s y
      → (n : ℕ) (x : X) (b : Stage (QueueCall T) T W) (m : Mark) (t : X) (c : Stage (QueueCall T) T W) (r : Result T TryRecvError)
      → Leads did n y (Working (TellSend (says (reply.TryRecv (Ok v))))) x b → ChannelMakes did b x t m c (Some (reply.TryRecv r)) → Path s call (GotTurn r) t
  got_then s call after v y deed zero x b m t c r (e, f) made =
      let tells : Stage (QueueCall T) T W = Working (TellSend (says (reply.TryRecv (Ok v)))) in
      let last : ChannelMakes did tells y t m c (Some (reply.TryRecv r)) =
      subst (λ (w : X). ChannelMakes did tells w t m c (Some (reply.TryRecv r))) e (subst (λ (w : Stage (QueueCall T) T W). ChannelMakes did w x t m c (Some (reply.TryRecv r))) f made)
      in
      let ended = over (reply.RecvPoll (Ready (Ok v))) None Receives key in
      let way : Path s call (GotTurn (Ok v)) t = (
        1,
        y,
        Working (TellSend ended),
        Nothing,
        (y, Working (TellSend ended), mark_of_queue (mark_of after), (after, Some (Pop (Ok v)), deed, refl, (refl, refl)), (refl, refl)),
        λ next o there. (last.0, last.1, (refl, there)),
      )
      in
      subst (λ (then : NextStep T W). Path s call then t) (like_turn r (Ok v) last.2.1.0) way
  got_then s call after v y deed (suc n) x b m t c r (z, d, k, (names, one, (mark, (none, at))), rest) made =
      absurd (let never : None ≡ Some (reply.TryRecv (Ok v)) = none in cc)

  got_led : (s : X) (call after : QueueCall T) (y : QueueReply T) (z : X) → did (stepped call after (Some y)) s z
      → (n : ℕ) (x : X) (b : Stage (QueueCall T) T W) (m : Mark) (t : X) (c d : Stage (QueueCall T) T W) (r : Result T TryRecvError)
      → Takes (received_next y) d None → Leads did n z d x b → ChannelMakes did b x t m c (Some (reply.TryRecv r)) → Path s call (GotTurn r) t
  got_led s call after (Pop (Ok v)) z deed n x b m t c d r (none, at) leads made =
      got_then s call after v z deed n x b m t c r (subst (λ (w : Stage (QueueCall T) T W). Leads did n z w x b) at leads) made
  got_led s call after (Pop (Err pop_error.Empty)) z deed n x b m t c d r (none, at) leads made = absurd (let never : None ≡ Some (empty_reply) = none in cc)
  got_led s call after (Pop (Err pop_error.Closed)) z deed n x b m t c d r (none, at) leads made = absurd (let never : None ≡ Some (closed_reply) = none in cc)
  got_led s call after (Push y) z deed n x b m t c d r (none, at) leads made = absurd (let never : None ≡ Some unit_reply = none in cc)
  got_led s call after (Force y) z deed n x b m t c d r (none, at) leads made = absurd (let never : None ≡ Some unit_reply = none in cc)
  got_led s call after (Close y) z deed n x b m t c d r (none, at) leads made = absurd (let never : None ≡ Some unit_reply = none in cc)
  got_led s call after (Flag y) z deed n x b m t c d r (none, at) leads made = absurd (let never : None ≡ Some unit_reply = none in cc)
  got_led s call after (Count y) z deed n x b m t c d r (none, at) leads made = absurd (let never : None ≡ Some unit_reply = none in cc)
  got_led s call after (Cap y) z deed n x b m t c d r (none, at) leads made = absurd (let never : None ≡ Some unit_reply = none in cc)

  got_way : (n : ℕ) (s : X) (call : QueueCall T) (x : X) (b : Stage (QueueCall T) T W) (m : Mark) (t : X) (c : Stage (QueueCall T) T W) (r : Result T TryRecvError)
      → Leads did n s (Trying call purpose.TryRecv) x b → ChannelMakes did b x t m c (Some (reply.TryRecv r)) → Path s call (GotTurn r) t
  got_way zero s call x b m t c r (e, f) made =
      got_at_once s call t m c r
      (subst (λ (w : X). ChannelMakes did (Trying call purpose.TryRecv) w t m c (Some (reply.TryRecv r))) e (subst (λ (w : Stage (QueueCall T) T W). ChannelMakes did w x t m c (Some (reply.TryRecv r))) f made))
  got_way (suc n) s call x b m t c r (y, d, k, (after, None, deed, mark, (at, none)), rest) made =
      let way = got_way n y after x b m t c r (subst (λ (w : Stage (QueueCall T) T W). Leads did n y w x b) at rest) made in
      (suc way.0, way.1, way.2, way.3, (y, Trying after (purpose.Poll Receives key task), mark_of_queue (mark_of after), (after, None, deed, refl, (refl, refl)), way.4), way.5)
  got_way (suc n) s call x b m t c r (y, d, k, (after, Some z, deed, mark, takes), rest) made = got_led s call after z y deed n x b m t c d r takes rest made

  pub receives : (s t : X) (r : Result T TryRecvError) → WalkedTo did (first ask.TryRecv) s (reply.TryRecv r) t
      → Comes did (again waiting.Receive key task) s (tried_turn Receives (received_by r) key task) t
  receives s t r (kept, (a, (call, starts, asks, none, is), (n, x, b, m, c, leads, made, k))) =
      let way = got_way n s call x b m t c r (subst (λ (w : Stage (QueueCall T) T W). Leads did n s w x b) is leads) made in
      (Trying call (purpose.Poll Receives key task), (call, starts, asks, refl, refl), way.0, way.1, way.2, way.3, way.4, way.5)

-- ---- what a try says beside
module _ {T W X : Type 0} (did : Deed T W → X → X → Type 0) (v : T) (bounded : Bool) (s t : X) where
  pub sent_looked : (r : Result Unit (Refused (TrySendError T) T)) → IfErr r (λ e. RefusesTrySend bounded v e) → WalkedTo did (first (ask.TrySend v)) s (reply.TrySend r) t
      → IfErr (sent_by r) (λ left. WalkedTo did (first (at_once (Send v))) s (not_yet (Send v)) t)
  sent_looked (Ok u) h walk = tt
  sent_looked (Err (Plain (try_send_error.Full m))) h walk = subst (λ (z : T). WalkedTo did (first (ask.TrySend v)) s (reply.TrySend (Err (Plain (try_send_error.Full z)))) t) h.0 walk
  sent_looked (Err (Plain (try_send_error.Closed m))) h walk = tt
  sent_looked (Err (NoMemory m)) h walk = tt
  sent_looked (Err (SerialsUsedUp m)) h walk = tt

module _ {T W X : Type 0} (did : Deed T W → X → X → Type 0) (s t : X) where
  pub got_looked : (r : Result T TryRecvError) → WalkedTo did (first ask.TryRecv) s (reply.TryRecv r) t
      → IfErr (received_by r) (λ left. WalkedTo did (first (at_once Receive)) s (not_yet Receive) t)
  got_looked (Ok v) walk = tt
  got_looked (Err try_recv_error.Empty) walk = walk
  got_looked (Err try_recv_error.Closed) walk = tt

-- the same of a call and an answer by other names
module _ {T W X : Type 0} (did : Deed T W → X → X → Type 0) (b c : Blocked T) (is : b ≡ c) (o q : Result (Completed T) (Blocked T)) (same : o ≡ q) (s t : X) where
  pub tried_as : (key : Option Key) (task : W) → Comes did (again (waiting_of c) key task) s (tried_turn (line_of (waiting_of c)) q key task) t
      → Comes did (again (waiting_of b) key task) s (tried_turn (line_of (waiting_of b)) o key task) t
  tried_as key task h =
      subst (λ (z : Blocked T). Comes did (again (waiting_of z) key task) s (tried_turn (line_of (waiting_of z)) o key task) t) (sym is)
      (subst (λ (z : Result (Completed T) (Blocked T)). Comes did (again (waiting_of c) key task) s (tried_turn (line_of (waiting_of c)) z key task) t) (sym same) h)

  pub looked_as : IfErr q (λ left. WalkedTo did (first (at_once c)) s (not_yet c) t) → IfErr o (λ left. WalkedTo did (first (at_once b)) s (not_yet b) t)
  looked_as h =
      subst (λ (z : Blocked T). IfErr o (λ left. WalkedTo did (first (at_once z)) s (not_yet z) t)) (sym is)
      (subst (λ (z : Result (Completed T) (Blocked T)). IfErr z (λ left. WalkedTo did (first (at_once c)) s (not_yet c) t)) (sym same) h)

-- ---- a look before a call that blocks
module _ {T W X : Type 0} (did : Deed T W → X → X → Type 0) (b : Blocked T) (s x : X) (look : let a : ChannelAsk T W = at_once b in WalkedTo did (first a) s (not_yet b) x) where
  looks_on : (n : ℕ) (t : X) → Looks did n b x t → Looks did (suc n) b s t
  looks_on zero t e = (s, refl, subst (λ (z : X). let a : ChannelAsk T W = at_once b in WalkedTo did (first a) s (not_yet b) z) (sym e) look)
  looks_on (suc n) t (y, path, last) = (y, looks_on n y path, last)

  pub blocks_on : (asked : Option W → X → X → Type 0) (slept : X → X → Type 0) (r : Reply T) (kept : Returned T) (t : X) → Blocks did asked slept b x r kept t → Blocks did asked slept b s r kept t
  blocks_on asked slept r kept t (n, y, path, on) = (suc n, y, looks_on n y path, on)

-- ---- a first poll
module _ {T W X : Type 0} (did : Deed T W → X → X → Type 0) (b : Blocked T) where
  abbrev pub TriesSo : X → Result (Completed T) (Blocked T) → X → Type 0
  TriesSo s o t = (key : Option Key) (task : W) → Comes did (again (waiting_of b) key task) s (tried_turn (line_of (waiting_of b)) o key task) t

  with_kept : (turn : NextStep T W) (s : X) (given : Completed T) (t : X) → given.kept.key ≡ None → WalkedFrom did turn s given.reply (leaving None given.kept.message) t → WalkedFrom did turn s given.reply given.kept t
  with_kept turn s given t none walk = subst (λ (k : Option Key). WalkedFrom did turn s given.reply (leaving k given.kept.message) t) (sym none) walk

  pub begun_over : (s : X) (given : Completed T) (t : X) → IsOver b given → TriesSo s (Ok given) t → AnswersAtFirst did b s given.reply given.kept t
  begun_over s given t is tried task =
      let turn = again (waiting_of b) None task in
      with_kept turn s given t is.2 (comes_ends did turn s given.reply (leaving None given.kept.message) t (tried None task))

  -- it was refused, and tries to listen
  waited : (s : X) (left : Blocked T) (x : X) → left ≡ b → TriesSo s (Err left) x → (task : W) → Comes did (again (waiting_of b) None task) s (Works (Insert (waiting_of b) task)) x
  waited s left x same tried task = subst (λ (l : Blocked T). Comes did (again (waiting_of b) None task) s (Works (Insert (waiting_of l) task)) x) same (tried None task)

  module _ (s : X) (left : Blocked T) (x : X) (same : left ≡ b) (tried : TriesSo s (Err left) x) where
    pub begun_unheard : (e : ListenError) (t : X) → did (inserted (line_of (waiting_of b)) (Err e)) x t
        → (task : W) → Comes did (again (waiting_of b) None task) s (unlistened (waiting_of b) e) t
    begun_unheard e t deed task =
        comes_on did (again (waiting_of b) None task) s x (Insert (waiting_of b) task) (unlistened (waiting_of b) e) Nothing t (waited s left x same tried task)
        (λ next r takes. (Err e, deed, (refl, takes)))

    listed : (key : Key) (y : X) → did (inserted (line_of (waiting_of b)) (Ok key)) x y → (task : W) → Comes did (again (waiting_of b) None task) s (again (waiting_of b) (Some key) task) y
    listed key y deed task =
        comes_on did (again (waiting_of b) None task) s x (Insert (waiting_of b) task) (again (waiting_of b) (Some key) task) Nothing y (waited s left x same tried task)
        (λ next r takes. (Ok key, deed, (refl, takes)))

    module _ (key : Key) (y : X) (deed : did (inserted (line_of (waiting_of b)) (Ok key)) x y) (o : Result (Completed T) (Blocked T)) (z : X) (again_tried : TriesSo y o z) where
      both : (task : W) → Comes did (again (waiting_of b) None task) s (tried_turn (line_of (waiting_of b)) o (Some key) task) z
      both task =
          comes_then did (again (waiting_of b) None task) s y _ _ (tried_turn (line_of (waiting_of b)) o (Some key) task) z (listed key y deed task) (again_tried (Some key) task)

      pub begun_left : (given : Completed T) (names : List W) (t : X) → o ≡ Ok given → IsOver b given → did (taken_off (line_of (waiting_of b)) key names) z t → AnswersAtFirst did b s given.reply given.kept t
      begun_left given names t is done off task =
          let turn = again (waiting_of b) None task in
          let ended = over given.reply given.kept.message (line_of (waiting_of b)) (Some key) in
          let way : Comes did turn s (Works (Leave ended)) z = subst (λ (q : Result (Completed T) (Blocked T)). Comes did turn s (tried_turn (line_of (waiting_of b)) q (Some key) task) z) is (both task) in
          let last : Comes did turn s (Ends given.reply (leaving None given.kept.message)) t =
          comes_on did turn s z (Leave ended) (Ends given.reply (leaving None given.kept.message)) Nothing t way (λ next r takes. ((names, off), (refl, takes)))
          in
          with_kept turn s given t done.2 (comes_ends did turn s given.reply (leaving None given.kept.message) t last)

      pub begun_listens : (last : Blocked T) → o ≡ Err last → last ≡ b → Listens did b s key z
      begun_listens last is alike task =
          let turn = again (waiting_of b) None task in
          let there : Comes did turn s (Works (Register (waiting_of last) key task)) z = subst (λ (q : Result (Completed T) (Blocked T)). Comes did turn s (tried_turn (line_of (waiting_of b)) q (Some key) task) z) is (both task) in
          comes_before did turn s (Register (waiting_of b) key task) z (subst (λ (l : Blocked T). Comes did turn s (Works (Register (waiting_of l) key task)) z) alike there)

-- ---- a poll that registers first
module _ {T : Type 0} (b : Blocked T) (given : Completed T) where
  abbrev pub Says : Result (Completed T) (Blocked T × Key) → Type 0
  Says o = MatchResult o (λ over. (over ≡ given) × IsOver b over) (λ left. (left.0 ≡ b) × (given ≡ still_waits b left.1))

  pub still_same : (o : Result (Completed T) (Blocked T × Key)) → Says o → IfErr o (λ left. left.0 ≡ b)
  still_same (Ok over) h = tt
  still_same (Err left) h = h.0

  pub still_over : (o : Result (Completed T) (Blocked T × Key)) → Says o → IfOk o (λ over. IsOver b over)
  still_over (Ok over) h = h.1
  still_over (Err left) h = tt

module _ {T W X : Type 0} (did : Deed T W → X → X → Type 0) (b : Blocked T) where
  abbrev pub Told : Completed T → Result (Completed T) (Blocked T × Key) → Type 0
  Told given o = MatchResult o (λ over. (over ≡ given) × IsOver b over) (λ left. (left.0 ≡ b) × (given ≡ still_waits b left.1))

  pub still_walked : (turn : NextStep T W) (s : X) (given : Completed T) (t : X) (o : Result (Completed T) (Blocked T × Key)) → Told given o → WalkedFrom did turn s given.reply given.kept t
      → MatchResult o (λ over. WalkedFrom did turn s over.reply over.kept t) (λ left. WalkedFrom did turn s (still_waits b left.1).reply (still_waits b left.1).kept t)
  still_walked turn s given t (Ok over) (same, is) walk = subst (λ (z : Completed T). WalkedFrom did turn s z.reply z.kept t) (sym same) walk
  still_walked turn s given t (Err left) (same, is) walk = subst (λ (z : Completed T). WalkedFrom did turn s z.reply z.kept t) is walk

-- ---- a poll that asks its listener first, and one that is refused its task
module _ {T : Type 0} (W : Type 0) where
  pub woken_fair : (b : Blocked T) (key : Key) (task : W) → TurnFair (first (poll_woken b key task))
  woken_fair (Send v) key task = tt
  woken_fair Receive key task = tt

  pub woken_may : (f : QueueForm) (b : Blocked T) (key : Key) (task : W) (r : Reply T) (m : Option T) → ReplyAllowed f (poll_woken b key task) r m → MayPoll (waiting_of b) r m
  woken_may f (Send v) key task r m may = may
  woken_may f Receive key task r m may = may

  pub leaves_fair : (b : Blocked T) (key : Key) → TurnFair {W = W} (first (ask.RefusePoll (line_of (waiting_of b)) (message_of (waiting_of b)) (Some key)))
  leaves_fair (Send v) key = refl
  leaves_fair Receive key = refl

pub no_key : (key : Option Key) → is_some key ≡ false → key ≡ None
no_key None e = refl
no_key (Some k) e = absurd (let never : true ≡ false = e in cc)

module _ {T : Type 0} where
  refused_poll : (b : Blocked T) → MayPoll (waiting_of b) (refused_reply (line_of (waiting_of b)) listen_error.NoMemory) (message_of (waiting_of b)) × (pends (refused_reply {T = T} (line_of (waiting_of b)) listen_error.NoMemory) ≡ false)
  refused_poll (Send v) = (refl, refl)
  refused_poll Receive = (refl, refl)

  pub refused_over : (b : Blocked T) (given : Completed T) → given.reply ≡ refused_reply (line_of (waiting_of b)) listen_error.NoMemory → given.kept.message ≡ message_of (waiting_of b)
      → is_some given.kept.key ≡ pends given.reply → IsOver b given
  refused_over b given is left lists =
      let ready : pends given.reply ≡ false = ap (λ (r : Reply T). pends r) is ∙ (refused_poll b).1 in
      let may : MayPoll (waiting_of b) given.reply given.kept.message =
      subst (λ (r : Reply T). MayPoll (waiting_of b) r given.kept.message) (sym is)
      (subst (λ (m : Option T). MayPoll (waiting_of b) (refused_reply (line_of (waiting_of b)) listen_error.NoMemory) m) (sym left) (refused_poll b).0)
      in
      (may, ready, no_key given.kept.key (lists ∙ ready))

-- ---- a first poll that was refused its listener
module _ {T : Type 0} where
  pub unheard_over : (b : Blocked T) (e : ListenError) → IsOver b (polled (refused_reply (line_of (waiting_of b)) e) (message_of (waiting_of b)))
  unheard_over (Send v) listen_error.NoMemory = (refl, refl, refl)
  unheard_over (Send v) listen_error.SerialsUsedUp = (refl, refl, refl)
  unheard_over Receive e = (refl, refl, refl)

  pub unheard_given : (b left : Blocked T) → left ≡ b → (e : ListenError) (line : WaitList) → line ≡ line_of (waiting_of left) → (w : Waiting T) → w ≡ waiting_of left
      → (m : Option T) → m ≡ message_of w → (r : Reply T) → r ≡ refused_reply line e → (given : Completed T) → given ≡ polled r m
      → given ≡ polled (refused_reply (line_of (waiting_of b)) e) (message_of (waiting_of b))
  unheard_given b left same e line line_is w w_is m m_is r r_is given is =
      let message : m ≡ message_of (waiting_of b) = m_is ∙ ap (λ (z : Waiting T). message_of z) (w_is ∙ ap (λ (z : Blocked T). waiting_of z) same) in
      let answer : r ≡ refused_reply (line_of (waiting_of b)) e = r_is ∙ ap (λ (z : WaitList). refused_reply z e) (line_is ∙ ap (λ (z : Blocked T). line_of (waiting_of z)) same) in
      is ∙ ap (λ (z : Reply T). polled z m) answer ∙ ap (λ (z : Option T). polled (refused_reply (line_of (waiting_of b)) e) z) message

  -- ---- what is left of a call that is over
  pub left_of : (b : Blocked T) (given : Completed T) → IsOver b given → given.kept ≡ leaving None given.kept.message
  left_of b given is = ap (λ (k : Option Key). leaving k given.kept.message) is.2

  nothing_left : (r : Reply T) (p : Poll (Result T (Refused RecvError Unit))) → r ≡ reply.RecvPoll p → (m : Option T) → MayPoll waiting.Receive r m → m ≡ None
  nothing_left r p is m may = subst (λ (z : Reply T). MayPoll waiting.Receive z m) is may

  pub received_left : (given : Completed T) (p : Poll (Result T (Refused RecvError Unit))) → given.reply ≡ reply.RecvPoll p → IsOver Receive given → given.kept ≡ nothing_kept
  received_left given p is done = left_of Receive given done ∙ ap (λ (m : Option T). leaving None m) (nothing_left given.reply p is given.kept.message done.0)
