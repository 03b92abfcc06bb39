-- The queue answers, and what is known of the call after that.
use Rattle.std.proofs.lemmas.List.{length-append}
use Rattle.std.proofs.Common.{append-nil, zero, suc, ◌≡◌, ℕ, ◌+◌, ◌<◌, ◌≤◌, ◌==◌, true, false, List, [], ◌∷◌, ◌++◌, length, Option, None, Some, Ok, Err, ◌⊎◌, ⊎_elim, inl, inr, refl, sym, ap, ◌∙◌, subst, arith}
use Rattle.channel_steps.proofs.Words.{trying, appended, taken, read, measured, is_full_at, AnswersTo, QueueAsk, QueueMark, Nothing, Close, QueueReply, Key, gathered_next, short_next, closed_next, answered_next, mark_of_queue, down, Channel, leaving, closer_ending, ChannelAsk, Mark, TryRecvError, with_last, Purpose, Returned, Sends, Receives, Streams, Closings, Side, Senders, Receivers, NextStep, AnswersClose, Push, Force, Pop, Flag, Cap, over, hands_out, SeveralRow, Ready, MarkedMoment, with_marked, Open, HasRoom, HasMessage, is_empty, Once, Appended, Took, TookAll, RanOut, Drained, Replaced, Displaced, LeftLast, TriesFor, HasTaken, AreBehind, TriesAt, all_from, IsBalanced, Telling, one_of, more_of, all_of, owed_for, owed_takings, with_taking, takings, owed_besides, owed}
use Rattle.concurrent_queue.specs.Queue as queue
use Rattle.concurrent_queue.specs.declared.call.QueueAsk.TheVariants as ask
use Rattle.concurrent_queue.specs.declared.call.QueueReply.TheVariants.{Count}
use Rattle.concurrent_queue.specs.declared.call.QueueReply.TheVariants as answer
use Rattle.concurrent_queue.specs.declared.error.PushError.TheVariants as push_error
use Rattle.concurrent_queue.specs.declared.error.ForcePushError.TheVariants as force_error
use Rattle.concurrent_queue.specs.declared.error.PopError.TheVariants as pop_error
use Rattle.channel_calls.specs.declared.ask.ChannelAsk.TheVariants as channel
use Rattle.channel_calls.specs.declared.error.Refused.TheVariants as refused
use Rattle.channel_calls.specs.declared.error.TryRecvError.TheVariants as try_recv_error
use Rattle.channel_calls.specs.declared.reply.Reply.TheVariants as reply
use Rattle.channel_calls.specs.declared.stage.Purpose.TheVariants as purpose
use Rattle.channel_calls.specs.declared.stage.Closer.TheVariants as closer
use Rattle.channel_steps.proofs.TryFacts.{ne_of, refusal_seen, full_once, unbounded_once, open_once, next_channel, behind_more}
use Rattle.channel_steps.proofs.TurnFacts.{TurnAt, owes_nothing, ended}

-- what a message owes
abbrev pub news : List Telling
news = one_of Receives ∷ all_of Streams ∷ []

module _ {T W : Type 0} where
  -- ---- what marks owe

  owed_appended : (ds : List (MarkedMoment T W)) → Appended ds → news ≡ owed ds
  owed_appended (d ∷ []) h = sym (ap (λ m. owed_takings (with_taking m 0) ++ (owed_for m ++ [])) h.0)
  owed_appended x h = absurd h

  owed_replaced : (ds : List (MarkedMoment T W)) (v : T) → Replaced ds v → news ≡ owed ds
  owed_replaced (d ∷ []) v h = sym (ap (λ m. owed_takings (with_taking m 0) ++ (owed_for m ++ [])) h.0)
  owed_replaced x v h = absurd h

  owed_displaced : (ds : List (MarkedMoment T W)) (v : T) → Displaced ds v → news ≡ owed ds
  owed_displaced (d ∷ e ∷ []) v h =
      sym (ap (λ m. owed_takings (with_taking m (with_taking e.mark 0)) ++ (owed_for m ++ (owed_for e.mark ++ []))) h.0.0 ∙ ap (λ m. owed_takings (with_taking m 0) ++ (owed_for m ++ [])) h.1)
  owed_displaced x v h = absurd h

  owed_took : (ds : List (MarkedMoment T W)) (v : T) → Took ds v → (let one : List Telling = one_of Sends ∷ [] in one) ≡ owed ds
  owed_took (d ∷ []) v h = sym (ap (λ m. owed_takings (with_taking m 0) ++ (owed_for m ++ [])) h.0)
  owed_took x v h = absurd h

  -- several takings, one after another
  took_more : (ds : List (MarkedMoment T W)) (vs : List T) (mine : List (MarkedMoment T W)) (v : T) → TookAll ds vs → Took mine v → TookAll (ds ++ mine) (vs ++ v ∷ [])
  took_more [] [] (d ∷ []) v h k = (k.0, k.1, tt)
  took_more [] (w ∷ ws) mine v h k = absurd h
  took_more (d ∷ ds) [] mine v h k = absurd h
  took_more (d ∷ ds) (w ∷ ws) mine v h k = (h.0, h.1, took_more ds ws mine v h.2 k)
  took_more x y mine v h k = absurd k

  took_none : (ds : List (MarkedMoment T W)) → TookAll ds [] → ds ≡ []
  took_none [] h = refl
  took_none (d ∷ ds) h = absurd h

  takings_all : (ds : List (MarkedMoment T W)) (vs : List T) → TookAll ds vs → takings ds ≡ length vs
  takings_all [] [] h = refl
  takings_all (d ∷ ds) (v ∷ vs) h = ap (λ m. with_taking m (takings ds)) h.0 ∙ ap (λ n. suc n) (takings_all ds vs h.2)
  takings_all x y h = absurd h

  besides_all : (ds : List (MarkedMoment T W)) (vs : List T) → TookAll ds vs → owed_besides ds ≡ []
  besides_all [] [] h = refl
  besides_all (d ∷ ds) (v ∷ vs) h = ap (λ m. owed_for m ++ owed_besides ds) h.0 ∙ besides_all ds vs h.2
  besides_all x y h = absurd h

  owed_all : (ds : List (MarkedMoment T W)) (vs : List T) → 0 < length vs → TookAll ds vs → more_of (length vs) Sends ∷ [] ≡ owed ds
  owed_all ds [] some h = absurd (omega arith)
  owed_all ds (v ∷ vs) some h =
      sym (ap (λ n. owed_takings n ++ owed_besides ds) (takings_all ds (v ∷ vs) h) ∙ ap (λ ts. owed_takings (length (v ∷ vs)) ++ ts) (besides_all ds (v ∷ vs) h))

  ran_out : (d : MarkedMoment T W) (ds : List (MarkedMoment T W)) (c : Channel T W) (seen : List (Channel T W)) → AreBehind (d ∷ ds) seen → Drained c → RanOut (d ∷ ds) (c ∷ seen)
  ran_out d [] c seen b h = (c ∷ b.0.0, ap (λ (cs : List (Channel T W)). c ∷ cs) b.0.1, inl h)
  ran_out d (e ∷ ds) c seen b h = ran_out e ds c seen b.1 h

  ran_out_of : (ds : List (MarkedMoment T W)) (v : T) (vs : List T) (c : Channel T W) (seen : List (Channel T W)) → TookAll ds (v ∷ vs) → AreBehind ds seen → Drained c → RanOut ds (c ∷ seen)
  ran_out_of [] v vs c seen t b h = absurd t
  ran_out_of (d ∷ ds) v vs c seen t b h = ran_out d ds c seen b h

  once_map : (P Q : Channel T W → Type 0) → ((c : Channel T W) → P c → Q c) → (seen : List (Channel T W)) → Once P seen → Once Q seen
  once_map P Q f [] h = absurd h
  once_map P Q f (c ∷ cs) (inl h) = inl (f c h)
  once_map P Q f (c ∷ cs) (inr h) = inr (once_map P Q f cs h)

  module _ (c : Channel T W) (seen : List (Channel T W)) where
    -- what is known once the turn after an answer is taken; nobody has been told before
    abbrev pub Then : ChannelAsk T W → QueueAsk T → queue.Stage T → QueueMark → List (MarkedMoment T W) → NextStep T W → Type 0
    Then x a st m ds turn = TurnAt (next_channel a st m c) x [] (with_marked ds (mark_of_queue m) c seen) (next_channel a st m c ∷ seen) turn

    -- ---- several receives at once

    handed : (n : ℕ) (ds : List (MarkedMoment T W)) (vs : List T) → 0 < length vs → TookAll ds vs → (length vs ≡ n) ⊎ ((length vs < n) × RanOut ds (c ∷ seen))
        → TurnAt c (channel.RecvMany n) [] ds (c ∷ seen) (hands_out vs)
    handed n ds vs some took full = ((([], c ∷ seen, refl, (took, full)), refl), owed_all ds vs some took)

    gathered : (n k : ℕ) (vs : List T) (v : T) (ds mine : List (MarkedMoment T W)) → n ≡ length vs + (k + 1) → HasTaken vs ds mine seen → Took mine v
        → TurnAt c (channel.RecvMany n) [] ds (c ∷ seen) (gathered_next (with_last (vs ++ v ∷ []) k))
    gathered n k vs v ds mine e t took = by k e where
      all : TookAll ds (vs ++ v ∷ [])
      all = subst (λ (xs : List (MarkedMoment T W)). TookAll xs (vs ++ v ∷ [])) (sym t.all) (took_more t.before vs mine v t.took took)

      by : (k : ℕ) → n ≡ length vs + (k + 1) → TurnAt c (channel.RecvMany n) [] ds (c ∷ seen) (gathered_next (with_last (vs ++ v ∷ []) k))
      by zero e =
          let l = length-append vs (v ∷ []) in
          handed n ds (vs ++ v ∷ []) (omega (arith, l)) all (inl (omega (arith, l, e)))
      by (suc k) e =
          let l = length-append vs (v ∷ []) in
          ((omega (arith, l, e), ([], record { before = ds; all = sym (append-nil ds); took = all; behind = behind_more ds seen c t.behind }, refl)), refl)

    short : (n k : ℕ) (vs : List T) (ds mine : List (MarkedMoment T W)) → n ≡ length vs + (k + 1) → HasTaken vs ds mine seen → mine ≡ [] → (e : TryRecvError) → Drained c
        → (ds ≡ [] → SeveralRow n ds (c ∷ seen) (reply.RecvMany (Err (refused.Plain e)))) → TurnAt c (channel.RecvMany n) [] ds (c ∷ seen) (short_next vs e)
    short n k vs ds mine e t none error gone row = by vs e t.took where
      same : ds ≡ t.before
      same = t.all ∙ (ap (λ (xs : List (MarkedMoment T W)). t.before ++ xs) none ∙ append-nil t.before)

      by : (vs : List T) → n ≡ length vs + (k + 1) → TookAll t.before vs → TurnAt c (channel.RecvMany n) [] ds (c ∷ seen) (short_next vs error)
      by [] e took = let empty : ds ≡ [] = same ∙ took_none t.before took in ((([], c ∷ seen, refl, row empty), refl), owes_nothing ds empty)
      by (v ∷ vs) e took =
          let all : TookAll ds (v ∷ vs) = subst (λ (xs : List (MarkedMoment T W)). TookAll xs (v ∷ vs)) (sym same) took in
          handed n ds (v ∷ vs) (omega arith) all (inr (omega (arith, e), ran_out_of ds v vs c seen all t.behind gone))

    -- ---- closing

    closed_none : (m : QueueMark) (r : QueueReply T) (st : queue.Stage T) → AnswersClose c.queue m r st → Then channel.Close ask.Close st m [] (closed_next r closer.Call)
    closed_none Close (answer.Close true) (trying b) h = ((([], _, refl, (refl, h)), refl), refl)
    closed_none Nothing (answer.Close false) (trying b) h = ((([], c ∷ seen, refl, (refl, inl h)), refl), refl)
    closed_none m r st h = absurd h

    owed_last : (side : Side) (m : Mark) → m ≡ down side → (ts : List Telling) → ts ≡ owed_takings (with_taking m 0) ++ (owed_for m ++ ts)
    owed_last Senders m e ts = sym (ap (λ x. owed_takings (with_taking x 0) ++ (owed_for x ++ ts)) e)
    owed_last Receivers m e ts = sym (ap (λ x. owed_takings (with_taking x 0) ++ (owed_for x ++ ts)) e)

    sender_left : (ds : List (MarkedMoment T W)) → LeftLast Senders ds seen → (m : QueueMark) (r : QueueReply T) (st : queue.Stage T) → AnswersClose c.queue m r st → Then channel.DropSender ask.Close st m ds (closed_next r closer.Sender)
    sender_left (d ∷ []) l Close (answer.Close true) (trying b) h = ((([], _, refl, ((l.0, l.1, refl, h), refl)), refl), owed_last Senders d.mark l.0 (all_from Sends))
    sender_left (d ∷ []) l Nothing (answer.Close false) (trying b) h =
        ((([], c ∷ seen, refl, ((l.0, inr (c ∷ l.2, ap (λ (cs : List (Channel T W)). c ∷ cs) l.3, inl h)), refl)), refl), owed_last Senders d.mark l.0 [])
    sender_left (d ∷ []) l m r st h = absurd h
    sender_left x l m r st h = absurd l

    receiver_left : (k key : Option Key) (ds : List (MarkedMoment T W)) → LeftLast Receivers ds seen → (m : QueueMark) (r : QueueReply T) (st : queue.Stage T) → AnswersClose c.queue m r st
        → Then (channel.DropReceiver k) ask.Close st m ds (closed_next r (closer.Receiver key))
    receiver_left k key (d ∷ []) l Close (answer.Close true) (trying b) h = ((([], _, refl, ((l.0, l.1, refl, h), refl)), refl), owed_last Receivers d.mark l.0 (all_from Sends))
    receiver_left k key (d ∷ []) l Nothing (answer.Close false) (trying b) h =
        ended c (channel.DropReceiver k) [] (d ∷ []) (c ∷ seen) (closer_ending (closer.Receiver key) false)
        (([], c ∷ seen, refl, ((l.0, inr (c ∷ l.2, ap (λ (cs : List (Channel T W)). c ∷ cs) l.3, inl h)), refl)), refl) (owed_last Receivers d.mark l.0 [])
    receiver_left k key (d ∷ []) l m r st h = absurd h
    receiver_left k key x l m r st h = absurd l

    -- ---- questions

    none_there : c.queue.items ≡ [] → is_empty c ≡ true
    none_there e = ap (λ (xs : List T). length xs == 0) e

    some_there : (n : ℕ) → n < c.queue.accepted → Once HasMessage seen ⊎ (c.queue.accepted ≤ n) → Once HasMessage (c ∷ seen)
    some_there n h (inl k) = inr k
    some_there n h (inr k) = absurd (omega arith)

    room_there : (n cap : ℕ) → c.queue.capacity ≡ Some cap → n < c.queue.removed + cap → IsBalanced c.queue → Once HasRoom seen ⊎ (c.queue.accepted ≡ n) → Once HasRoom (c ∷ seen)
    room_there n cap e k b (inl h) = inr h
    room_there n cap e k b (inr h) =
        let b' : length c.queue.items + c.queue.removed ≡ c.queue.accepted = b in
        let short : (length c.queue.items == cap) ≡ false = ne_of (length c.queue.items) cap (λ same. absurd (omega (arith, same, h, k, b'))) in
        inl (subst (λ (o : Option ℕ). is_full_at o c.queue.items ≡ false) (sym e) short)

    -- ---- by what the call asks, and what its queue's call is made for

    pub answered : (ds : List (MarkedMoment T W)) → IsBalanced c.queue → (x : ChannelAsk T W) (y : Purpose T W) (a : QueueAsk T) (m : QueueMark) (r : QueueReply T) (st : queue.Stage T)
        → TriesFor x y a ds seen → TriesAt c y a st ds seen → AnswersTo c.queue a m r st → Then x a st m ds (answered_next y r)
    answered ds bal (channel.TrySend msg) purpose.TrySend (ask.Push v) Nothing (Push (Ok u)) (appended None) e ev h = ((([], c ∷ seen, refl, ev), refl), owed_appended ds ev)
    answered ds bal (channel.TrySend msg) purpose.TrySend (ask.Push v) Nothing (Push (Err (push_error.Full w))) (trying b) e ev h = ((([], c ∷ seen, refl, (h.0 ∙ e, ev.0, full_once c.queue.capacity c.queue.items (c ∷ seen) h.1 (refusal_seen b c seen ev.1 h.2))), refl), owes_nothing ds ev.0)
    answered ds bal (channel.TrySend msg) purpose.TrySend (ask.Push v) Nothing (Push (Err (push_error.Closed w))) (trying b) e ev h = ((([], c ∷ seen, refl, (h.0 ∙ e, ev.0, inl h.1)), refl), owes_nothing ds ev.0)
    answered ds bal (channel.TrySend msg) purpose.TrySend (ask.Push v) Nothing (Push (Err (push_error.NoMemory w))) (trying b) e ev h = ((([], c ∷ seen, refl, (h.0 ∙ e, ev.0, unbounded_once c.queue.capacity (c ∷ seen) h.1 (refusal_seen b c seen ev.1 h.2))), refl), owes_nothing ds ev.0)
    answered ds bal (channel.TrySend msg) purpose.TrySend (ask.Push v) m r st e ev h = absurd h
    answered ds bal (channel.ForceSend msg) purpose.ForceSend (ask.ForcePush v) Nothing (Force (Ok None)) (appended None) e ev h = ((([], c ∷ seen, refl, ev), refl), owed_appended ds ev)
    answered ds bal (channel.ForceSend msg) purpose.ForceSend (ask.ForcePush v) Nothing (Force (Ok None)) (appended (Some d)) e ev h = absurd (let no : None ≡ Some d = h in cc)
    answered ds bal (channel.ForceSend msg) purpose.ForceSend (ask.ForcePush v) Nothing (Force (Ok (Some w))) (appended None) e ev h = absurd (let no : Some w ≡ None = h in cc)
    answered ds bal (channel.ForceSend msg) purpose.ForceSend (ask.ForcePush v) Nothing (Force (Ok (Some w))) (appended (Some d)) e ev h =
        let same : Some w ≡ Some d = h in
        let k : w ≡ d = cc in
        ((([], c ∷ seen, refl, subst (λ (z : T). Replaced ds z ⊎ Displaced ds z) (sym k) ev), refl), ⊎_elim (λ z. owed_replaced ds d z) (λ z. owed_displaced ds d z) ev)
    answered ds bal (channel.ForceSend msg) purpose.ForceSend (ask.ForcePush v) Nothing (Force (Err (force_error.Closed w))) (trying b) e ev h = ((([], c ∷ seen, refl, (h.0 ∙ e, ev.0, inl h.1)), refl), owes_nothing ds ev.0)
    answered ds bal (channel.ForceSend msg) purpose.ForceSend (ask.ForcePush v) Nothing (Force (Err (force_error.NoMemory w))) (trying b) e ev h = ((([], c ∷ seen, refl, (h.0 ∙ e, ev.0, unbounded_once c.queue.capacity (c ∷ seen) h.1 (refusal_seen b c seen ev.1 h.2))), refl), owes_nothing ds ev.0)
    answered ds bal (channel.ForceSend msg) purpose.ForceSend (ask.ForcePush v) m r st e ev h = absurd h
    answered ds bal channel.TryRecv purpose.TryRecv ask.Pop Nothing (Pop (Ok w)) (taken v) f ev h = ((([], c ∷ seen, refl, subst (λ (z : T). Took ds z) (sym h) ev), refl), owed_took ds v ev)
    answered ds bal channel.TryRecv purpose.TryRecv ask.Pop Nothing (Pop (Err pop_error.Empty)) (trying b) f ev h = ((([], c ∷ seen, refl, (ev, inl h)), refl), owes_nothing ds ev)
    answered ds bal channel.TryRecv purpose.TryRecv ask.Pop Nothing (Pop (Err pop_error.Closed)) (trying b) f ev h = ((([], c ∷ seen, refl, (ev, inl h)), refl), owes_nothing ds ev)
    answered ds bal channel.TryRecv purpose.TryRecv ask.Pop m r st f ev h = absurd h
    answered ds bal (channel.RecvMany n) (purpose.RecvMany g) ask.Pop Nothing (Pop (Ok w)) (taken v) e ev h = gathered n g.more g.taken w ds ev.0 e ev.1 (subst (λ (z : T). Took ev.0 z) (sym h) ev.2)
    answered ds bal (channel.RecvMany n) (purpose.RecvMany g) ask.Pop Nothing (Pop (Err pop_error.Empty)) (trying b) e ev h = short n g.more g.taken ds ev.0 e ev.1 ev.2 try_recv_error.Empty h.1 (λ none. (none, omega (arith, e), inl h))
    answered ds bal (channel.RecvMany n) (purpose.RecvMany g) ask.Pop Nothing (Pop (Err pop_error.Closed)) (trying b) e ev h = short n g.more g.taken ds ev.0 e ev.1 ev.2 try_recv_error.Closed h.1 (λ none. (none, omega (arith, e), inl h))
    answered ds bal (channel.RecvMany n) (purpose.RecvMany g) ask.Pop m r st e ev h = absurd h
    answered ds b channel.Close (purpose.Close closer.Call) ask.Close m r st f ev h =
        subst (λ (xs : List (MarkedMoment T W)). Then channel.Close ask.Close st m xs (closed_next r closer.Call)) (sym f) (closed_none m r st h)
    answered ds bal (channel.PollSend msg k t) (purpose.Poll Sends key task) (ask.Push v) Nothing (Push (Ok u)) (appended None) e ev h = ((([], c ∷ seen, refl, ev), refl), owed_appended ds ev)
    answered ds bal (channel.PollSend msg k t) (purpose.Poll Sends None task) (ask.Push v) Nothing (Push (Err (push_error.Full w))) (trying b) e ev h = ((h.0 ∙ e, ev.0, full_once c.queue.capacity c.queue.items (c ∷ seen) h.1 (refusal_seen b c seen ev.1 h.2)), owes_nothing ds ev.0)
    answered ds bal (channel.PollSend msg k t) (purpose.Poll Sends (Some key) task) (ask.Push v) Nothing (Push (Err (push_error.Full w))) (trying b) e ev h = ((h.0 ∙ e, ev.0, λ n. full_once c.queue.capacity c.queue.items (c ∷ seen) h.1 (refusal_seen b c seen ev.1 h.2)), owes_nothing ds ev.0)
    answered ds bal (channel.PollSend msg k t) (purpose.Poll Sends key task) (ask.Push v) Nothing (Push (Err (push_error.Closed w))) (trying b) e ev h =
        ended c (channel.PollSend msg k t) [] ds (c ∷ seen) (over (reply.SendPoll (Ready (Err (refused.Plain (record { 0 = w }))))) None Sends key)
        (([], c ∷ seen, refl, (h.0 ∙ e, ev.0, inl h.1)), refl) (owes_nothing ds ev.0)
    answered ds bal (channel.PollSend msg k t) (purpose.Poll Sends key task) (ask.Push v) Nothing (Push (Err (push_error.NoMemory w))) (trying b) e ev h =
        ended c (channel.PollSend msg k t) [] ds (c ∷ seen) (over (reply.SendPoll (Ready (Err (refused.NoMemory tt)))) (Some w) Sends key)
        (([], c ∷ seen, refl, (ev.0, open_once c.queue.capacity (c ∷ seen) (refusal_seen b c seen ev.1 h.2))), ap (λ (z : T). let kept : Returned T = leaving None (Some z) in kept) (h.0 ∙ e)) (owes_nothing ds ev.0)
    answered ds bal (channel.PollSend msg k t) (purpose.Poll Sends key task) (ask.Push v) m r st e ev h = absurd h
    answered ds bal (channel.PollRecv k t) (purpose.Poll Receives key task) ask.Pop Nothing (Pop (Ok w)) (taken v) f ev h = ((([], c ∷ seen, refl, subst (λ (z : T). Took ds z) (sym h) ev), refl), owed_took ds v ev)
    answered ds bal (channel.PollRecv k t) (purpose.Poll Receives None task) ask.Pop Nothing (Pop (Err pop_error.Empty)) (trying b) f ev h = ((tt, ev, inl h), owes_nothing ds ev)
    answered ds bal (channel.PollRecv k t) (purpose.Poll Receives (Some key) task) ask.Pop Nothing (Pop (Err pop_error.Empty)) (trying b) f ev h = ((tt, ev, λ n. inl h), owes_nothing ds ev)
    answered ds bal (channel.PollRecv k t) (purpose.Poll Receives key task) ask.Pop Nothing (Pop (Err pop_error.Closed)) (trying b) f ev h =
        ended c (channel.PollRecv k t) [] ds (c ∷ seen) (over (reply.RecvPoll (Ready (Err (refused.Plain (record {}))))) None Receives key) (([], c ∷ seen, refl, (ev, inl h)), refl) (owes_nothing ds ev)
    answered ds bal (channel.PollRecv k t) (purpose.Poll Receives key task) ask.Pop m r st f ev h = absurd h
    answered ds bal (channel.PollClosed k t) (purpose.Poll Closings key task) ask.IsClosed Nothing (Flag true) (trying b) f ev h =
        ended c (channel.PollClosed k t) [] ds (c ∷ seen) (over (reply.ClosedPoll (Ready (Ok tt))) None Closings key) (([], c ∷ seen, refl, (ev, inl h)), refl) (owes_nothing ds ev)
    answered ds bal (channel.PollClosed k t) (purpose.Poll Closings None task) ask.IsClosed Nothing (Flag false) (trying b) f ev h = ((tt, ev, inl h), owes_nothing ds ev)
    answered ds bal (channel.PollClosed k t) (purpose.Poll Closings (Some key) task) ask.IsClosed Nothing (Flag false) (trying b) f ev h = ((tt, ev, λ n. inl h), owes_nothing ds ev)
    answered ds bal (channel.PollClosed k t) (purpose.Poll Closings key task) ask.IsClosed m r st f ev h = absurd h
    answered ds bal (channel.PollNext k t) (purpose.Poll Streams key task) ask.Pop Nothing (Pop (Ok w)) (taken v) f ev h = ((([], c ∷ seen, refl, subst (λ (z : T). Took ds z) (sym h) ev), refl), owed_took ds v ev)
    answered ds bal (channel.PollNext k t) (purpose.Poll Streams None task) ask.Pop Nothing (Pop (Err pop_error.Empty)) (trying b) f ev h = ((tt, ev, tt), owes_nothing ds ev)
    answered ds bal (channel.PollNext k t) (purpose.Poll Streams (Some key) task) ask.Pop Nothing (Pop (Err pop_error.Empty)) (trying b) f ev h = ((tt, ev, λ n. tt), owes_nothing ds ev)
    answered ds bal (channel.PollNext k t) (purpose.Poll Streams key task) ask.Pop Nothing (Pop (Err pop_error.Closed)) (trying b) f ev h =
        ended c (channel.PollNext k t) [] ds (c ∷ seen) (over (reply.Next (Ready None)) None Streams key) (([], c ∷ seen, refl, (ev, inl h)), refl) (owes_nothing ds ev)
    answered ds bal (channel.PollNext k t) (purpose.Poll Streams key task) ask.Pop m r st f ev h = absurd h
    answered ds b channel.DropSender (purpose.Close closer.Sender) ask.Close m r st f ev h = sender_left ds f m r st h
    answered ds b (channel.DropReceiver k) (purpose.Close (closer.Receiver key)) ask.Close m r st f ev h = receiver_left k key ds f m r st h
    answered ds bal (channel.Upgrade side) (purpose.Upgrade s) ask.IsClosed Nothing (Flag true) (trying b) e ev h = ((([], c ∷ seen, refl, (ev, inl (inl h))), refl), owes_nothing ds ev)
    answered ds bal (channel.Upgrade side) (purpose.Upgrade s) ask.IsClosed Nothing (Flag false) (trying b) e ev h = (((e, inl h), ev), owes_nothing ds ev)
    answered ds bal (channel.Upgrade side) (purpose.Upgrade s) ask.IsClosed m r st e ev h = absurd h
    answered ds bal channel.IsClosed purpose.Ask ask.IsClosed Nothing (Flag f) (trying b) t ev h = ((([], c ∷ seen, refl, (ev, inl h)), refl), owes_nothing ds ev)
    answered ds bal channel.IsClosed purpose.Ask ask.IsClosed m r st f ev h = absurd h
    answered ds bal channel.IsEmpty purpose.Ask ask.IsEmpty Nothing (Flag f) (trying b) t ev h = ((([], c ∷ seen, refl, (ev, inl h)), refl), owes_nothing ds ev)
    answered ds bal channel.IsEmpty purpose.Ask ask.IsEmpty Nothing (Flag true) (read n) f ev h = ((([], c ∷ seen, refl, (ev.0, inl (none_there h))), refl), owes_nothing ds ev.0)
    answered ds bal channel.IsEmpty purpose.Ask ask.IsEmpty Nothing (Flag false) (read n) f ev h = ((([], c ∷ seen, refl, (ev.0, some_there n h ev.1)), refl), owes_nothing ds ev.0)
    answered ds bal channel.IsEmpty purpose.Ask ask.IsEmpty m r st f ev h = absurd h
    answered ds bal channel.IsFull purpose.Ask ask.IsFull Nothing (Flag f) (trying s) t ev h = ((([], c ∷ seen, refl, (ev, inl h)), refl), owes_nothing ds ev)
    answered ds bal channel.IsFull purpose.Ask ask.IsFull Nothing (Flag true) (read n) f ev h = ((([], c ∷ seen, refl, (ev.0, inl h)), refl), owes_nothing ds ev.0)
    answered ds bal channel.IsFull purpose.Ask ask.IsFull Nothing (Flag false) (read n) f ev h = ((([], c ∷ seen, refl, (ev.0, room_there n h.0 h.1 h.2 bal ev.2)), refl), owes_nothing ds ev.0)
    answered ds bal channel.IsFull purpose.Ask ask.IsFull m r st f ev h = absurd h
    answered ds bal channel.Len purpose.Ask ask.Len Nothing (Count n) (trying s) f ev h = ((([], c ∷ seen, refl, (ev, inl h)), refl), owes_nothing ds ev)
    answered ds bal channel.Len purpose.Ask ask.Len Nothing (Count n) (measured i k) f ev h =
        ((([], c ∷ seen, refl, (ev.0, inr (once_map (λ z. length z.queue.items ≡ k) (λ z. length z.queue.items ≡ n) (λ z e. e ∙ sym h.0) seen ev.1))), refl), owes_nothing ds ev.0)
    answered ds bal channel.Len purpose.Ask ask.Len m r st f ev h = absurd h
    answered ds bal channel.Capacity purpose.Ask ask.Capacity Nothing (Cap n) (trying s) f ev h = ((([], c ∷ seen, refl, (ev, inl (sym h))), refl), owes_nothing ds ev)
    answered ds bal channel.Capacity purpose.Ask ask.Capacity m r st f ev h = absurd h
    answered ds bal channel.IsTerminated purpose.IsTerminated ask.IsClosed Nothing (Flag true) (trying b) f ev h = ((inl h, ev), refl)
    answered ds bal channel.IsTerminated purpose.IsTerminated ask.IsClosed Nothing (Flag false) (trying b) f ev h = ((([], c ∷ seen, refl, (ev, inl (inl h))), refl), owes_nothing ds ev)
    answered ds bal channel.IsTerminated purpose.IsTerminated ask.IsClosed m r st f ev h = absurd h
    answered ds bal channel.IsTerminated purpose.Ask ask.IsEmpty Nothing (Flag true) (trying b) o ev h = ((([], c ∷ seen, refl, (ev, inl (h, inr o))), refl), owes_nothing ds ev)
    answered ds bal channel.IsTerminated purpose.Ask ask.IsEmpty Nothing (Flag false) (trying b) o ev h = ((([], c ∷ seen, refl, (ev, inl (inr h))), refl), owes_nothing ds ev)
    answered ds bal channel.IsTerminated purpose.Ask ask.IsEmpty Nothing (Flag true) (read n) o ev h = ((([], c ∷ seen, refl, (ev.0, inl (none_there h, inr o))), refl), owes_nothing ds ev.0)
    answered ds bal channel.IsTerminated purpose.Ask ask.IsEmpty Nothing (Flag false) (read n) o ev h =
        ((([], c ∷ seen, refl, (ev.0, once_map HasMessage (λ z. Open z ⊎ HasMessage z) (λ z k. inr k) (c ∷ seen) (some_there n h ev.1))), refl), owes_nothing ds ev.0)
    answered ds bal channel.IsTerminated purpose.Ask ask.IsEmpty m r st o ev h = absurd h
    answered ds b x y a m r st f ev h = absurd f
