-- What a call may answer after each turn, from what its queue may answer.
use Rattle.std.proofs.Common.{◌≡◌, ℕ, zero, suc, ◌+◌, ◌<◌, ◌≤◌, inl, inr, if◌then◌else◌, ◌==◌, nat_lt, Bool, true, false, List, [], ◌∷◌, ◌++◌, length, Option, None, Some, Ok, Err, refl, sym, ap, subst, arith}
use Rattle.std.proofs.lemmas.List.{length-append}
use Rattle.concurrent_queue.specs.Replies.{MayCall, MayAnswer}
use Rattle.concurrent_queue.specs.declared.call.QueueAsk.{QueueAsk}
use Rattle.concurrent_queue.specs.declared.call.QueueAsk.TheVariants as ask
use Rattle.concurrent_queue.specs.declared.call.QueueReply.{QueueReply}
use Rattle.concurrent_queue.specs.declared.call.QueueReply.TheVariants.{Push, Force, Pop, Close, Flag, Count, Cap}
use Rattle.concurrent_queue.specs.declared.error.PushError.TheVariants as push_error
use Rattle.concurrent_queue.specs.declared.error.ForcePushError.TheVariants as force_error
use Rattle.concurrent_queue.specs.declared.error.PopError.TheVariants as pop_error
use Rattle.concurrent_queue.specs.declared.queue_call.QueueCall.{QueueCall}
use Rattle.event_listener.specs.declared.key.Key.{Key}
use Rattle.channel_calls.specs.declared.error.Refused.TheVariants as refused
use Rattle.channel_calls.specs.declared.error.TryRecvError.{TryRecvError}
use Rattle.channel_calls.specs.Several.{Gathered, with_one}
use Rattle.channel_calls.specs.declared.reply.Reply.{Reply}
use Rattle.channel_calls.specs.declared.stage.Purpose.{Purpose}
use Rattle.channel_calls.specs.declared.stage.Purpose.TheVariants as purpose
use Rattle.channel_calls.specs.declared.stage.Closer.{Closer}
use Rattle.channel_calls.specs.declared.stage.Closer.TheVariants as closer
use Rattle.channel_calls.specs.declared.stage.WaitList.TheVariants.{Sends, Receives, Streams, Closings}
use Rattle.channel_calls.specs.declared.stage.Side.{Side}
use Rattle.channel_calls.specs.declared.stage.NextStep.{NextStep}
use Rattle.channel_calls.specs.declared.stage.Waiting.{Waiting}
use Rattle.channel_calls.specs.declared.stage.Waiting.TheVariants as waiting
use Rattle.channel_calls.specs.declared.stage.Ending.{Ending}
use Rattle.channel_calls.specs.declared.stage.ListenerRef.{ListenerRef}
use Rattle.channel_calls.specs.declared.stage.WaitList.{WaitList}
use Rattle.channel_calls.specs.declared.stage.Making.{Making}
use Rattle.channel_calls.specs.declared.stage.Making.TheVariants as making
use Rattle.channel_calls.specs.declared.stage.Stage.{Stage}
use Rattle.channel_calls.specs.declared.stage.Stage.TheVariants.{Trying, Working}
use Rattle.channel_calls.specs.declared.stage.ListStep.{ListStep}
use Rattle.channel_calls.specs.declared.stage.NextStep.TheVariants.{Tries, Works, Ends}
use Rattle.channel_calls.specs.declared.reply.Reply.TheVariants as reply
use Rattle.channel_calls.specs.declared.stage.ListStep.TheVariants as work
use Rattle.channel_calls.specs.declared.ask.ChannelAsk.{ChannelAsk}
use Rattle.channel_calls.specs.declared.ask.ChannelAsk.TheVariants as call
use Rattle.channel_calls.specs.Asks.{asks_listener, first, kept_by}
use Rattle.event_listener.specs.declared.error.ListenError.{ListenError}
use Rattle.event_listener.specs.declared.error.ListenError.TheVariants as listen_error
use Rattle.concurrent_queue.specs.Replies.{Follows, is_bounded}
use Rattle.concurrent_queue.specs.declared.cells.QueueForm.{QueueForm}
use Rattle.channel_calls.specs.Walks.{Takes}
use Rattle.channel_calls.specs.Turns.{most, again, ends_by, closer_ending, nothing_kept, told_all_next, room_next, TakesRoom, counted_next, loaded_next, raised_next, pends_by, unlistened}
use Rattle.channel_calls.specs.Answered.{sent_next, forced_next, received_next, hands_out, gathered_next, short_next, several_next, send_next, receive_next, stream_next, closing_next, closed_next, asked_next, terminated_next, upgraded_next, answered_next}
use Rattle.channel_calls.specs.Replies.{ReplyAllowed, EndsBy, MayEnd, FollowsTurn, FollowsStage, IsCount, SendsAtOnce, ForcesIn, IsTryRecv, GivesUpTo, IsFlag, IsClosing, IsMaking, MayPoll, MayTell, MayTry, MayTurn}

-- either may be made, or too many
may_be_made : (T : Type 0) (k : Making) → IsMaking {T = T} k reply.Made
may_be_made T making.Clone = tt
may_be_made T making.Upgrade = tt

may_be_too_many : (T : Type 0) (k : Making) → IsMaking {T = T} k reply.TooMany
may_be_too_many T making.Clone = tt
may_be_too_many T making.Upgrade = tt

module _ {T : Type 0} where
  -- what holds of how a call ends holds of its reply and of the message that it leaves
  at_end : (P : Reply T → Option T → Type 0) (x : Reply T) (n : Option T) → P x n → (r : Reply T) (m : Option T) → (r ≡ x) × (m ≡ n) → P r m
  at_end P x n p r m t = subst (λ (z : Reply T). P z m) (sym t.0) (subst (λ (z : Option T). P x z) (sym t.1) p)

  abbrev pub Sent : QueueForm → T → Reply T → Option T → Type 0
  Sent b v r m = SendsAtOnce (is_bounded b) v r × (m ≡ None)

  abbrev pub Forced : QueueForm → T → Reply T → Option T → Type 0
  Forced b v r m = ForcesIn (is_bounded b) v r × (m ≡ None)

  abbrev pub Received : QueueForm → Reply T → Option T → Type 0
  Received b r m = IsTryRecv r × (m ≡ None)

  abbrev pub Several : QueueForm → ℕ → Reply T → Option T → Type 0
  Several b n r m = GivesUpTo n r × (m ≡ None)

  abbrev pub Closed : QueueForm → Closer → Reply T → Option T → Type 0
  Closed b c r m = IsClosing c r × (m ≡ None)

  abbrev pub Told : QueueForm → QueueAsk T → Reply T → Option T → Type 0
  Told b a r m = MayTell a r × (m ≡ None)

  abbrev pub Terminated : QueueForm → Reply T → Option T → Type 0
  Terminated b r m = IsFlag r × (m ≡ None)

  abbrev pub MadeBy : Making → Reply T → Option T → Type 0
  MadeBy k r m = IsMaking k r × (m ≡ None)

module _ {T : Type 0} (W : Type 0) (b : QueueForm) where
  sent : (v : T) (y : QueueReply T) → MayAnswer b (ask.Push v) y → (r : Reply T) (m : Option T) → MayTurn {T = T} {W = W} b (sent_next y) r m → Sent b v r m
  sent v (Push (Ok u)) h r m t = at_end (Sent b v) _ _ (tt, refl) r m t
  sent v (Push (Err (push_error.Full w))) h r m t = at_end (Sent b v) _ _ (h, refl) r m t
  sent v (Push (Err (push_error.Closed w))) h r m t = at_end (Sent b v) _ _ (h, refl) r m t
  sent v (Push (Err (push_error.NoMemory w))) h r m t = at_end (Sent b v) _ _ (h, refl) r m t
  sent v (Force y) h r m t = absurd h
  sent v (Pop y) h r m t = absurd h
  sent v (Close y) h r m t = absurd h
  sent v (Flag y) h r m t = absurd h
  sent v (Count y) h r m t = absurd h
  sent v (Cap y) h r m t = absurd h

  forced : (v : T) (y : QueueReply T) → MayAnswer b (ask.ForcePush v) y → (r : Reply T) (m : Option T) → MayTurn {T = T} {W = W} b (forced_next y) r m → Forced b v r m
  forced v (Force (Ok o)) h r m t = at_end (Forced b v) _ _ (h, refl) r m t
  forced v (Force (Err (force_error.Closed w))) h r m t = at_end (Forced b v) _ _ (h, refl) r m t
  forced v (Force (Err (force_error.NoMemory w))) h r m t = at_end (Forced b v) _ _ (h, refl) r m t
  forced v (Push y) h r m t = absurd h
  forced v (Pop y) h r m t = absurd h
  forced v (Close y) h r m t = absurd h
  forced v (Flag y) h r m t = absurd h
  forced v (Count y) h r m t = absurd h
  forced v (Cap y) h r m t = absurd h

  received : (y : QueueReply T) → MayAnswer b ask.Pop y → (r : Reply T) (m : Option T) → MayTurn {T = T} {W = W} b (received_next y) r m → Received b r m
  received (Pop (Ok v)) h r m t = at_end (Received b) _ _ (tt, refl) r m t
  received (Pop (Err pop_error.Empty)) h r m t = at_end (Received b) _ _ (tt, refl) r m t
  received (Pop (Err pop_error.Closed)) h r m t = at_end (Received b) _ _ (tt, refl) r m t
  received (Push y) h r m t = absurd h
  received (Force y) h r m t = absurd h
  received (Close y) h r m t = absurd h
  received (Flag y) h r m t = absurd h
  received (Count y) h r m t = absurd h
  received (Cap y) h r m t = absurd h

  handed : (n : ℕ) (vs : List T) → length vs ≤ n → (vs ≡ [] → n ≡ 0) → (r : Reply T) (m : Option T) → MayTurn {T = T} {W = W} b (hands_out vs) r m → Several b n r m
  handed n vs few none r m t = at_end (Several b n) _ _ ((few, none), refl) r m t

  nothing_after : (vs : List T) (v : T) → vs ++ v ∷ [] ≡ [] → ⊥
  nothing_after vs v e =
      let n : length (vs ++ v ∷ []) ≡ 0 = ap (λ (xs : List T). length xs) e in
      let l = length-append vs (v ∷ []) in
      omega arith

  gathered : (vs : List T) (k : ℕ) (v : T) (r : Reply T) (m : Option T) → MayTurn {T = T} {W = W} b (gathered_next (with_one (record { taken = vs; more = k }) v)) r m → Several b (length vs + (k + 1)) r m
  gathered vs zero v r m t =
      let l = length-append vs (v ∷ []) in
      let few : length (vs ++ v ∷ []) ≤ length vs + (0 + 1) = omega arith in
      handed _ (vs ++ v ∷ []) few (λ none. absurd (nothing_after vs v none)) r m t
  gathered vs (suc k) v r m t =
      let l = length-append vs (v ∷ []) in
      let same : length (vs ++ v ∷ []) + (k + 1) ≡ length vs + (suc k + 1) = omega arith in
      subst (λ (n : ℕ). Several b n r m) same (t refl)

  short : (n : ℕ) (vs : List T) → length vs < n → (e : TryRecvError) (r : Reply T) (m : Option T) → MayTurn {T = T} {W = W} b (short_next vs e) r m → Several b n r m
  short n [] few e r m t = at_end (Several b n) _ _ (few, refl) r m t
  short n (v ∷ vs) few e r m t = handed n (v ∷ vs) (omega arith) (λ none. absurd (let l : suc (length vs) ≡ 0 = ap (λ (xs : List T). length xs) none in omega arith)) r m t

  several : (g : Gathered T) (y : QueueReply T) → MayAnswer b ask.Pop y → (r : Reply T) (m : Option T) → MayTurn {T = T} {W = W} b (several_next y g) r m → Several b (length g.taken + (g.more + 1)) r m
  several g (Pop (Ok v)) h r m t = gathered g.taken g.more v r m t
  several g (Pop (Err pop_error.Empty)) h r m t = short _ g.taken (omega arith) _ r m t
  several g (Pop (Err pop_error.Closed)) h r m t = short _ g.taken (omega arith) _ r m t
  several g (Push y) h r m t = absurd h
  several g (Force y) h r m t = absurd h
  several g (Close y) h r m t = absurd h
  several g (Flag y) h r m t = absurd h
  several g (Count y) h r m t = absurd h
  several g (Cap y) h r m t = absurd h

  -- room is taken, or refused
  roomy : (n : ℕ) (r : Reply T) (m : Option T) → MayTurn {T = T} {W = W} b (room_next n) r m → Several b n r m
  roomy zero r m t = at_end (Several b 0) _ _ ((omega arith, λ none. refl), refl) r m t
  roomy (suc n) r m t =
      let same : 0 + (n + 1) ≡ suc n = omega arith in
      subst (λ (k : ℕ). Several b k r m) same (t refl)

  pub room_taken : (n : ℕ) (turn : NextStep T W) → TakesRoom n turn → (r : Reply T) (m : Option T) → MayTurn b turn r m → Several b n r m
  room_taken n turn (inl e) r m t = roomy n r m (subst (λ (x : NextStep T W). MayTurn b x r m) e t)
  room_taken n turn (inr (some, e)) r m t =
      at_end (Several b n) (reply.RecvMany (Err (refused.NoMemory tt))) None (some, refl) r m (subst (λ (x : NextStep T W). MayTurn b x r m) e t)

  polled_send : (v : T) (key : Option Key) (task : W) (y : QueueReply T) → MayAnswer b (ask.Push v) y → (r : Reply T) (m : Option T) → MayTurn b (send_next y key task) r m → MayPoll (waiting.Send v) r m
  polled_send v key task (Push (Ok u)) h r m t = at_end (MayPoll (waiting.Send v)) _ _ refl r m t
  polled_send v None task (Push (Err (push_error.Full w))) h r m t = subst (λ (z : T). MayPoll (waiting.Send z) r m) h.0 t
  polled_send v (Some key) task (Push (Err (push_error.Full w))) h r m t = subst (λ (z : T). MayPoll (waiting.Send z) r m) h.0 t
  polled_send v None task (Push (Err (push_error.Closed w))) h r m t = at_end (MayPoll (waiting.Send v)) _ _ (h, refl) r m t
  polled_send v (Some key) task (Push (Err (push_error.Closed w))) h r m t = at_end (MayPoll (waiting.Send v)) _ _ (h, refl) r m t
  polled_send v None task (Push (Err (push_error.NoMemory w))) h r m t = at_end (MayPoll (waiting.Send v)) _ _ (ap (λ (z : T). Some z) h.0) r m t
  polled_send v (Some key) task (Push (Err (push_error.NoMemory w))) h r m t = at_end (MayPoll (waiting.Send v)) _ _ (ap (λ (z : T). Some z) h.0) r m t
  polled_send v key task (Force y) h r m t = absurd h
  polled_send v key task (Pop y) h r m t = absurd h
  polled_send v key task (Close y) h r m t = absurd h
  polled_send v key task (Flag y) h r m t = absurd h
  polled_send v key task (Count y) h r m t = absurd h
  polled_send v key task (Cap y) h r m t = absurd h

  polled_receive : (key : Option Key) (task : W) (y : QueueReply T) → MayAnswer b ask.Pop y → (r : Reply T) (m : Option T) → MayTurn b (receive_next y key task) r m → MayPoll waiting.Receive r m
  polled_receive key task (Pop (Ok v)) h r m t = at_end (MayPoll waiting.Receive) _ _ refl r m t
  polled_receive None task (Pop (Err pop_error.Empty)) h r m t = t
  polled_receive (Some key) task (Pop (Err pop_error.Empty)) h r m t = t
  polled_receive None task (Pop (Err pop_error.Closed)) h r m t = at_end (MayPoll waiting.Receive) _ _ refl r m t
  polled_receive (Some key) task (Pop (Err pop_error.Closed)) h r m t = at_end (MayPoll waiting.Receive) _ _ refl r m t
  polled_receive key task (Push y) h r m t = absurd h
  polled_receive key task (Force y) h r m t = absurd h
  polled_receive key task (Close y) h r m t = absurd h
  polled_receive key task (Flag y) h r m t = absurd h
  polled_receive key task (Count y) h r m t = absurd h
  polled_receive key task (Cap y) h r m t = absurd h

  polled_stream : (key : Option Key) (task : W) (y : QueueReply T) → MayAnswer b ask.Pop y → (r : Reply T) (m : Option T) → MayTurn b (stream_next y key task) r m → MayPoll waiting.Stream r m
  polled_stream key task (Pop (Ok v)) h r m t = at_end (MayPoll waiting.Stream) _ _ refl r m t
  polled_stream None task (Pop (Err pop_error.Empty)) h r m t = t
  polled_stream (Some key) task (Pop (Err pop_error.Empty)) h r m t = t
  polled_stream None task (Pop (Err pop_error.Closed)) h r m t = at_end (MayPoll waiting.Stream) _ _ refl r m t
  polled_stream (Some key) task (Pop (Err pop_error.Closed)) h r m t = at_end (MayPoll waiting.Stream) _ _ refl r m t
  polled_stream key task (Push y) h r m t = absurd h
  polled_stream key task (Force y) h r m t = absurd h
  polled_stream key task (Close y) h r m t = absurd h
  polled_stream key task (Flag y) h r m t = absurd h
  polled_stream key task (Count y) h r m t = absurd h
  polled_stream key task (Cap y) h r m t = absurd h

  polled_closing : (key : Option Key) (task : W) (y : QueueReply T) → MayAnswer b ask.IsClosed y → (r : Reply T) (m : Option T) → MayTurn b (closing_next y key task) r m → MayPoll waiting.Closing r m
  polled_closing None task (Flag true) h r m t = at_end (MayPoll waiting.Closing) _ _ refl r m t
  polled_closing (Some key) task (Flag true) h r m t = at_end (MayPoll waiting.Closing) _ _ refl r m t
  polled_closing None task (Flag false) h r m t = t
  polled_closing (Some key) task (Flag false) h r m t = t
  polled_closing key task (Push y) h r m t = absurd h
  polled_closing key task (Force y) h r m t = absurd h
  polled_closing key task (Pop y) h r m t = absurd h
  polled_closing key task (Close y) h r m t = absurd h
  polled_closing key task (Count y) h r m t = absurd h
  polled_closing key task (Cap y) h r m t = absurd h

  -- how a closing ends
  pub closing : (c : Closer) (closed : Bool) (r : Reply T) (m : Option T) → MayTurn {T = T} {W = W} b (ends_by (closer_ending c closed)) r m → Closed b c r m
  closing closer.Call closed r m t = at_end (Closed b closer.Call) _ _ (tt, refl) r m t
  closing closer.Sender closed r m t = at_end (Closed b closer.Sender) _ _ (tt, refl) r m t
  closing (closer.Receiver None) closed r m t = at_end (Closed b (closer.Receiver None)) _ _ (tt, refl) r m t
  closing (closer.Receiver (Some key)) closed r m t = at_end (Closed b (closer.Receiver (Some key))) _ _ (tt, refl) r m t

  closed : (c : Closer) (y : QueueReply T) → MayAnswer b ask.Close y → (r : Reply T) (m : Option T) → MayTurn {T = T} {W = W} b (closed_next y c) r m → Closed b c r m
  closed closer.Call (Close true) h r m t = at_end (Closed b closer.Call) _ _ (tt, refl) r m t
  closed closer.Sender (Close true) h r m t = at_end (Closed b closer.Sender) _ _ (tt, refl) r m t
  closed (closer.Receiver key) (Close true) h r m t = at_end (Closed b (closer.Receiver key)) _ _ (tt, refl) r m t
  closed c (Close false) h r m t = closing c false r m t
  closed c (Push y) h r m t = absurd h
  closed c (Force y) h r m t = absurd h
  closed c (Pop y) h r m t = absurd h
  closed c (Flag y) h r m t = absurd h
  closed c (Count y) h r m t = absurd h
  closed c (Cap y) h r m t = absurd h

  -- an answer of one kind is told as it is, whatever the question
  flagged : (f : Bool) (r : Reply T) (m : Option T) → MayTurn {T = T} {W = W} b (asked_next (Flag f)) r m → IsFlag r × (m ≡ None)
  flagged f r m t = at_end (Terminated b) _ _ (tt, refl) r m t

  asked : (a : QueueAsk T) (y : QueueReply T) → MayAnswer b a y → (r : Reply T) (m : Option T) → MayTurn {T = T} {W = W} b (asked_next y) r m → Told b a r m
  asked ask.IsClosed (Flag f) h r m t = flagged f r m t
  asked ask.IsEmpty (Flag f) h r m t = flagged f r m t
  asked ask.IsFull (Flag f) h r m t = flagged f r m t
  asked ask.Len (Count n) h r m t = at_end (Told b ask.Len) _ _ (tt, refl) r m t
  asked ask.Capacity (Cap c) h r m t = at_end (Told b ask.Capacity) _ _ (tt, refl) r m t
  asked (ask.Push v) (Push x) h r m t = (tt, t.1)
  asked (ask.ForcePush v) (Force x) h r m t = (tt, t.1)
  asked ask.Pop (Pop x) h r m t = (tt, t.1)
  asked ask.Close (Close x) h r m t = (tt, t.1)
  asked (ask.Push v) (Force x) h r m t = absurd h
  asked (ask.Push v) (Pop x) h r m t = absurd h
  asked (ask.Push v) (Close x) h r m t = absurd h
  asked (ask.Push v) (Flag x) h r m t = absurd h
  asked (ask.Push v) (Count x) h r m t = absurd h
  asked (ask.Push v) (Cap x) h r m t = absurd h
  asked (ask.ForcePush v) (Push x) h r m t = absurd h
  asked (ask.ForcePush v) (Pop x) h r m t = absurd h
  asked (ask.ForcePush v) (Close x) h r m t = absurd h
  asked (ask.ForcePush v) (Flag x) h r m t = absurd h
  asked (ask.ForcePush v) (Count x) h r m t = absurd h
  asked (ask.ForcePush v) (Cap x) h r m t = absurd h
  asked ask.Pop (Push x) h r m t = absurd h
  asked ask.Pop (Force x) h r m t = absurd h
  asked ask.Pop (Close x) h r m t = absurd h
  asked ask.Pop (Flag x) h r m t = absurd h
  asked ask.Pop (Count x) h r m t = absurd h
  asked ask.Pop (Cap x) h r m t = absurd h
  asked ask.Close (Push x) h r m t = absurd h
  asked ask.Close (Force x) h r m t = absurd h
  asked ask.Close (Pop x) h r m t = absurd h
  asked ask.Close (Flag x) h r m t = absurd h
  asked ask.Close (Count x) h r m t = absurd h
  asked ask.Close (Cap x) h r m t = absurd h
  asked ask.IsClosed (Push x) h r m t = absurd h
  asked ask.IsClosed (Force x) h r m t = absurd h
  asked ask.IsClosed (Pop x) h r m t = absurd h
  asked ask.IsClosed (Close x) h r m t = absurd h
  asked ask.IsClosed (Count x) h r m t = absurd h
  asked ask.IsClosed (Cap x) h r m t = absurd h
  asked ask.IsEmpty (Push x) h r m t = absurd h
  asked ask.IsEmpty (Force x) h r m t = absurd h
  asked ask.IsEmpty (Pop x) h r m t = absurd h
  asked ask.IsEmpty (Close x) h r m t = absurd h
  asked ask.IsEmpty (Count x) h r m t = absurd h
  asked ask.IsEmpty (Cap x) h r m t = absurd h
  asked ask.IsFull (Push x) h r m t = absurd h
  asked ask.IsFull (Force x) h r m t = absurd h
  asked ask.IsFull (Pop x) h r m t = absurd h
  asked ask.IsFull (Close x) h r m t = absurd h
  asked ask.IsFull (Count x) h r m t = absurd h
  asked ask.IsFull (Cap x) h r m t = absurd h
  asked ask.Len (Push x) h r m t = absurd h
  asked ask.Len (Force x) h r m t = absurd h
  asked ask.Len (Pop x) h r m t = absurd h
  asked ask.Len (Close x) h r m t = absurd h
  asked ask.Len (Flag x) h r m t = absurd h
  asked ask.Len (Cap x) h r m t = absurd h
  asked ask.Capacity (Push x) h r m t = absurd h
  asked ask.Capacity (Force x) h r m t = absurd h
  asked ask.Capacity (Pop x) h r m t = absurd h
  asked ask.Capacity (Close x) h r m t = absurd h
  asked ask.Capacity (Flag x) h r m t = absurd h
  asked ask.Capacity (Count x) h r m t = absurd h

  terminated : (y : QueueReply T) → MayAnswer b ask.IsClosed y → (r : Reply T) (m : Option T) → MayTurn {T = T} {W = W} b (terminated_next y) r m → Terminated b r m
  terminated (Flag true) h r m t = t
  terminated (Flag false) h r m t = at_end (Terminated b) _ _ (tt, refl) r m t
  terminated (Push y) h r m t = absurd h
  terminated (Force y) h r m t = absurd h
  terminated (Pop y) h r m t = absurd h
  terminated (Close y) h r m t = absurd h
  terminated (Count y) h r m t = absurd h
  terminated (Cap y) h r m t = absurd h

  upgraded : (side : Side) (y : QueueReply T) → MayAnswer b ask.IsClosed y → (r : Reply T) (m : Option T) → MayTurn {T = T} {W = W} b (upgraded_next y side) r m → MadeBy making.Upgrade r m
  upgraded side (Flag true) h r m t = at_end (MadeBy making.Upgrade) _ _ (tt, refl) r m t
  upgraded side (Flag false) h r m t = t
  upgraded side (Push y) h r m t = absurd h
  upgraded side (Force y) h r m t = absurd h
  upgraded side (Pop y) h r m t = absurd h
  upgraded side (Close y) h r m t = absurd h
  upgraded side (Count y) h r m t = absurd h
  upgraded side (Cap y) h r m t = absurd h

  pub answered : (x : Purpose T W) (a : QueueAsk T) (y : QueueReply T) → MayAnswer b a y → (r : Reply T) (m : Option T) → MayTurn b (answered_next x y) r m → MayTry b x a r m
  answered purpose.TrySend a y h r m t = λ v e. sent v y (subst (λ (z : QueueAsk T). MayAnswer b z y) e h) r m t
  answered purpose.ForceSend a y h r m t = λ v e. forced v y (subst (λ (z : QueueAsk T). MayAnswer b z y) e h) r m t
  answered purpose.TryRecv a y h r m t = λ e. received y (subst (λ (z : QueueAsk T). MayAnswer b z y) e h) r m t
  answered (purpose.RecvMany g) a y h r m t = λ e. several g y (subst (λ (z : QueueAsk T). MayAnswer b z y) e h) r m t
  answered (purpose.Poll Sends key task) a y h r m t = λ v e. polled_send v key task y (subst (λ (z : QueueAsk T). MayAnswer b z y) e h) r m t
  answered (purpose.Poll Receives key task) a y h r m t = λ e. polled_receive key task y (subst (λ (z : QueueAsk T). MayAnswer b z y) e h) r m t
  answered (purpose.Poll Streams key task) a y h r m t = λ e. polled_stream key task y (subst (λ (z : QueueAsk T). MayAnswer b z y) e h) r m t
  answered (purpose.Poll Closings key task) a y h r m t = λ e. polled_closing key task y (subst (λ (z : QueueAsk T). MayAnswer b z y) e h) r m t
  answered (purpose.Close c) a y h r m t = λ e. closed c y (subst (λ (z : QueueAsk T). MayAnswer b z y) e h) r m t
  answered purpose.Ask a y h r m t = asked a y h r m t
  answered purpose.IsTerminated a y h r m t = λ e. terminated y (subst (λ (z : QueueAsk T). MayAnswer b z y) e h) r m t
  answered (purpose.Upgrade side) a y h r m t = λ e. upgraded side y (subst (λ (z : QueueAsk T). MayAnswer b z y) e h) r m t

  -- a poll that tries once more may answer what its operation may
  pub retried : (w : Waiting T) (key : Option Key) (task : W) (r : Reply T) (m : Option T) → MayTurn b (again w key task) r m → MayPoll w r m
  retried (waiting.Send v) key task r m t = t v refl
  retried waiting.Receive key task r m t = t refl
  retried waiting.Stream key task r m t = t refl
  retried waiting.Closing key task r m t = t refl

  -- a poll that ends pending, and one that was not let listen
  pub pending : (w : Waiting T) (key : Key) (r : Reply T) (m : Option T) → MayTurn {T = T} {W = W} b (pends_by w key) r m → MayPoll w r m
  pending (waiting.Send v) key r m t = at_end (MayPoll (waiting.Send v)) _ _ refl r m t
  pending waiting.Receive key r m t = at_end (MayPoll waiting.Receive) _ _ refl r m t
  pending waiting.Stream key r m t = at_end (MayPoll waiting.Stream) _ _ refl r m t
  pending waiting.Closing key r m t = at_end (MayPoll waiting.Closing) _ _ refl r m t

  pub unheard : (w : Waiting T) (e : ListenError) (r : Reply T) (m : Option T) → MayTurn {T = T} {W = W} b (unlistened w e) r m → MayPoll w r m
  unheard (waiting.Send v) listen_error.NoMemory r m t = at_end (MayPoll (waiting.Send v)) _ _ refl r m t
  unheard (waiting.Send v) listen_error.SerialsUsedUp r m t = at_end (MayPoll (waiting.Send v)) _ _ refl r m t
  unheard waiting.Receive e r m t = at_end (MayPoll waiting.Receive) _ _ refl r m t
  unheard waiting.Stream e r m t = at_end (MayPoll waiting.Stream) _ _ refl r m t
  unheard waiting.Closing e r m t = at_end (MayPoll waiting.Closing) _ _ refl r m t

  -- the call answers, or drops its listener before
  ended_with : (x : Reply T) (n : Option T) (held : Option ListenerRef) (r : Reply T) (m : Option T) → MayTurn {T = T} {W = W} b (ends_by (record { reply = x; message = n; held = held })) r m → (r ≡ x) × (m ≡ n)
  ended_with x n None r m t = t
  ended_with x n (Some held) r m t = t

  pub ended : (e : Ending T) (r : Reply T) (m : Option T) → MayTurn {T = T} {W = W} b (ends_by e) r m → EndsBy e r m
  ended e r m t = ended_with e.reply e.message e.held r m t

  pub told_all : (line : WaitList) (c : Closer) (r : Reply T) (m : Option T) → MayTurn {T = T} {W = W} b (told_all_next line c) r m → EndsBy (closer_ending c true) r m
  told_all Sends c r m t = t
  told_all Receives c r m t = t
  told_all Streams c r m t = t
  told_all Closings c r m t = ended (closer_ending c true) r m t

  -- a count is answered
  pub counted : (n : ℕ) (r : Reply T) (m : Option T) → MayTurn {T = T} {W = W} b (Ends (reply.Count n) nothing_kept) r m → IsCount r × (m ≡ None)
  counted n r m t = at_end (λ (r : Reply T) (m : Option T). IsCount r × (m ≡ None)) _ _ (tt, refl) r m t

  loaded_more : (side : Side) (k : Making) (n : ℕ) (over : Bool) (r : Reply T) (m : Option T)
      → MayTurn {T = T} {W = W} b (if over then Ends reply.TooMany nothing_kept else Works (work.Raise side n k)) r m → MadeBy k r m
  loaded_more side k n true r m t = at_end (MadeBy k) _ _ (may_be_too_many T k, refl) r m t
  loaded_more side k n false r m t = t

  loaded_some : (side : Side) (n : ℕ) (none : Bool) (r : Reply T) (m : Option T)
      → MayTurn {T = T} {W = W} b (if none then Ends reply.NotMade nothing_kept else counted_next side making.Upgrade n) r m → MadeBy making.Upgrade r m
  loaded_some side n true r m t = at_end (MadeBy making.Upgrade) _ _ (tt, refl) r m t
  loaded_some side n false r m t = loaded_more side making.Upgrade n (nat_lt most n) r m t

  pub loaded : (side : Side) (k : Making) (n : ℕ) (r : Reply T) (m : Option T) → MayTurn {T = T} {W = W} b (loaded_next side k n) r m → MadeBy k r m
  loaded side making.Clone n r m t = loaded_more side making.Clone n (nat_lt most n) r m t
  loaded side making.Upgrade n r m t = loaded_some side n (n == 0) r m t

  pub raised : (side : Side) (k : Making) (up : Bool) (r : Reply T) (m : Option T) → MayTurn {T = T} {W = W} b (raised_next side k up) r m → MadeBy k r m
  raised side k true r m t = at_end (MadeBy k) _ _ (may_be_made T k, refl) r m t
  raised side k false r m t = t

  sent_by : (v : T) (first_of : Bool) (key : Option Key) (task : W) (r : Reply T) (m : Option T)
      → MayTurn b (if first_of then asks_listener (waiting.Send v) key task else again (waiting.Send v) key task) r m → MayPoll (waiting.Send v) r m
  sent_by v false key task r m t = t v refl
  sent_by v true None task r m t = t v refl
  sent_by v true (Some key) task r m t = t

  received_by : (first_of : Bool) (key : Option Key) (task : W) (r : Reply T) (m : Option T)
      → MayTurn b (if first_of then asks_listener waiting.Receive key task else again waiting.Receive key task) r m → MayPoll waiting.Receive r m
  received_by false key task r m t = t refl
  received_by true None task r m t = t refl
  received_by true (Some key) task r m t = t

  pub given : (a : ChannelAsk T W) (r : Reply T) (m : Option T) → MayTurn b (first a) r m → ReplyAllowed b a r m
  given (call.TrySend v) r m t = t v refl
  given (call.ForceSend v) r m t = t v refl
  given call.TryRecv r m t = t refl
  given (call.RecvMany n) r m t = t
  given call.Close r m t = t refl
  given (call.PollSend v l task) r m t = sent_by v l.asks_first l.key task r m t
  given call.PollFinishedSend r m t = t
  given (call.PollRecv l task) r m t = received_by l.asks_first l.key task r m t
  given (call.PollClosed key task) r m t = t refl
  given (call.PollNext None task) r m t = t refl
  given (call.PollNext (Some key) task) r m t = t
  given (call.RefusePoll line v key) r m t = t
  given (call.GiveUp line v key) r m t = t
  given call.DropSender r m t = tt
  given (call.DropReceiver key) r m t = tt
  given (call.CloneHandle side) r m t = t
  given (call.Upgrade side) r m t = t refl
  given (call.HandleCount side) r m t = t
  given call.IsClosed r m t = t
  given call.IsEmpty r m t = t
  given call.IsFull r m t = t
  given call.Len r m t = t
  given call.Capacity r m t = t
  given call.IsTerminated r m t = t refl
  given (call.SendIsTerminated x) r m t = t
  given (call.SameChannel x) r m t = t
  given call.Make r m t = t
  given call.DropWeak r m t = t

  -- ---- steps

  -- a step that takes this turn, which allows no more than the stage before
  pub through : (turn turn' : NextStep T W) → turn ≡ turn' → (stage s : Stage (QueueCall T) T W) (o : Option (Reply T)) → FollowsTurn b turn s o
      → ((r : Reply T) (m : Option T) → MayTurn b turn' r m → MayEnd b stage r m) → FollowsStage b stage s o
  through turn turn' e stage s None h p = λ r m x. p r m (subst (λ (t : NextStep T W). MayTurn b t r m) e (h r m x))
  through turn turn' e stage s (Some r) h p = p r (kept_by s).message (subst (λ (t : NextStep T W). MayTurn b t r (kept_by s).message) e h)

  pub begun : (turn turn' : NextStep T W) → turn ≡ turn' → (o : Option (Reply T)) (s : Stage (QueueCall T) T W) → Takes turn s o → FollowsTurn b turn s o
      → (r : Reply T) (m : Option T) → MayEnd b s r m → MayTurn b turn' r m
  begun (Tries a x) turn' e o s taken h r m w =
      subst (λ (t : NextStep T W). MayTurn b t r m) e (subst (λ (z : Option (Reply T)). FollowsTurn b (Tries a x) s z) taken.3 h r m w)
  begun (Works x) turn' e o s taken h r m w =
      subst (λ (t : NextStep T W). MayTurn b t r m) e (subst (λ (z : Option (Reply T)). FollowsTurn b (Works x) s z) taken.0 h r m w)
  begun (Ends x kept) turn' e o s taken h r m w = absurd (subst (λ (z : Stage (QueueCall T) T W). MayEnd b z r m) taken.1 w)

  -- the same from the stage's own name
  pub at_stage : (stage stage' : Stage (QueueCall T) T W) → stage ≡ stage' → (s : Stage (QueueCall T) T W) (o : Option (Reply T)) → FollowsStage b stage' s o → FollowsStage b stage s o
  at_stage stage stage' e s o h = subst (λ (z : Stage (QueueCall T) T W). FollowsStage b z s o) (sym e) h

  pub at_next : (stage s s0 : Stage (QueueCall T) T W) (o o0 : Option (Reply T)) → s ≡ s0 → o ≡ o0 → FollowsStage b stage s0 o0 → FollowsStage b stage s o
  at_next stage s s0 o o0 e g h =
      let by_answer : FollowsStage b stage s0 o = subst (λ (z : Option (Reply T)). FollowsStage b stage s0 z) (sym g) h in
      subst (λ (z : Stage (QueueCall T) T W). FollowsStage b stage z o) (sym e) by_answer

  pub at_work : (w w' : ListStep T W) → w ≡ w' → (s : Stage (QueueCall T) T W) (o : Option (Reply T)) → FollowsStage b (Working w') s o → FollowsStage b (Working w) s o
  at_work w w' e s o h = subst (λ (z : ListStep T W). FollowsStage b (Working z) s o) (sym e) h

module _ {T W : Type 0} (f : QueueForm) (one one' : QueueCall T) (x : Purpose T W) where
  -- the queue's one goes on
  pub goes_on : (o : Option (QueueReply T)) → o ≡ None → Follows f one one' o → FollowsStage {T = T} {W = W} f (Trying one x) (Trying one' x) None
  goes_on o e h =
      let now : Follows f one one' None = subst (λ (z : Option (QueueReply T)). Follows f one one' z) e h in
      λ r m w a fits. w a (λ y may. fits y (now.0 f y may))

  -- or it has answered
  pub answers : (o : Option (QueueReply T)) (y : QueueReply T) → o ≡ Some y → Follows f one one' o → (turn : NextStep T W) → turn ≡ answered_next x y → (s : Stage (QueueCall T) T W) (r : Option (Reply T))
      → FollowsTurn f turn s r → FollowsStage f (Trying one x) s r
  answers o y e h turn same s r follows =
      let now : MayCall f one.state y = subst (λ (z : Option (QueueReply T)). Follows f one one' z) e h in
      through W f turn (answered_next x y) same (Trying one x) s r follows (λ r m t a fits. answered W f x a y (fits y now) r m t)
