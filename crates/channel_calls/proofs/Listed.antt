-- A poll that answers that it waits leaves a listener to its operation, and one that answers else leaves none: of every walk of the
-- machine, over whatever cells.
use Rattle.std.proofs.Common.{◌≡◌, ℕ, zero, suc, ◌==◌, Bool, true, false, if◌then◌else◌, nat_lt, List, [], ◌∷◌, Option, None, Some, Result, Ok, Err, MatchOption, is_some, inl, inr, refl, sym, ◌∙◌, ap, subst}
use Rattle.concurrent_queue.specs.declared.call.QueueReply.{QueueReply}
use Rattle.concurrent_queue.specs.declared.call.QueueReply.TheVariants.{Push, Force, Pop, Close, Flag, Count, Cap}
use Rattle.concurrent_queue.specs.declared.error.PushError.TheVariants as push_error
use Rattle.concurrent_queue.specs.declared.error.ForcePushError.TheVariants as force_error
use Rattle.concurrent_queue.specs.declared.error.PopError.TheVariants as pop_error
use Rattle.concurrent_queue.specs.declared.queue_call.QueueCall.{QueueCall}
use Rattle.event_listener.specs.declared.error.ListenError.{ListenError}
use Rattle.event_listener.specs.declared.key.Key.{Key}
use Rattle.channel_calls.specs.Answered.{sent_next, forced_next, received_next, gathered_next, short_next, several_next, send_next, receive_next, stream_next, closing_next, polled_next, closed_next, asked_next, terminated_next, upgraded_next, answered_next}
use Rattle.channel_calls.specs.Asks.{first, is_refused, kept_by}
use Rattle.channel_calls.specs.Calls.{send_ask, recv_ask, closed_ask, next_ask}
use Rattle.channel_calls.specs.Deeds.{Deed}
use Rattle.channel_calls.specs.Listed.{is_pending, pends, SendLists}
use Rattle.channel_calls.specs.Several.{Gathered, with_one}
use Rattle.channel_calls.specs.Turns.{ends_by, refused_next, pends_by, unlistened, inserted_next, registered_next, closer_ending, told_all_next, room_next, TakesRoom, lowered_next, counted_next, leaving, held_on, says, loaded_next, raised_next, dropper, most, nothing_kept}
use Rattle.channel_calls.specs.Walks.{Takes, Heard, ChannelMakes, Leads, Walked, WalkedFrom}
use Rattle.channel_calls.specs.declared.error.RecvError.{RecvError}
use Rattle.channel_calls.specs.declared.error.Refused.{Refused}
use Rattle.channel_calls.specs.declared.error.SendError.{SendError}
use Rattle.futures.specs.declared.task.Poll.{Poll}
use Rattle.futures.specs.declared.task.Poll.TheVariants.{Pending}
use Rattle.channel_calls.specs.declared.error.TryRecvError.{TryRecvError}
use Rattle.channel_calls.specs.declared.error.TryRecvError.TheVariants as try_recv_error
use Rattle.channel_calls.specs.declared.mark.Mark.{Mark}
use Rattle.channel_calls.specs.declared.reply.Reply.{Reply}
use Rattle.channel_calls.specs.declared.reply.Reply.TheVariants as reply
use Rattle.concurrent_queue.specs.declared.call.QueueAsk.TheVariants as ask
use Rattle.channel_calls.specs.declared.stage.Purpose.{Purpose}
use Rattle.channel_calls.specs.declared.stage.Purpose.TheVariants as purpose
use Rattle.channel_calls.specs.declared.stage.Closer.{Closer}
use Rattle.channel_calls.specs.declared.stage.Closer.TheVariants as closer
use Rattle.channel_calls.specs.declared.stage.Ending.{Ending}
use Rattle.channel_calls.specs.declared.stage.ListenerRef.{ListenerRef}
use Rattle.channel_calls.specs.declared.stage.Returned.{Returned}
use Rattle.channel_calls.specs.declared.stage.WaitList.{WaitList}
use Rattle.channel_calls.specs.declared.stage.WaitList.TheVariants.{Sends, Receives, Streams, Closings}
use Rattle.channel_calls.specs.declared.stage.Making.{Making}
use Rattle.channel_calls.specs.declared.stage.Making.TheVariants as making
use Rattle.channel_calls.specs.declared.stage.Side.{Side}
use Rattle.channel_calls.specs.declared.stage.Stage.{Stage}
use Rattle.channel_calls.specs.declared.stage.Stage.TheVariants.{Trying, Working, Finished}
use Rattle.channel_calls.specs.declared.stage.NextStep.{NextStep}
use Rattle.channel_calls.specs.declared.stage.NextStep.TheVariants.{Tries, Works, Ends}
use Rattle.channel_calls.specs.declared.stage.Waiting.{Waiting}
use Rattle.channel_calls.specs.declared.stage.Waiting.TheVariants as waiting
use Rattle.channel_calls.specs.declared.stage.ListStep.{ListStep}
use Rattle.channel_calls.specs.declared.stage.ListStep.TheVariants.{TellReceive, TellStreams, TellSend, TellSends, TakeRoom, TellAll, Insert, Register, Leave, Lower, Count, Load, Raise}

abbrev pub Leaves : {T : Type 0} → Reply T → Returned T → Type 0
Leaves r kept = is_some kept.key ≡ pends r

module _ {T W : Type 0} where
  -- what is still to be told or left ends with no waiting
  abbrev pub EndsReady : ListStep T W → Type 0
  EndsReady (TellReceive e) = pends e.reply ≡ false
  EndsReady (TellStreams e) = pends e.reply ≡ false
  EndsReady (TellSend e) = pends e.reply ≡ false
  EndsReady (TellSends n e) = pends e.reply ≡ false
  EndsReady (Leave e) = pends e.reply ≡ false
  EndsReady _ = Unit {0}

  abbrev pub StageFair : Stage (QueueCall T) T W → Type 0
  StageFair (Trying call purpose) = Unit {0}
  StageFair (Working w) = EndsReady w
  StageFair (Finished kept) = Unit {0}

  abbrev pub TurnFair : NextStep T W → Type 0
  TurnFair (Tries x purpose) = Unit {0}
  TurnFair (Works w) = EndsReady w
  TurnFair (Ends x kept) = Leaves x kept

  abbrev pub After : Stage (QueueCall T) T W → Option (Reply T) → Type 0
  After next r = MatchOption r (StageFair next) (λ x. Leaves x (kept_by next))

module _ (T W : Type 0) where
  abbrev Fair : NextStep T W → Type 0
  Fair t = TurnFair t

  taken : (turn : NextStep T W) → Fair turn → (next : Stage (QueueCall T) T W) (r : Option (Reply T)) → Takes turn next r → After next r
  taken (Tries x purpose) fair next r (call, starts, asks, none, e) =
      let there : StageFair next = subst (λ (z : Stage (QueueCall T) T W). StageFair z) (sym e) tt in
      subst (λ (o : Option (Reply T)). After next o) (sym none) there
  taken (Works w) fair next r (none, e) =
      let there : StageFair next = subst (λ (z : Stage (QueueCall T) T W). StageFair z) (sym e) fair in
      subst (λ (o : Option (Reply T)). After next o) (sym none) there
  taken (Ends x kept) fair next r (some, e) =
      let there : Leaves x (kept_by next) = subst (λ (z : Stage (QueueCall T) T W). Leaves x (kept_by z)) (sym e) fair in
      subst (λ (o : Option (Reply T)). After next o) (sym some) there

  by_held : (held : Option ListenerRef) (r : Reply T) (m : Option T) → pends r ≡ false → Fair (ends_by (let e : Ending T = record { reply = r; message = m; held = held } in e))
  by_held None r m ready = sym ready
  by_held (Some h) r m ready = ready

  ends : (e : Ending T) → pends e.reply ≡ false → Fair (ends_by e)
  ends e ready = by_held e.held e.reply e.message ready

  refused : (w : Waiting T) (key : Option Key) (task : W) → Fair (refused_next w key task)
  refused w None task = tt
  refused w (Some key) task = tt

  pending : (w : Waiting T) (key : Key) → Fair (pends_by w key)
  pending (waiting.Send v) key = refl
  pending waiting.Receive key = refl
  pending waiting.Stream key = refl
  pending waiting.Closing key = refl

  unheard : (w : Waiting T) (e : ListenError) → Fair (unlistened w e)
  unheard (waiting.Send v) e = refl
  unheard waiting.Receive e = refl
  unheard waiting.Stream e = refl
  unheard waiting.Closing e = refl

  inserted : (w : Waiting T) (task : W) (o : Result Key ListenError) → Fair (inserted_next w task o)
  inserted w task (Ok key) = tt
  inserted w task (Err e) = unheard w e

  registered : (w : Waiting T) (key : Key) (o : Option W) → Fair (registered_next w key o)
  registered w key None = pending w key
  registered w key (Some task) = tt

  closing : (c : Closer) (b : Bool) → Fair (ends_by (closer_ending c b))
  closing closer.Call b = refl
  closing closer.Sender b = refl
  closing (closer.Receiver None) b = refl
  closing (closer.Receiver (Some key)) b = refl

  all_told : (line : WaitList) (c : Closer) → Fair (told_all_next line c)
  all_told Sends c = tt
  all_told Receives c = tt
  all_told Streams c = tt
  all_told Closings c = closing c true

  room_of : (n : ℕ) → Fair (room_next n)
  room_of zero = refl
  room_of (suc n) = tt

  room : (n : ℕ) (turn : NextStep T W) → TakesRoom n turn → Fair turn
  room n turn (inl e) = subst (λ (t : NextStep T W). Fair t) (sym e) (room_of n)
  room n turn (inr (some, e)) = subst (λ (t : NextStep T W). Fair t) (sym e) refl

  either : (b : Bool) (one other : NextStep T W) → Fair one → Fair other → Fair (if b then one else other)
  either true one other h k = h
  either false one other h k = k

  lowered : (side : Side) (key : Option Key) (n : ℕ) → Fair (lowered_next side key n)
  lowered side key n = either (n == 1) (Tries ask.Close (purpose.Close (dropper side key))) (ends_by (closer_ending (dropper side key) false)) tt (closing (dropper side key) false)

  counted : (side : Side) (m : Making) (n : ℕ) → Fair (counted_next side m n)
  counted side m n = either (nat_lt most n) (Ends reply.TooMany nothing_kept) (Works (Raise side n m)) refl tt

  loaded : (side : Side) (m : Making) (n : ℕ) → Fair (loaded_next side m n)
  loaded side making.Clone n = counted side making.Clone n
  loaded side making.Upgrade n = either (n == 0) (Ends reply.NotMade nothing_kept) (counted_next side making.Upgrade n) refl (counted side making.Upgrade n)

  raised : (side : Side) (m : Making) (b : Bool) → Fair (raised_next side m b)
  raised side m true = refl
  raised side m false = tt

  -- ---- after each answer of the queue

  sent : (x : QueueReply T) → Fair (sent_next x)
  sent (Push (Ok u)) = refl
  sent (Push (Err (push_error.Full m))) = refl
  sent (Push (Err (push_error.Closed m))) = refl
  sent (Push (Err (push_error.NoMemory m))) = refl
  sent (Force y) = refl
  sent (Pop y) = refl
  sent (Close y) = refl
  sent (Flag y) = refl
  sent (Count y) = refl
  sent (Cap y) = refl

  forced : (x : QueueReply T) → Fair (forced_next x)
  forced (Force (Ok o)) = refl
  forced (Force (Err (force_error.Closed m))) = refl
  forced (Force (Err (force_error.NoMemory m))) = refl
  forced (Push y) = refl
  forced (Pop y) = refl
  forced (Close y) = refl
  forced (Flag y) = refl
  forced (Count y) = refl
  forced (Cap y) = refl

  received : (x : QueueReply T) → Fair (received_next x)
  received (Pop (Ok m)) = refl
  received (Pop (Err pop_error.Empty)) = refl
  received (Pop (Err pop_error.Closed)) = refl
  received (Push y) = refl
  received (Force y) = refl
  received (Close y) = refl
  received (Flag y) = refl
  received (Count y) = refl
  received (Cap y) = refl

  gathered : (g : Result (Gathered T) (List T)) → Fair (gathered_next g)
  gathered (Ok g) = tt
  gathered (Err vs) = refl

  short : (vs : List T) (e : TryRecvError) → Fair (short_next vs e)
  short [] e = refl
  short (v ∷ vs) e = refl

  several : (x : QueueReply T) (g : Gathered T) → Fair (several_next x g)
  several (Pop (Ok m)) g = gathered (with_one g m)
  several (Pop (Err pop_error.Empty)) g = short g.taken try_recv_error.Empty
  several (Pop (Err pop_error.Closed)) g = short g.taken try_recv_error.Closed
  several (Push y) g = refl
  several (Force y) g = refl
  several (Close y) g = refl
  several (Flag y) g = refl
  several (Count y) g = refl
  several (Cap y) g = refl

  module _ (key : Option Key) (task : W) where
    send : (x : QueueReply T) → Fair (send_next x key task)
    send (Push (Ok u)) = refl
    send (Push (Err (push_error.Full m))) = refused (waiting.Send m) key task
    send (Push (Err (push_error.Closed m))) = by_held (held_on Sends key) _ _ refl
    send (Push (Err (push_error.NoMemory m))) = by_held (held_on Sends key) _ _ refl
    send (Force y) = refl
    send (Pop y) = refl
    send (Close y) = refl
    send (Flag y) = refl
    send (Count y) = refl
    send (Cap y) = refl

    receive : (x : QueueReply T) → Fair (receive_next x key task)
    receive (Pop (Ok m)) = refl
    receive (Pop (Err pop_error.Empty)) = refused waiting.Receive key task
    receive (Pop (Err pop_error.Closed)) = by_held (held_on Receives key) _ _ refl
    receive (Push y) = refl
    receive (Force y) = refl
    receive (Close y) = refl
    receive (Flag y) = refl
    receive (Count y) = refl
    receive (Cap y) = refl

    stream : (x : QueueReply T) → Fair (stream_next x key task)
    stream (Pop (Ok m)) = refl
    stream (Pop (Err pop_error.Empty)) = refused waiting.Stream key task
    stream (Pop (Err pop_error.Closed)) = by_held (held_on Streams key) _ _ refl
    stream (Push y) = refl
    stream (Force y) = refl
    stream (Close y) = refl
    stream (Flag y) = refl
    stream (Count y) = refl
    stream (Cap y) = refl

    closing_poll : (x : QueueReply T) → Fair (closing_next x key task)
    closing_poll (Flag true) = by_held (held_on Closings key) _ _ refl
    closing_poll (Flag false) = refused waiting.Closing key task
    closing_poll (Push y) = refl
    closing_poll (Force y) = refl
    closing_poll (Pop y) = refl
    closing_poll (Close y) = refl
    closing_poll (Count y) = refl
    closing_poll (Cap y) = refl

    polled : (line : WaitList) (x : QueueReply T) → Fair (polled_next line x key task)
    polled Sends x = send x
    polled Receives x = receive x
    polled Streams x = stream x
    polled Closings x = closing_poll x

  closed : (x : QueueReply T) (c : Closer) → Fair (closed_next x c)
  closed (Close true) c = tt
  closed (Close false) c = closing c false
  closed (Push y) c = refl
  closed (Force y) c = refl
  closed (Pop y) c = refl
  closed (Flag y) c = refl
  closed (Count y) c = refl
  closed (Cap y) c = refl

  asked : (x : QueueReply T) → Fair (asked_next x)
  asked (Flag b) = refl
  asked (Count n) = refl
  asked (Cap c) = refl
  asked (Push y) = refl
  asked (Force y) = refl
  asked (Pop y) = refl
  asked (Close y) = refl

  terminated : (x : QueueReply T) → Fair (terminated_next x)
  terminated (Flag true) = tt
  terminated (Flag false) = refl
  terminated (Push y) = refl
  terminated (Force y) = refl
  terminated (Pop y) = refl
  terminated (Close y) = refl
  terminated (Count y) = refl
  terminated (Cap y) = refl

  upgraded : (x : QueueReply T) (side : Side) → Fair (upgraded_next x side)
  upgraded (Flag true) side = refl
  upgraded (Flag false) side = tt
  upgraded (Push y) side = refl
  upgraded (Force y) side = refl
  upgraded (Pop y) side = refl
  upgraded (Close y) side = refl
  upgraded (Count y) side = refl
  upgraded (Cap y) side = refl

  answered : (a : Purpose T W) (x : QueueReply T) → Fair (answered_next a x)
  answered purpose.TrySend x = sent x
  answered purpose.ForceSend x = forced x
  answered purpose.TryRecv x = received x
  answered (purpose.RecvMany g) x = several x g
  answered (purpose.Poll line key task) x = polled key task line x
  answered (purpose.Close c) x = closed x c
  answered purpose.Ask x = asked x
  answered purpose.IsTerminated x = terminated x
  answered (purpose.Upgrade side) x = upgraded x side

module _ {T W X : Type 0} (did : Deed T W → X → X → Type 0) (s t : X) (m : Mark) (next : Stage (QueueCall T) T W) (r : Option (Reply T)) where
  worked : (w : ListStep T W) → EndsReady w → ChannelMakes did (Working w) s t m next r → After next r
  worked (TellReceive e) ready (names, deed, (mark, takes)) = taken T W (Works (TellStreams e)) ready next r takes
  worked (TellStreams e) ready (names, deed, (mark, takes)) = taken T W (ends_by e) (ends T W e ready) next r takes
  worked (TellSend e) ready (names, deed, (mark, takes)) = taken T W (ends_by e) (ends T W e ready) next r takes
  worked (TellSends n e) ready (names, deed, (mark, takes)) = taken T W (ends_by e) (ends T W e ready) next r takes
  worked (TakeRoom n) ready (turn, same, room_is, (mark, takes)) = taken T W turn (room T W n turn room_is) next r takes
  worked (TellAll line c) ready (names, deed, (mark, takes)) = taken T W (told_all_next line c) (all_told T W line c) next r takes
  worked (Insert w task) ready (o, deed, (mark, takes)) = taken T W (inserted_next w task o) (inserted T W w task o) next r takes
  worked (Register w key task) ready (o, deed, (mark, takes)) = taken T W (registered_next w key o) (registered T W w key o) next r takes
  worked (Leave e) ready (left, (mark, takes)) = taken T W (Ends e.reply (leaving None e.message)) (sym ready) next r takes
  worked (Lower side key) ready (n, deed, (mark, takes)) = taken T W (lowered_next side key n) (lowered T W side key n) next r takes
  worked (Count side) ready (n, deed, (mark, takes)) = taken T W (Ends (reply.Count n) nothing_kept) refl next r takes
  worked (Load side making) ready (n, deed, (mark, takes)) = taken T W (loaded_next side making n) (loaded T W side making n) next r takes
  worked (Raise side n making) ready (b, deed, (mark, takes)) = taken T W (raised_next side making b) (raised T W side making b) next r takes

  tried : (a : Purpose T W) (call after : QueueCall T) (o : Option (QueueReply T)) → Heard a after o next r → After next r
  tried a call after None (e, none) =
      let there : StageFair next = subst (λ (z : Stage (QueueCall T) T W). StageFair z) (sym e) tt in
      subst (λ (x : Option (Reply T)). After next x) (sym none) there
  tried a call after (Some x) takes = taken T W (answered_next a x) (answered T W a x) next r takes

  pub steps : (a : Stage (QueueCall T) T W) → StageFair a → ChannelMakes did a s t m next r → After next r
  steps (Trying call a) fair (after, o, deed, mark, on) = tried a call after o on
  steps (Working w) fair made = worked w fair made
  steps (Finished kept) fair (same, mark, e, none) =
      let there : StageFair next = subst (λ (z : Stage (QueueCall T) T W). StageFair z) (sym e) tt in
      subst (λ (x : Option (Reply T)). After next x) (sym none) there

module _ {T W X : Type 0} (did : Deed T W → X → X → Type 0) where
  leads : (n : ℕ) (a : Stage (QueueCall T) T W) (s : X) (b : Stage (QueueCall T) T W) (t : X) → StageFair a → Leads did n s a t b → StageFair b
  leads zero a s b t fair (e, f) = subst (λ (z : Stage (QueueCall T) T W). StageFair z) (sym f) fair
  leads (suc n) a s b t fair (x, y, m, made, rest) = leads n y x b t (steps did s x m y None a fair made) rest

  pub walked : (a : Stage (QueueCall T) T W) (s : X) (r : Reply T) (kept : Returned T) (t : X) → StageFair a → Walked did a s r kept t → is_some kept.key ≡ pends r
  walked a s r kept t fair (n, x, b, m, c, led, made, e) =
      let ends : is_some (kept_by c).key ≡ pends r = steps did x t m c (Some r) b (leads n a s b x fair led) made in
      ap (λ (k : Returned T). is_some k.key) e ∙ ends

  -- of a call from its first turn
  pub walked_from : (turn : NextStep T W) (s : X) (r : Reply T) (kept : Returned T) (t : X) → TurnFair turn → WalkedFrom did turn s r kept t → is_some kept.key ≡ pends r
  walked_from turn s r kept t fair (a, takes, walk) = walked a s r kept t (taken T W turn fair a None takes) walk

  -- a call that only leaves and answers leaves no listener to its operation
  none_left : (e : Ending T) (a : Stage (QueueCall T) T W) → a ≡ Working (Leave e) → (s : X) (r : Reply T) (kept : Returned T) (t : X) → Walked did a s r kept t → kept.key ≡ None
  none_left e a is s r kept t (zero, x, b, m, c, (same, at), made, k) =
      let last : ChannelMakes did (Working (Leave e)) x t m c (Some r) = subst (λ (z : Stage (QueueCall T) T W). ChannelMakes did z x t m c (Some r)) (at ∙ is) made in
      ap (λ (z : Returned T). z.key) k ∙ ap (λ (z : Stage (QueueCall T) T W). (kept_by z).key) (last.1.1.1)
  none_left e a is s r kept t (suc n, x, b, m, c, (y, d, j, begun, rest), made, k) =
      let step : ChannelMakes did (Working (Leave e)) s y j d None = subst (λ (z : Stage (QueueCall T) T W). ChannelMakes did z s y j d None) is begun in
      absurd (let never : None ≡ Some e.reply = step.1.1.0 in cc)

module _ (T W : Type 0) where
  by_key : (key : Option Key) (task : W) → Fair T W (first (next_ask key (Some task)))
  by_key None task = tt
  by_key (Some k) task = tt

module _ (T W : Type 0) (key : Option Key) where
  send_fair : (v : T) (task : Option W) → Fair T W (first (send_ask (Some v) key task))
  send_fair v None = refl
  send_fair v (Some task) = tt

  recv_fair : (task : Option W) → Fair T W (first (recv_ask key task))
  recv_fair None = refl
  recv_fair (Some task) = tt

  closed_fair : (task : Option W) → Fair T W (first (closed_ask key task))
  closed_fair None = refl
  closed_fair (Some task) = tt

  next_fair : (task : Option W) → Fair T W (first (next_ask key task))
  next_fair None = refl
  next_fair (Some task) = by_key T W key task

module _ {T W X : Type 0} (did : Deed T W → X → X → Type 0) (key : Option Key) (task : Option W) (s : X) (kept : Returned T) (t : X) where
  by_task : (task : Option W) (p : Poll (Result Unit (Refused (SendError T) Unit))) → WalkedFrom did (first (send_ask None key task)) s (reply.SendPoll p) kept t → kept.key ≡ None
  by_task None p (a, (none, is), walk) = none_left did (is_refused Sends None key) a is s (reply.SendPoll p) kept t walk
  by_task (Some w) p (a, (none, is), walk) = none_left did (says (reply.SendPoll Pending)) a is s (reply.SendPoll p) kept t walk

  pub send_lists : (m : Option T) (p : Poll (Result Unit (Refused (SendError T) Unit))) → WalkedFrom did (first (send_ask m key task)) s (reply.SendPoll p) kept t → SendLists m p kept.key
  send_lists (Some v) p walk = walked_from did (first (send_ask (Some v) key task)) s (reply.SendPoll p) kept t (send_fair T W key v task) walk
  send_lists None p walk = by_task task p walk

  pub recv_lists : (p : Poll (Result T (Refused RecvError Unit))) → WalkedFrom did (first (recv_ask key task)) s (reply.RecvPoll p) kept t → is_some kept.key ≡ is_pending p
  recv_lists p walk = walked_from did (first (recv_ask key task)) s (reply.RecvPoll p) kept t (recv_fair T W key task) walk

  pub closed_lists : (p : Poll (Result Unit ListenError)) → WalkedFrom did (first (closed_ask key task)) s (reply.ClosedPoll p) kept t → is_some kept.key ≡ is_pending p
  closed_lists p walk = walked_from did (first (closed_ask key task)) s (reply.ClosedPoll p) kept t (closed_fair T W key task) walk

  pub next_lists : (p : Poll (Option (Result T ListenError))) → WalkedFrom did (first (next_ask key task)) s (reply.Next p) kept t → is_some kept.key ≡ is_pending p
  next_lists p walk = walked_from did (first (next_ask key task)) s (reply.Next p) kept t (next_fair T W key task) walk
