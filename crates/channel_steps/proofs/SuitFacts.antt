-- What a call of the queue is that is made for a call of the channel: one table, from which all else is read off.
use Rattle.std.proofs.Common.{◌≡◌, List, ◌∷◌, [], inr, refl, sym, ap, ◌∙◌, subst}
use Rattle.channel_steps.proofs.Words.{message, QueueAsk, Channel, ChannelAsk, Purpose, Sends, Receives, Streams, Closings, Side, Senders, Receivers, MarkedMoment, LeftLast, IsQuick, TriesFor, brought}
use Rattle.concurrent_queue.specs.declared.call.QueueAsk.TheVariants as ask
use Rattle.channel_calls.specs.declared.ask.ChannelAsk.TheVariants as channel
use Rattle.channel_calls.specs.declared.stage.Purpose.TheVariants as purpose
use Rattle.channel_calls.specs.declared.stage.Closer.TheVariants as closer
use Rattle.channel_steps.specs.every_run.Streams.{IsSending}

module _ {T : Type 0} where
  -- a push, of either kind
  abbrev pub IsPush : QueueAsk T → Type 0
  IsPush (ask.Push v) = Unit {0}
  IsPush (ask.ForcePush v) = Unit {0}
  IsPush a = ⊥

  -- a call that may take a message
  abbrev pub MayTake : QueueAsk T → Type 0
  MayTake (ask.ForcePush v) = Unit {0}
  MayTake ask.Pop = Unit {0}
  MayTake a = ⊥

  abbrev pub IsClosing : QueueAsk T → Type 0
  IsClosing ask.Close = Unit {0}
  IsClosing a = ⊥

  -- what a quick call asks of the queue
  abbrev pub IsQuickTry : QueueAsk T → Type 0
  IsQuickTry ask.Close = Unit {0}
  IsQuickTry ask.IsClosed = Unit {0}
  IsQuickTry ask.IsEmpty = Unit {0}
  IsQuickTry ask.IsFull = Unit {0}
  IsQuickTry ask.Capacity = Unit {0}
  IsQuickTry a = ⊥

module _ {T W : Type 0} where
  -- a call of the channel that may take a message out
  abbrev pub Takes : ChannelAsk T W → Type 0
  Takes channel.TryRecv = Unit {0}
  Takes (channel.RecvMany n) = Unit {0}
  Takes (channel.PollRecv k t) = Unit {0}
  Takes (channel.PollNext k t) = Unit {0}
  Takes (channel.ForceSend m) = Unit {0}
  Takes x = ⊥

  -- a close, or what is left of a drop of the last handle
  abbrev pub IsClose : Purpose T W → Type 0
  IsClose (purpose.Close c) = Unit {0}
  IsClose y = ⊥

  -- what a quick call asks it for
  abbrev pub IsQuickAim : Purpose T W → QueueAsk T → Type 0
  IsQuickAim (purpose.Close c) ask.Close = Unit {0}
  IsQuickAim purpose.IsTerminated ask.IsClosed = Unit {0}
  IsQuickAim purpose.Ask a = Unit {0}
  IsQuickAim y a = ⊥

  -- a push is a sending call's, a pop one that takes, and a close a closing one's
  abbrev Fits : ChannelAsk T W → Purpose T W → QueueAsk T → Type 0
  Fits x y (ask.Push v) = IsSending x
  Fits x y (ask.ForcePush v) = IsSending x × Takes x
  Fits x y ask.Pop = Takes x
  Fits x y ask.Close = IsClose y
  Fits x y a = Unit {0}

  -- It brings the message of its call, and fits it; it is quick where that one is; and at a new moment it is made for it still, where a
  -- closing one has the same marks.
  abbrev Suits : ChannelAsk T W → Purpose T W → QueueAsk T → List (MarkedMoment T W) → List (Channel T W) → Type 0
  Suits x y a ds seen =
      (message a ≡ brought x) × Fits x y a × (IsQuick x → IsQuickTry a × IsQuickAim y a)
      × ((c : Channel T W) (es : List (MarkedMoment T W)) → (IsClosing a → es ≡ ds) → TriesFor x y a es (c ∷ seen))

  last_left : (side : Side) (c : Channel T W) (ds es : List (MarkedMoment T W)) (seen : List (Channel T W)) → es ≡ ds → LeftLast side ds seen → LeftLast side es (c ∷ seen)
  last_left side c (d ∷ []) es seen e h =
      subst (λ (xs : List (MarkedMoment T W)). LeftLast side xs (c ∷ seen)) (sym e) (h.0, h.1, c ∷ h.2, ap (λ (cs : List (Channel T W)). c ∷ cs) h.3)
  last_left side c x es seen e h = absurd h

  suits : (x : ChannelAsk T W) (y : Purpose T W) (a : QueueAsk T) (ds : List (MarkedMoment T W)) (seen : List (Channel T W)) → TriesFor x y a ds seen → Suits x y a ds seen
  suits (channel.TrySend m) purpose.TrySend (ask.Push v) ds seen h = (ap (λ (z : T). z ∷ []) h, tt, λ q. absurd q, λ c es e. h)
  suits (channel.ForceSend m) purpose.ForceSend (ask.ForcePush v) ds seen h = (ap (λ (z : T). z ∷ []) h, (tt, tt), λ q. absurd q, λ c es e. h)
  suits channel.TryRecv purpose.TryRecv ask.Pop ds seen h = (refl, tt, λ q. absurd q, λ c es e. h)
  suits (channel.RecvMany n) (purpose.RecvMany g) ask.Pop ds seen h = (refl, tt, λ q. absurd q, λ c es e. h)
  suits channel.Close (purpose.Close closer.Call) ask.Close ds seen h = (refl, tt, λ q. (tt, tt), λ c es e. e tt ∙ h)
  suits (channel.PollSend m k t) (purpose.Poll Sends key task) (ask.Push v) ds seen h = (ap (λ (z : T). z ∷ []) h, tt, λ q. absurd q, λ c es e. h)
  suits (channel.PollRecv k t) (purpose.Poll Receives key task) ask.Pop ds seen h = (refl, tt, λ q. absurd q, λ c es e. h)
  suits (channel.PollClosed k t) (purpose.Poll Closings key task) ask.IsClosed ds seen h = (refl, tt, λ q. absurd q, λ c es e. h)
  suits (channel.PollNext k t) (purpose.Poll Streams key task) ask.Pop ds seen h = (refl, tt, λ q. absurd q, λ c es e. h)
  suits channel.DropSender (purpose.Close closer.Sender) ask.Close ds seen h = (refl, tt, λ q. (tt, tt), λ c es e. last_left Senders c ds es seen (e tt) h)
  suits (channel.DropReceiver k) (purpose.Close (closer.Receiver key)) ask.Close ds seen h = (refl, tt, λ q. (tt, tt), λ c es e. last_left Receivers c ds es seen (e tt) h)
  suits (channel.Upgrade side) (purpose.Upgrade s) ask.IsClosed ds seen h = (refl, tt, λ q. absurd q, λ c es e. h)
  suits channel.IsClosed purpose.Ask ask.IsClosed ds seen h = (refl, tt, λ q. (tt, tt), λ c es e. h)
  suits channel.IsEmpty purpose.Ask ask.IsEmpty ds seen h = (refl, tt, λ q. (tt, tt), λ c es e. h)
  suits channel.IsFull purpose.Ask ask.IsFull ds seen h = (refl, tt, λ q. (tt, tt), λ c es e. h)
  suits channel.Len purpose.Ask ask.Len ds seen h = (refl, tt, λ q. absurd q, λ c es e. h)
  suits channel.Capacity purpose.Ask ask.Capacity ds seen h = (refl, tt, λ q. (tt, tt), λ c es e. h)
  suits channel.IsTerminated purpose.IsTerminated ask.IsClosed ds seen h = (refl, tt, λ q. (tt, tt), λ c es e. h)
  suits channel.IsTerminated purpose.Ask ask.IsEmpty ds seen h = (refl, tt, λ q. (tt, tt), λ c es e. inr h)
  suits x y a ds seen h = absurd h

  module _ (x : ChannelAsk T W) (y : Purpose T W) (ds : List (MarkedMoment T W)) (seen : List (Channel T W)) where
    pub brings_own : (a : QueueAsk T) → TriesFor x y a ds seen → message a ≡ brought x
    brings_own a h = let k = suits x y a ds seen h in k.0

    pub quick_try : (a : QueueAsk T) → TriesFor x y a ds seen → IsQuick x → IsQuickTry a × IsQuickAim y a
    quick_try a h q = let k = suits x y a ds seen h in k.2 q

    pub tries_more : (a : QueueAsk T) (c : Channel T W) (es : List (MarkedMoment T W)) → (IsClosing a → es ≡ ds) → TriesFor x y a ds seen → TriesFor x y a es (c ∷ seen)
    tries_more a c es e h = let k = suits x y a ds seen h in k.3 c es e

    pub push_sends : (a : QueueAsk T) → TriesFor x y a ds seen → IsPush a → IsSending x
    push_sends (ask.Push v) h p = let k = suits x y (ask.Push v) ds seen h in k.1
    push_sends (ask.ForcePush v) h p = let k = suits x y (ask.ForcePush v) ds seen h in k.1.0
    push_sends a h p = absurd p

    pub takes_as : (a : QueueAsk T) → TriesFor x y a ds seen → MayTake a → Takes x
    takes_as (ask.ForcePush v) h p = let k = suits x y (ask.ForcePush v) ds seen h in k.1.1
    takes_as ask.Pop h p = let k = suits x y ask.Pop ds seen h in k.1
    takes_as a h p = absurd p

    pub closes_by : TriesFor x y ask.Close ds seen → IsClose y
    closes_by h = let k = suits x y ask.Close ds seen h in k.1
