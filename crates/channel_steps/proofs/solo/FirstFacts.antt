-- The first turn of a call that is alone at work.
use Rattle.channel_steps.proofs.solo.Words.{◌≡◌, Bool, true, false, if◌then◌else◌, [], ◌++◌, Option, None, Some, refl, sym, ap, ◌∙◌, subst, Contents, Queue, Phase, asked, Fits, QueueCall, Key, ChannelAsk, RecvMany, PollSend, PollFinishedSend, PollRecv, PollNext, RefusePoll, GiveUp, DropSender, DropReceiver, CloneHandle, HandleCount, SendIsTerminated, SameChannel, Make, DropWeak, Reply, Stage, NextStep, Tries, Works, Ends, Waiting, again, asks_listener, first, Channel, Turned, seats, phase, IsTaken, Outcome, Where, PollsSend, PollsReceive, AsksListener, Alone}
use Rattle.concurrent_queue.specs.declared.call.QueueAsk.TheVariants as ask
use Rattle.channel_calls.specs.declared.stage.Waiting.TheVariants as waiting
use Rattle.channel_steps.proofs.solo.Rest.{RestTurn}

module _ {T W : Type 0} where
  sent_rest : (m : T) (b : Bool) (key : Option Key) (task : W) (c : Channel T W) (o : Outcome T W)
      → RestTurn (if b then asks_listener (waiting.Send m) key task else again (waiting.Send m) key task) c o
      → Where b (AsksListener (waiting.Send m) key task c o (λ d. PollsSend m None task d o)) (PollsSend m key task c o)
  sent_rest m false key task c o k = k
  sent_rest m true None task c o k = k
  sent_rest m true (Some key) task c o k = k

  received_rest : (b : Bool) (key : Option Key) (task : W) (c : Channel T W) (o : Outcome T W)
      → RestTurn (if b then asks_listener waiting.Receive key task else again waiting.Receive key task) c o
      → Where b (AsksListener waiting.Receive key task c o (λ d. PollsReceive None task d o)) (PollsReceive key task c o)
  received_rest false key task c o k = k
  received_rest true None task c o k = k
  received_rest true (Some key) task c o k = k

  -- what comes of the first turn is what comes of the call
  pub first_rest : (a : ChannelAsk T W) (c : Channel T W) (o : Outcome T W) → RestTurn (first a) c o → Alone a c o
  first_rest (PollSend m l task) c o k = sent_rest m l.asks_first l.key task c o k
  first_rest (PollRecv l task) c o k = received_rest l.asks_first l.key task c o k
  first_rest (PollNext None task) c o k = k
  first_rest a c o k = k

  asked_goes_on : (w : Waiting T) (key : Option Key) (task : W) (r : Option (Reply T)) (s : Stage (QueueCall T) T W) → IsTaken (asks_listener w key task) r s → r ≡ None
  asked_goes_on w None task r s h = h.2
  asked_goes_on w (Some key) task r s h = h.0

  poll_goes_on : (w : Waiting T) (b : Bool) (key : Option Key) (task : W) (r : Option (Reply T)) (s : Stage (QueueCall T) T W)
      → IsTaken (if b then asks_listener w key task else again w key task) r s → r ≡ None
  poll_goes_on w false key task r s h = h.2
  poll_goes_on w true key task r s h = asked_goes_on w key task r s h

  -- no call answers before its first step
  pub first_goes_on : (a : ChannelAsk T W) (r : Option (Reply T)) (s : Stage (QueueCall T) T W) → IsTaken (first a) r s → r ≡ None
  first_goes_on (PollSend m l task) r s h = poll_goes_on (waiting.Send m) l.asks_first l.key task r s h
  first_goes_on (PollRecv l task) r s h = poll_goes_on waiting.Receive l.asks_first l.key task r s h
  first_goes_on (PollNext key task) r s h = asked_goes_on waiting.Stream key task r s h
  first_goes_on (RecvMany n) r s h = h.0
  first_goes_on PollFinishedSend r s h = h.0
  first_goes_on (RefusePoll line message key) r s h = h.0
  first_goes_on (GiveUp line message key) r s h = h.0
  first_goes_on DropSender r s h = h.0
  first_goes_on (DropReceiver key) r s h = h.0
  first_goes_on (CloneHandle side) r s h = h.0
  first_goes_on (HandleCount side) r s h = h.0
  first_goes_on (SendIsTerminated b) r s h = h.0
  first_goes_on (SameChannel b) r s h = h.0
  first_goes_on Make r s h = h.0
  first_goes_on DropWeak r s h = h.0
  first_goes_on a r s h = h.2

  -- a call that took its first turn over cells with no call under way, and did not answer by it
  pub record Begun (turn : NextStep T W) (cells : Contents T) (q : Queue T) (s : Stage (QueueCall T) T W) : Type 0 where
    pub at : Phase T
    pub turned : Turned turn None (phase at s)
    pub fits : Fits cells q (seats at s ++ [])

  pub begun : (cells : Contents T) (q : Queue T) → Fits cells q [] → (turn : NextStep T W) (r : Option (Reply T)) (s : Stage (QueueCall T) T W) → r ≡ None → IsTaken turn r s → Begun turn cells q s
  begun cells q h (Tries x purpose) r s none (call, starts, here, e) =
      record {
        at = asked x;
        turned = (refl, ap (λ (z : Stage (QueueCall T) T W). phase (asked x) z) e);
        fits = subst (λ (z : Stage (QueueCall T) T W). Fits cells q (seats (asked x) z ++ [])) (sym e) (h.0, starts h.0 cells q [] [] h.1);
      }
  begun cells q h (Works w) r s none (here, e) =
      record {
        at = asked ask.Pop;
        turned = (refl, ap (λ (z : Stage (QueueCall T) T W). phase (asked ask.Pop) z) e);
        fits = subst (λ (z : Stage (QueueCall T) T W). Fits cells q (seats (asked ask.Pop) z ++ [])) (sym e) h;
      }
  begun cells q h (Ends x kept) r s none (some, e) = absurd (let no : Some x ≡ None = sym some ∙ none in cc)
