-- What a reply that says the end, and one that gives a message, say of their call.
use Rattle.std.proofs.Common.{⊎_elim, ◌≡◌, List, [], ◌∷◌, ◌++◌, Option, None, Some, Ok, Err, inr, sym, subst}
use Rattle.channel_steps.proofs.every_run.Words.{Ready, Channel, ChannelAsk, Mark, Append, Take, Replace, SenderUp, SenderDown, ReceiverUp, ReceiverDown, Reply, Returned, Sends, MarkedMoment, with_marked, Spent, Once, Took, TookAll, Replaced, Displaced, Row, ActiveCall, MayFinish, ForceSend, TryRecv, RecvMany, PollRecv, PollNext, RefusePoll, StillDeeds, IsStill, SaysTheEnd, GivesMessage, Replies, DropSender, DropReceiver, PollFinishedSend, GiveUp, SendIsTerminated, SameChannel, Make, DropWeak}
use Rattle.channel_calls.specs.declared.error.Refused.TheVariants as refused
use Rattle.channel_calls.specs.declared.error.TryRecvError.TheVariants as try_recv_error
use Rattle.channel_calls.specs.declared.error.TrySendError.TheVariants as try_send_error
use Rattle.channel_calls.specs.declared.mark.Mark.TheVariants.{Nothing}
use Rattle.channel_calls.specs.declared.reply.Reply.TheVariants as reply

moved : (m n : Mark) → m ≡ n → IsStill m → IsStill n
moved m n e h = subst (λ (x : Mark). IsStill x) e h

module _ {T : Type 0} where
  -- a reply that says neither a message nor the end, nor that the channel is full or that the call closed it
  abbrev pub Silent : Reply T → Type 0
  Silent (reply.TryRecv (Ok v)) = ⊥
  Silent (reply.RecvPoll (Ready (Ok v))) = ⊥
  Silent (reply.Next (Ready (Some (Ok v)))) = ⊥
  Silent (reply.ForceSend (Ok (Some v))) = ⊥
  Silent (reply.RecvMany (Ok (v ∷ vs))) = ⊥
  Silent (reply.TryRecv (Err try_recv_error.Closed)) = ⊥
  Silent (reply.RecvPoll (Ready (Err (refused.Plain e)))) = ⊥
  Silent (reply.Next (Ready None)) = ⊥
  Silent (reply.RecvMany (Err (refused.Plain try_recv_error.Closed))) = ⊥
  Silent (reply.TrySend (Err (refused.Plain (try_send_error.Full v)))) = ⊥
  Silent (reply.Closed true) = ⊥
  Silent r = Unit {0}

module _ {T W : Type 0} where
  -- ---- the marks of a call to which nothing moved

  one_more : (ds : List (MarkedMoment T W)) (d : MarkedMoment T W) → StillDeeds ds → IsStill d.mark → StillDeeds (ds ++ d ∷ [])
  one_more [] d h k = (k, tt)
  one_more (x ∷ ds) d h k = (h.0, one_more ds d h.1 k)

  pub with_still : (ds : List (MarkedMoment T W)) (m : Mark) (c : Channel T W) (seen : List (Channel T W)) → StillDeeds ds → IsStill m → StillDeeds (with_marked ds m c seen)
  with_still ds Nothing c seen h k = h
  with_still ds SenderUp c seen h k = one_more ds (record { mark = SenderUp; before = c; seen = seen }) h k
  with_still ds SenderDown c seen h k = one_more ds (record { mark = SenderDown; before = c; seen = seen }) h k
  with_still ds ReceiverUp c seen h k = one_more ds (record { mark = ReceiverUp; before = c; seen = seen }) h k
  with_still ds ReceiverDown c seen h k = one_more ds (record { mark = ReceiverDown; before = c; seen = seen }) h k
  with_still ds m c seen h k = absurd k

  took_moves : (ds : List (MarkedMoment T W)) (v : T) → Took ds v → StillDeeds ds → ⊥
  took_moves (d ∷ []) v h k = moved d.mark Take h.0 k.0
  took_moves ds v h k = absurd h

  several_moves : (ds : List (MarkedMoment T W)) (v : T) (vs : List T) → TookAll ds (v ∷ vs) → StillDeeds ds → ⊥
  several_moves [] v vs h k = h
  several_moves (d ∷ ds) v vs h k = moved d.mark Take h.0 k.0

  replaced_moves : (ds : List (MarkedMoment T W)) (v : T) → Replaced ds v → StillDeeds ds → ⊥
  replaced_moves (d ∷ []) v h k = moved d.mark Replace h.0 k.0
  replaced_moves ds v h k = absurd h

  displaced_moves : (ds : List (MarkedMoment T W)) (v : T) → Displaced ds v → StillDeeds ds → ⊥
  displaced_moves (d ∷ e ∷ []) v h k = moved e.mark Append h.1 k.1.0
  displaced_moves ds v h k = absurd h

  module _ (ds : List (MarkedMoment T W)) (seen : List (Channel T W)) where
    -- what its row says of a reply, and of a call that has one answer alone, that this one is silent
    abbrev pub Spoken : ChannelAsk T W → Reply T → Type 0
    Spoken PollFinishedSend r = Silent r
    Spoken (RefusePoll line message key) r = Silent r
    Spoken (GiveUp line message key) r = Silent r
    Spoken DropSender r = Silent r
    Spoken (DropReceiver key) r = Silent r
    Spoken (SendIsTerminated b) r = Silent r
    Spoken (SameChannel b) r = Silent r
    Spoken Make r = Silent r
    Spoken DropWeak r = Silent r
    Spoken ask r = Row ask ds seen r

    pub spoken : (ask : ChannelAsk T W) (r : Reply T) → Row ask ds seen r → Spoken ask r
    spoken PollFinishedSend r h = subst Silent (sym h.1) tt
    spoken (RefusePoll Sends message key) r h = subst Silent (sym h.1) tt
    spoken (RefusePoll line message key) r h = subst Silent (sym h.1) tt
    spoken (GiveUp line message key) r h = subst Silent (sym h.1) tt
    spoken DropSender r h = subst Silent (sym h.1) tt
    spoken (DropReceiver key) r h = subst Silent (sym h.1) tt
    spoken (SendIsTerminated b) r h = subst Silent (sym h.1) tt
    spoken (SameChannel b) r h = subst Silent (sym h.1) tt
    spoken Make r h = subst Silent (sym h.1) tt
    spoken DropWeak r h = subst Silent (sym h.1) tt
    spoken ask r h = h

    -- a reply with a message needs a mark that takes one
    gives : (r : Reply T) (ask : ChannelAsk T W) → Spoken ask r → GivesMessage r → StillDeeds ds → ⊥
    gives (reply.TryRecv (Ok v)) TryRecv h g k = took_moves ds v h k
    gives (reply.TryRecv (Ok v)) ask h g k = h
    gives (reply.RecvPoll (Ready (Ok v))) (PollRecv key task) h g k = took_moves ds v h k
    gives (reply.RecvPoll (Ready (Ok v))) ask h g k = h
    gives (reply.Next (Ready (Some (Ok v)))) (PollNext key task) h g k = took_moves ds v h k
    gives (reply.Next (Ready (Some (Ok v)))) ask h g k = h
    gives (reply.ForceSend (Ok (Some v))) (ForceSend m) h g k = ⊎_elim (λ r. replaced_moves ds v r k) (λ r. displaced_moves ds v r k) h
    gives (reply.ForceSend (Ok (Some v))) ask h g k = h
    gives (reply.RecvMany (Ok (v ∷ vs))) (RecvMany n) h g k = several_moves ds v vs h.0 k
    gives (reply.RecvMany (Ok (v ∷ vs))) ask h g k = h
    gives r ask h g k = g

    -- one that says the end needs a moment at which the channel was over
    ends : (r : Reply T) (ask : ChannelAsk T W) → Spoken ask r → SaysTheEnd r → Once Spent seen
    ends (reply.TryRecv (Err try_recv_error.Closed)) TryRecv h g = h.1
    ends (reply.TryRecv (Err try_recv_error.Closed)) ask h g = absurd h
    ends (reply.RecvPoll (Ready (Err (refused.Plain e)))) (PollRecv key task) h g = h.1
    ends (reply.RecvPoll (Ready (Err (refused.Plain e)))) ask h g = absurd h
    ends (reply.Next (Ready None)) (PollNext key task) h g = h.1
    ends (reply.Next (Ready None)) ask h g = absurd h
    ends (reply.RecvMany (Err (refused.Plain try_recv_error.Closed))) (RecvMany n) h g = h.2
    ends (reply.RecvMany (Err (refused.Plain try_recv_error.Closed))) ask h g = absurd h
    ends r ask h g = absurd g

  once_behind : (P : Channel T W → Type 0) (newer older : List (Channel T W)) → Once P older → Once P (newer ++ older)
  once_behind P [] older h = h
  once_behind P (c ∷ newer) older h = inr (once_behind P newer older h)

  -- ---- a call that ends

  pub finish_gives : (u : ActiveCall T W) (r : Option (Reply T)) (left : Option (Returned T)) → MayFinish u r left → StillDeeds u.marks → Replies GivesMessage r → ⊥
  finish_gives u None left h k g = g
  finish_gives u (Some r) left h k g = gives u.marks h.met.1 r u.ask (spoken u.marks h.met.1 u.ask r h.met.3) g k

  pub finish_ends : (u : ActiveCall T W) (r : Option (Reply T)) (left : Option (Returned T)) → MayFinish u r left → Replies SaysTheEnd r → Once Spent u.seen
  finish_ends u None left h g = absurd g
  finish_ends u (Some r) left h g =
      subst (λ (cs : List (Channel T W)). Once Spent cs) (sym h.met.2) (once_behind Spent h.met.0 h.met.1 (ends u.marks h.met.1 r u.ask (spoken u.marks h.met.1 u.ask r h.met.3) g))
