-- The fast paths of a channel's calls: what they may answer, and that they leave nothing.
use Rattle.std.proofs.Common.{◌≡◌, refl, sym, subst, Option, None, Some, Ok, Err, Result, MatchResult}
use Rattle.concurrent_queue.specs.Replies.{IsAsking, MayCall}
use Rattle.concurrent_queue.specs.declared.cells.QueueForm.{QueueForm}
use Rattle.concurrent_queue.specs.declared.call.QueueAsk.TheVariants as ask
use Rattle.concurrent_queue.specs.declared.call.QueueReply.{QueueReply}
use Rattle.concurrent_queue.specs.declared.call.QueueReply.TheVariants.{Push, Force, Pop, Close, Flag, Count, Cap}
use Rattle.concurrent_queue.specs.declared.error.ForcePushError.TheVariants as force_error
use Rattle.concurrent_queue.specs.declared.error.PushError.TheVariants as push_error
use Rattle.concurrent_queue.specs.declared.error.PopError.TheVariants as pop_error
use Rattle.concurrent_queue.specs.declared.queue_call.CallState.{CallState}
use Rattle.concurrent_queue.specs.declared.queue_call.QueueCall.{QueueCall}
use Rattle.channel_calls.specs.declared.ask.ChannelAsk.{ChannelAsk}
use Rattle.channel_calls.specs.declared.ask.ChannelAsk.TheVariants as call
use Rattle.channel_calls.specs.declared.call.ChannelCall.{ChannelCall}
use Rattle.channel_calls.specs.declared.reply.Reply.{Reply}
use Rattle.channel_calls.specs.declared.stage.Purpose.{Purpose}
use Rattle.channel_calls.specs.declared.stage.Purpose.TheVariants as purpose
use Rattle.channel_calls.specs.declared.stage.Stage.{Stage}
use Rattle.channel_calls.specs.declared.stage.Stage.TheVariants.{Trying, Finished}
use Rattle.channel_calls.specs.declared.stage.NextStep.{NextStep}
use Rattle.channel_calls.specs.declared.stage.NextStep.TheVariants.{Ends}
use Rattle.channel_calls.specs.declared.stage.Returned.{Returned}
use Rattle.channel_calls.specs.declared.stage.WaitList.TheVariants.{Sends, Receives, Streams}
use Rattle.channel_calls.specs.declared.whole.Completed.{Completed}
use Rattle.channel_calls.specs.Asks.{kept_by, lent}
use Rattle.channel_calls.specs.Answered.{asked_next, forced_next}
use Rattle.channel_calls.specs.Replies.{FollowsTurn, FollowsStage, MayEnd, ReplyAllowed}
use Rattle.channel_calls.specs.Turns.{nothing_kept}
use Rattle.channel_calls.specs.Walks.{Takes}

module _ {T : Type 0} (W : Type 0) (f : QueueForm) (one : QueueCall T) where
  pub sends : (v : T) → IsAsking one (ask.Push v) → (r : Reply T) (m : Option T) → MayEnd {W = W} f (Trying one purpose.TrySend) r m → ReplyAllowed {W = W} f (call.TrySend v) r m
  sends v asks r m h = h (ask.Push v) (λ y may. subst (λ (z : CallState T). MayCall f z y) asks may) v refl

  pub displaces : (v : T) → IsAsking one (ask.ForcePush v) → (r : Reply T) (m : Option T) → MayEnd {W = W} f (Trying one purpose.ForceSend) r m → ReplyAllowed {W = W} f (call.ForceSend v) r m
  displaces v asks r m h = h (ask.ForcePush v) (λ y may. subst (λ (z : CallState T). MayCall f z y) asks may) v refl

  pub asks_length : IsAsking one ask.Len → (r : Reply T) (m : Option T) → MayEnd {W = W} f (Trying one purpose.Ask) r m → ReplyAllowed {W = W} f call.Len r m
  asks_length asks r m h = h ask.Len (λ y may. subst (λ (z : CallState T). MayCall f z y) asks may)

  pub receives : IsAsking one ask.Pop → (r : Reply T) (m : Option T) → MayEnd {W = W} f (Trying one purpose.TryRecv) r m → ReplyAllowed {W = W} f call.TryRecv r m
  receives asks r m h = h ask.Pop (λ y may. subst (λ (z : CallState T). MayCall f z y) asks may) refl

  pub polls_send : (v : T) (task : W) → IsAsking one (ask.Push v) → (r : Reply T) (m : Option T) → MayEnd {W = W} f (Trying one (purpose.Poll Sends None task)) r m → ReplyAllowed {W = W} f (call.PollSend v (lent None) task) r m
  polls_send v task asks r m h = h (ask.Push v) (λ y may. subst (λ (z : CallState T). MayCall f z y) asks may) v refl

  pub polls_receive : (task : W) → IsAsking one ask.Pop → (r : Reply T) (m : Option T) → MayEnd {W = W} f (Trying one (purpose.Poll Receives None task)) r m → ReplyAllowed {W = W} f (call.PollRecv (lent None) task) r m
  polls_receive task asks r m h = h ask.Pop (λ y may. subst (λ (z : CallState T). MayCall f z y) asks may) refl

  pub polls_stream : (task : W) → IsAsking one ask.Pop → (r : Reply T) (m : Option T) → MayEnd {W = W} f (Trying one (purpose.Poll Streams None task)) r m → ReplyAllowed {W = W} f (call.PollNext None task) r m
  polls_stream task asks r m h = h ask.Pop (λ y may. subst (λ (z : CallState T). MayCall f z y) asks may) refl

module _ {T W : Type 0} where
  -- a turn that answers leaves nothing
  abbrev pub KeepsNothing : NextStep T W → Type 0
  KeepsNothing turn = (r : Reply T) (s : Stage (QueueCall T) T W) → Takes turn s (Some r) → s ≡ Finished nothing_kept

  pub forced_keeps : (y : QueueReply T) → KeepsNothing (forced_next y)
  forced_keeps (Force (Ok u)) r s t = let e = t.0 in cc
  forced_keeps (Force (Err (force_error.Closed m))) r s t = t.1
  forced_keeps (Force (Err (force_error.NoMemory m))) r s t = t.1
  forced_keeps (Push y) r s t = t.1
  forced_keeps (Pop y) r s t = t.1
  forced_keeps (Close y) r s t = t.1
  forced_keeps (Flag y) r s t = t.1
  forced_keeps (Count y) r s t = t.1
  forced_keeps (Cap y) r s t = t.1

  pub asked_keeps : (y : QueueReply T) → KeepsNothing (asked_next y)
  asked_keeps (Flag y) r s t = t.1
  asked_keeps (Count y) r s t = t.1
  asked_keeps (Cap y) r s t = t.1
  asked_keeps (Push y) r s t = t.1
  asked_keeps (Force y) r s t = t.1
  asked_keeps (Pop y) r s t = t.1
  asked_keeps (Close y) r s t = t.1

  pub keeps_by : (turn turn0 : NextStep T W) → turn ≡ turn0 → KeepsNothing turn0 → KeepsNothing turn
  keeps_by turn turn0 e h r s t = h r s (subst (λ (x : NextStep T W). Takes x s (Some r)) e t)

  -- what `turned` says of a call after its turn
  abbrev pub Turned : NextStep T W → Result (Reply T) (ChannelCall T W) → Type 0
  Turned turn result =
      MatchResult result (λ r. (s : Stage (QueueCall T) T W) × Takes turn s (Some r) × ((b : QueueForm) → FollowsTurn b turn s (Some r)))
      (λ call. Takes turn call.stage None × ((b : QueueForm) → FollowsTurn b turn call.stage None))

  -- an answer that comes at once, and leaves nothing
  pub leaves_nothing : (x : Reply T) → KeepsNothing (Ends x nothing_kept)
  leaves_nothing x r s t = t.1

  pub at_once : (x : Reply T) → Turned (Ends x nothing_kept) (Ok x)
  at_once x = (Finished nothing_kept, (refl, refl), λ b. (refl, refl))

  -- and what `over` says of a poll
  abbrev pub TurnedOver : NextStep T W → Result (Completed T) (ChannelCall T W) → Type 0
  TurnedOver turn result =
      MatchResult result (λ e. (s : Stage (QueueCall T) T W) × Takes turn s (Some e.reply) × (e.kept ≡ kept_by s) × ((b : QueueForm) → FollowsTurn b turn s (Some e.reply)))
      (λ call. Takes turn call.stage None × ((b : QueueForm) → FollowsTurn b turn call.stage None))

  -- what may be given to a poll on its fast path
  abbrev pub GivesOver : QueueForm → ChannelAsk T W → Result (Completed T) (ChannelCall T W) → Type 0
  GivesOver f asked result =
      MatchResult result (λ e. ReplyAllowed f asked e.reply e.kept.message) (λ call. (r : Reply T) (m : Option T) → MayEnd f call.stage r m → ReplyAllowed f asked r m)

  -- what may be given to a call on its fast path
  abbrev pub GivesOnEnd : QueueForm → ChannelAsk T W → Result (Reply T) (ChannelCall T W) → Type 0
  GivesOnEnd f asked result =
      MatchResult result (λ r. ReplyAllowed f asked r None) (λ call. (r : Reply T) (m : Option T) → MayEnd f call.stage r m → ReplyAllowed f asked r m)

  module _ (f : QueueForm) (one : QueueCall T) (x : Purpose T W) (asked : ChannelAsk T W) (gives : (r : Reply T) (m : Option T) → MayEnd f (Trying one x) r m → ReplyAllowed f asked r m) where
    pub gives_by : (turn : NextStep T W) (result : Result (Reply T) (ChannelCall T W)) → Turned turn result → KeepsNothing turn
        → ((s : Stage (QueueCall T) T W) (r : Option (Reply T)) → FollowsTurn f turn s r → FollowsStage f (Trying one x) s r) → GivesOnEnd f asked result
    gives_by turn (Ok r) (s, taken, follows) keeps through =
        gives r None (subst (λ (t : Stage (QueueCall T) T W). MayEnd f (Trying one x) r (kept_by t).message) (keeps r s taken) (through s (Some r) (follows f)))
    gives_by turn (Err left) (taken, follows) keeps through = λ r m may. gives r m (through left.stage None (follows f) r m may)

    pub gives_over : (turn : NextStep T W) (result : Result (Completed T) (ChannelCall T W)) → TurnedOver turn result
        → ((s : Stage (QueueCall T) T W) (r : Option (Reply T)) → FollowsTurn f turn s r → FollowsStage f (Trying one x) s r) → GivesOver f asked result
    gives_over turn (Ok e) (s, taken, kept, follows) through =
        gives e.reply e.kept.message (subst (λ (k : Returned T). MayEnd f (Trying one x) e.reply k.message) (sym kept) (through s (Some e.reply) (follows f)))
    gives_over turn (Err left) (taken, follows) through = λ r m may. gives r m (through left.stage None (follows f) r m may)
