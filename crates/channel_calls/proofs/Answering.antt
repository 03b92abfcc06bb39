-- Questions, by the one or two steps of their call of the queue.
use Rattle.std.proofs.Common.{◌≡◌, ℕ, suc, Bool, true, false, Option, None, Some, refl, subst}
use Rattle.concurrent_queue.specs.Replies.{IsAsking}
use Rattle.concurrent_queue.specs.Step.{Starts, mark_of}
use Rattle.concurrent_queue.specs.declared.call.QueueAsk.{QueueAsk}
use Rattle.concurrent_queue.specs.declared.call.QueueAsk.TheVariants as queue
use Rattle.concurrent_queue.specs.declared.call.QueueReply.{QueueReply}
use Rattle.concurrent_queue.specs.declared.call.QueueReply.TheVariants.{Flag, Cap}
use Rattle.concurrent_queue.specs.declared.queue_call.QueueCall.{QueueCall}
use Rattle.channel_calls.specs.Answered.{answered_next}
use Rattle.channel_calls.specs.Asks.{first}
use Rattle.channel_calls.specs.Deeds.{Deed, stepped, counted}
use Rattle.channel_calls.specs.Marks.{mark_of_queue}
use Rattle.channel_calls.specs.Tried.{Comes}
use Rattle.channel_calls.specs.Turns.{nothing_kept}
use Rattle.channel_calls.specs.Walks.{WalkedTo}
use Rattle.channel_calls.specs.declared.ask.ChannelAsk.TheVariants as ask
use Rattle.channel_calls.specs.declared.mark.Mark.TheVariants.{Nothing}
use Rattle.channel_calls.specs.declared.reply.Reply.{Reply}
use Rattle.channel_calls.specs.declared.reply.Reply.TheVariants as reply
use Rattle.channel_calls.specs.declared.stage.Purpose.{Purpose}
use Rattle.channel_calls.specs.declared.stage.Purpose.TheVariants as purpose
use Rattle.channel_calls.specs.declared.stage.Side.{Side}
use Rattle.channel_calls.specs.declared.stage.Stage.TheVariants.{Trying, Working, Finished}
use Rattle.channel_calls.specs.declared.stage.NextStep.{NextStep}
use Rattle.channel_calls.specs.declared.stage.NextStep.TheVariants.{Tries, Ends}
use Rattle.channel_calls.specs.declared.stage.ListStep.TheVariants.{Count}
use Rattle.channel_calls.proofs.BlockedPolls.{comes_ends}
use Rattle.channel_calls.proofs.Walking.{leads_on, walks_on}

module _ {T W X : Type 0} (did : Deed T W → X → X → Type 0) where
  module _ (q : QueueAsk T) (a : Purpose T W) (s : X) (call : QueueCall T) (starts : Starts call q) (asks : IsAsking call q) where
    pub once : (after : QueueCall T) (y : QueueReply T) (t : X) → did (stepped call after (Some y)) s t → Comes did (Tries q a) s (answered_next a y) t
    once after y t deed =
        (Trying call a, (call, starts, asks, refl, refl), 0, s, Trying call a, mark_of_queue (mark_of after), (refl, refl), λ next r takes. (after, Some y, deed, refl, takes))

    pub twice : (mid after : QueueCall T) (y : QueueReply T) (x t : X) → did (stepped call mid None) s x → did (stepped mid after (Some y)) x t → Comes did (Tries q a) s (answered_next a y) t
    twice mid after y x t begun deed = (
      Trying call a,
      (call, starts, asks, refl, refl),
      1,
      x,
      Trying mid a,
      mark_of_queue (mark_of after),
      (x, Trying mid a, mark_of_queue (mark_of mid), (mid, None, begun, refl, (refl, refl)), (refl, refl)),
      λ next r takes. (after, Some y, deed, refl, takes),
    )

  ended : (turn : NextStep T W) (s : X) (r : Reply T) (t : X) → Comes did turn s (Ends r nothing_kept) t → WalkedTo did turn s r t
  ended turn s r t way = (nothing_kept, comes_ends did turn s r nothing_kept t way)

  pub flagged : (q : QueueAsk T) (s : X) (y : QueueReply T) (b : Bool) (t : X) → y ≡ Flag b → Comes did (Tries q purpose.Ask) s (answered_next purpose.Ask y) t → WalkedTo did (Tries q purpose.Ask) s (reply.Flag b) t
  flagged q s y b t is way = ended (Tries q purpose.Ask) s (reply.Flag b) t (subst (λ (z : QueueReply T). Comes did (Tries q purpose.Ask) s (answered_next purpose.Ask z) t) is way)

  pub capped : (q : QueueAsk T) (s : X) (y : QueueReply T) (c : Option ℕ) (t : X) → y ≡ Cap c → Comes did (Tries q purpose.Ask) s (answered_next purpose.Ask y) t → WalkedTo did (Tries q purpose.Ask) s (reply.Cap c) t
  capped q s y c t is way = ended (Tries q purpose.Ask) s (reply.Cap c) t (subst (λ (z : QueueReply T). Comes did (Tries q purpose.Ask) s (answered_next purpose.Ask z) t) is way)

  -- an open channel isn't at its end
  pub open_still : (s : X) (y : QueueReply T) (t : X) → y ≡ Flag false → Comes did (Tries queue.IsClosed purpose.IsTerminated) s (answered_next purpose.IsTerminated y) t
      → WalkedTo did (first ask.IsTerminated) s (reply.Flag false) t
  open_still s y t is way = ended (first ask.IsTerminated) s (reply.Flag false) t (subst (λ (z : QueueReply T). Comes did (first ask.IsTerminated) s (answered_next purpose.IsTerminated z) t) is way)

  -- of a closed one it is asked whether it is empty
  pub then_empty : (s x : X) (y : QueueReply T) (b : Bool) (t : X) → y ≡ Flag true → Comes did (Tries queue.IsClosed purpose.IsTerminated) s (answered_next purpose.IsTerminated y) x
      → WalkedTo did (first ask.IsEmpty) x (reply.Flag b) t → WalkedTo did (first ask.IsTerminated) s (reply.Flag b) t
  then_empty s x y b t is way (kept, (d, begins, walk)) =
      let there : Comes did (first ask.IsTerminated) s (Tries queue.IsEmpty purpose.Ask) x = subst (λ (z : QueueReply T). Comes did (first ask.IsTerminated) s (answered_next purpose.IsTerminated z) x) is way in
      let leads = leads_on did there.2 s there.0 there.3 there.4 there.5 x d there.6 (there.7 d None begins) in
      (kept, (there.0, there.1, walks_on did (suc there.2) there.0 s d x (reply.Flag b) kept t leads walk))

  pub handles_counted : (side : Side) (s : X) (n : ℕ) (t : X) → did (counted side n) s t → WalkedTo did (first (ask.HandleCount side)) s (reply.Count n) t
  handles_counted side s n t deed =
      (nothing_kept, (Working (Count side), (refl, refl), (0, s, Working (Count side), Nothing, Finished nothing_kept, (refl, refl), (n, deed, (refl, (refl, refl))), refl)))
