-- Steps of a channel's call, and walks of it, by the deeds that its methods did.
use Rattle.std.proofs.Common.{◌≡◌, ℕ, zero, suc, Option, None, Some, Result, Ok, Err, refl, sym, ap, subst}
use Rattle.concurrent_queue.specs.Replies.{IsAsking}
use Rattle.concurrent_queue.specs.Step.{Starts, mark_of}
use Rattle.concurrent_queue.specs.declared.call.QueueAsk.{QueueAsk}
use Rattle.concurrent_queue.specs.declared.call.QueueReply.{QueueReply}
use Rattle.concurrent_queue.specs.declared.queue_call.QueueCall.{QueueCall}
use Rattle.channel_calls.proofs.FastPathSteps.{KeepsNothing, Turned, TurnedOver}
use Rattle.channel_calls.specs.Answered.{answered_next}
use Rattle.channel_calls.specs.Asks.{kept_by}
use Rattle.channel_calls.specs.Deeds.{Deed, stepped}
use Rattle.channel_calls.specs.Marks.{mark_of_queue}
use Rattle.channel_calls.specs.Moves.{IsTaken}
use Rattle.channel_calls.specs.Turns.{nothing_kept}
use Rattle.channel_calls.specs.Walks.{Takes, ChannelMakes, Leads, Walked, WalkedFrom, WalkedTo, WalkedOn, WalkedOver}
use Rattle.channel_calls.specs.declared.call.ChannelCall.{ChannelCall}
use Rattle.channel_calls.specs.declared.mark.Mark.{Mark}
use Rattle.channel_calls.specs.declared.reply.Reply.{Reply}
use Rattle.channel_calls.specs.declared.stage.Purpose.{Purpose}
use Rattle.channel_calls.specs.declared.stage.Returned.{Returned}
use Rattle.channel_calls.specs.declared.stage.Stage.{Stage}
use Rattle.channel_calls.specs.declared.stage.Stage.TheVariants.{Trying}
use Rattle.channel_calls.specs.declared.stage.NextStep.{NextStep}
use Rattle.channel_calls.specs.declared.stage.NextStep.TheVariants.{Tries, Works, Ends}
use Rattle.channel_calls.specs.declared.whole.Completed.{Completed}

module _ {T W : Type 0} where
  pub taken_of : (turn : NextStep T W) (s : Stage (QueueCall T) T W) (r : Option (Reply T)) → Takes turn s r → IsTaken turn r s
  taken_of (Tries x purpose) s r (call, starts, asks, none, e) = (call, starts, none, e)
  taken_of (Works w) s r h = h
  taken_of (Ends x kept) s r h = h

module _ {T W X : Type 0} (did : Deed T W → X → X → Type 0) where
  pub at_stage : (a b : Stage (QueueCall T) T W) → b ≡ a → (s t : X) (m : Mark) (c : Stage (QueueCall T) T W) (r : Option (Reply T)) → ChannelMakes did a s t m c r → ChannelMakes did b s t m c r
  at_stage a b e s t m c r h = subst (λ (z : Stage (QueueCall T) T W). ChannelMakes did z s t m c r) (sym e) h

  -- one step more
  pub leads_on : (n : ℕ) (s : X) (a : Stage (QueueCall T) T W) (x : X) (b : Stage (QueueCall T) T W) (m : Mark) (t : X) (c : Stage (QueueCall T) T W)
      → Leads did n s a x b → ChannelMakes did b x t m c None → Leads did (suc n) s a t c
  leads_on zero s a x b m t c (e, f) step =
      let there : ChannelMakes did a s t m c None =
      subst (λ (z : Stage (QueueCall T) T W). ChannelMakes did z s t m c None) f (subst (λ (z : X). ChannelMakes did b z t m c None) e step)
      in
      (t, c, m, there, (refl, refl))
  leads_on (suc n) s a x b m t c (y, d, k, first, rest) step = (y, d, k, first, leads_on n y d x b m t c rest step)

  -- steps that lead on to a walk
  pub walks_on : (n : ℕ) (a : Stage (QueueCall T) T W) (s : X) (b : Stage (QueueCall T) T W) (x : X) (r : Reply T) (kept : Returned T) (t : X)
      → Leads did n s a x b → Walked did b x r kept t → Walked did a s r kept t
  walks_on zero a s b x r kept t (e, f) walk =
      subst (λ (z : Stage (QueueCall T) T W). Walked did z s r kept t) f (subst (λ (z : X). Walked did b z r kept t) e walk)
  walks_on (suc n) a s b x r kept t (y, d, k, first, rest) walk =
      let w = walks_on n d y b x r kept t rest walk in
      (suc w.0, w.1, w.2, w.3, w.4, (y, d, k, first, w.5), w.6, w.7)

  -- a poll that is handed on, and is walked to its end
  pub polled_on : (turn : NextStep T W) (s x t : X) (call : ChannelCall T W) (r : Reply T) (kept : Returned T)
      → WalkedOver did turn s (Err call) x → Walked did call.stage x r kept t → WalkedFrom did turn s r kept t
  polled_on turn s x t call r kept (a, takes, n, leads) walk = (a, takes, walks_on n a s call.stage x r kept t leads walk)

  -- a call that is handed on, and is walked to its end
  pub handed_on : (turn : NextStep T W) (s x t : X) (call : ChannelCall T W) (r : Reply T) (kept : Returned T)
      → WalkedOn did turn s (Err call) x → Walked did call.stage x r kept t → WalkedTo did turn s r t
  handed_on turn s x t call r kept handed walk = (kept, polled_on turn s x t call r kept handed walk)

  -- an answer by another name
  pub answered_as : (turn : NextStep T W) (s t : X) (r r' : Reply T) (kept : Returned T) → r ≡ r' → WalkedFrom did turn s r kept t → WalkedFrom did turn s r' kept t
  answered_as turn s t r r' kept e h = subst (λ (z : Reply T). WalkedFrom did turn s z kept t) e h

  -- a call of the queue that was asked, and answered or goes on
  module _ (s t : X) (x : QueueAsk T) (purpose : Purpose T W) (one two : QueueCall T) (starts : Starts one x) (asks : IsAsking one x) (o : Option (QueueReply T)) (deed : did (stepped one two o) s t) where
    pub goes_on : o ≡ None → (m : Mark) → WalkedOn did (Tries x purpose) s (Err (record { stage = Trying two purpose; mark = m })) t
    goes_on none m =
        let d : did (stepped one two None) s t = subst (λ (z : Option (QueueReply T)). did (stepped one two z) s t) none deed in
        (Trying one purpose, (one, starts, asks, refl, refl), 1, (t, Trying two purpose, mark_of_queue (mark_of two), (two, None, d, refl, (refl, refl)), (refl, refl)))

    pub answers : (y : QueueReply T) → o ≡ Some y → (turn : NextStep T W) → turn ≡ answered_next purpose y → KeepsNothing turn
        → (result : Result (Reply T) (ChannelCall T W)) → Turned turn result → WalkedOn did (Tries x purpose) s result t
    answers y some turn next keeps (Ok r) (c, takes, follows) =
        let d : did (stepped one two (Some y)) s t = subst (λ (z : Option (QueueReply T)). did (stepped one two z) s t) some deed in
        let now : Takes (answered_next purpose y) c (Some r) = subst (λ (z : NextStep T W). Takes z c (Some r)) next takes in
        let none : nothing_kept ≡ kept_by c = sym (ap (λ (z : Stage (QueueCall T) T W). kept_by z) (keeps r c takes)) in
        (Trying one purpose, (one, starts, asks, refl, refl), (0, s, Trying one purpose, mark_of_queue (mark_of two), c, (refl, refl), (two, Some y, d, refl, now), none))
    answers y some turn next keeps (Err call) (takes, follows) =
        let d : did (stepped one two (Some y)) s t = subst (λ (z : Option (QueueReply T)). did (stepped one two z) s t) some deed in
        let now : Takes (answered_next purpose y) call.stage None = subst (λ (z : NextStep T W). Takes z call.stage None) next takes in
        (Trying one purpose, (one, starts, asks, refl, refl), 1, (t, call.stage, mark_of_queue (mark_of two), (two, Some y, d, refl, now), (refl, refl)))

    -- and of a poll that is over, or is handed on
    pub polls : (y : QueueReply T) → o ≡ Some y → (turn : NextStep T W) → turn ≡ answered_next purpose y → (result : Result (Completed T) (ChannelCall T W)) → TurnedOver turn result
        → WalkedOver did (Tries x purpose) s result t
    polls y some turn next (Ok e) (c, takes, kept, follows) =
        let d : did (stepped one two (Some y)) s t = subst (λ (z : Option (QueueReply T)). did (stepped one two z) s t) some deed in
        let now : Takes (answered_next purpose y) c (Some e.reply) = subst (λ (z : NextStep T W). Takes z c (Some e.reply)) next takes in
        (Trying one purpose, (one, starts, asks, refl, refl), (0, s, Trying one purpose, mark_of_queue (mark_of two), c, (refl, refl), (two, Some y, d, refl, now), kept))
    polls y some turn next (Err call) (takes, follows) =
        let d : did (stepped one two (Some y)) s t = subst (λ (z : Option (QueueReply T)). did (stepped one two z) s t) some deed in
        let now : Takes (answered_next purpose y) call.stage None = subst (λ (z : NextStep T W). Takes z call.stage None) next takes in
        (Trying one purpose, (one, starts, asks, refl, refl), 1, (t, call.stage, mark_of_queue (mark_of two), (two, Some y, d, refl, now), (refl, refl)))
