-- The fast path of a call with no other under way: how far it has come, and what one step of its machine makes of that.
use Rattle.std.proofs.Common.{◌≡◌, ◌∙◌, ◌<◌, ℕ, List, Option, None, Some, refl, sym, ap, subst}
use Rattle.concurrent_queue.specs.Step.{Starts, mark_of}
use Rattle.concurrent_queue.specs.declared.queue_call.QueueCall.{QueueCall}
use Rattle.concurrent_queue.specs.declared.call.QueueAsk.{QueueAsk}
use Rattle.concurrent_queue.specs.declared.call.QueueMark.{QueueMark}
use Rattle.concurrent_queue.specs.declared.call.QueueReply.{QueueReply}
use Rattle.event_listener.specs.Notices.{Woken}
use Rattle.channel_calls.specs.declared.ask.ChannelAsk.{ChannelAsk}
use Rattle.channel_calls.specs.declared.mark.Mark.{Mark}
use Rattle.channel_calls.specs.declared.mark.Mark.TheVariants.{Nothing}
use Rattle.channel_calls.specs.declared.plain.PlainChannel.{PlainChannel}
use Rattle.channel_calls.specs.declared.reply.Reply.{Reply}
use Rattle.channel_calls.specs.declared.stage.Purpose.{Purpose}
use Rattle.channel_calls.specs.declared.stage.Stage.{Stage}
use Rattle.channel_calls.specs.declared.stage.Stage.TheVariants.{Trying, Working, Finished}
use Rattle.channel_calls.specs.declared.stage.NextStep.TheVariants.{Tries, Works, Ends}
use Rattle.channel_calls.specs.declared.stage.Telling.TheVariants.{One, All}
use Rattle.channel_calls.specs.declared.stage.WaitList.TheVariants.{Sends, Receives, Streams}
use Rattle.channel_calls.specs.declared.stage.ListStep.{ListStep}
use Rattle.channel_calls.specs.declared.stage.ListStep.TheVariants.{TellReceive, TellStreams, TellSend}
use Rattle.channel_calls.specs.Answered.{answered_next}
use Rattle.channel_calls.specs.Asks.{first, kept_by}
use Rattle.channel_calls.specs.Deeds.{Done as Did, stepped, told}
use Rattle.channel_calls.specs.Marks.{mark_of_queue}
use Rattle.channel_calls.specs.Moves.{IsTaken}
use Rattle.channel_calls.specs.Plain.{parts_of, DoesPlain}
use Rattle.channel_calls.specs.Turns.{nothing_kept, says}
use Rattle.channel_calls.specs.Walks.{ChannelMakes}
use Rattle.channel_steps.specs.Count.{counted}
use Rattle.channel_steps.specs.solo.Run.{IsAtRest}
use Rattle.channel_steps.specs.solo.Configurations.{RunsInConfigurations}
use Rattle.channel_calls.specs.declared.whole.Completed.{Completed}
use Rattle.channel_steps.specs.Left.{steps_left}
use Rattle.channel_steps.proofs.solo.ConfigurationLoop.{IsBetween, plain_step, configurations_start, configurations_more, configurations_nearer, configurations_end}

module _ {T W S : Type 0} (wakes : S → W → S → Type 0) (a : ChannelAsk T W) (c0 : PlainChannel T W) (sink0 : S) (messages0 : ℕ) where
  -- how far the call has come, with so many messages counted
  abbrev pub HasCome : PlainChannel T W → Stage (QueueCall T) T W → S → ℕ → Type 0
  HasCome c stage sink messages = IsBetween wakes a (parts_of c0) sink0 messages0 (parts_of c) stage sink messages

  -- what a call left that answers this, with nothing kept
  abbrev pub IsOver : Completed T → PlainChannel T W → S → ℕ → Type 0
  IsOver done d l messages = RunsInConfigurations wakes a (parts_of c0) sink0 messages0 done (parts_of d) l messages

  -- one that tries first has asked the queue, and nothing more
  pub comes_in : (x : QueueAsk T) (purpose : Purpose T W) (call : QueueCall T) → first a ≡ Tries x purpose → Starts call x
      → HasCome c0 (Trying call purpose) sink0 messages0
  comes_in x purpose call tries starts =
      let begins : IsTaken (first a) None (Trying call purpose) = rw tries (call, starts, refl, refl) in
      configurations_start wakes a (parts_of c0) sink0 messages0 (record { stage = Trying call purpose; mark = Nothing }) (None, begins)

  over_as : (done : Completed T) (y : Reply T) (d : PlainChannel T W) (l : S) (n : ℕ) → done ≡ record { reply = y; kept = nothing_kept }
      → IsOver (record { reply = y; kept = nothing_kept }) d l n → IsOver done d l n
  over_as done y d l n is x = subst (λ (o : Completed T). IsOver o d l n) (sym is) x

  module _ (c d : PlainChannel T W) (stage next : Stage (QueueCall T) T W) (k l : S) (messages n : ℕ) (m : Mark)
      (x : HasCome c stage k messages) (count : n ≡ counted messages m) where
    -- a step that does not answer
    module _ (made : ChannelMakes (Did DoesPlain wakes) stage (c, k) (d, l) m next None) where
      comes_on : HasCome d next l n
      comes_on =
          configurations_more wakes a (parts_of c0) sink0 messages0 (parts_of c) stage k messages x (parts_of d) next m l n m refl count
          (plain_step wakes c d k l m next None stage made)

      comes_nearer : IsAtRest (parts_of c0)
          → steps_left (parts_of d).cells (parts_of d).wait_lists next < steps_left (parts_of c).cells (parts_of c).wait_lists stage
      comes_nearer rest =
          configurations_nearer wakes a (parts_of c0) sink0 messages0 (parts_of c) stage k messages x (parts_of d) next m l n m refl count
          (plain_step wakes c d k l m next None stage made) rest

    -- and one that answers
    comes_to : (y : Reply T) → ChannelMakes (Did DoesPlain wakes) stage (c, k) (d, l) m next (Some y)
        → IsOver (record { reply = y; kept = kept_by next }) d l n
    comes_to y made =
        configurations_end wakes a (parts_of c0) sink0 messages0 (parts_of c) stage k messages x (parts_of d) next m l n m refl count
        y (plain_step wakes c d k l m next (Some y) stage made) (kept_by next) refl

  -- a step of the queue's call
  module _ (purpose : Purpose T W) (c d : PlainChannel T W) (call after : QueueCall T) (k : S) (messages n : ℕ)
      (x : HasCome c (Trying call purpose) k messages) (last : QueueMark) (last_is : last ≡ mark_of after) (now : n ≡ counted messages (mark_of_queue last))
      (o : Option (QueueReply T)) (deed : DoesPlain (stepped call after o) c d) where
    abbrev mark : Mark
    mark = mark_of_queue (mark_of after)

    count : n ≡ counted messages mark
    count = now ∙ ap (λ (m : QueueMark). counted messages (mark_of_queue m)) last_is

    abbrev silent : o ≡ None → DoesPlain (stepped call after None) c d
    silent e = subst (λ (p : Option (QueueReply T)). DoesPlain (stepped call after p) c d) e deed

    abbrev answered : (z : QueueReply T) → o ≡ Some z → DoesPlain (stepped call after (Some z)) c d
    answered z e = subst (λ (p : Option (QueueReply T)). DoesPlain (stepped call after p) c d) e deed

    pub tries_on : o ≡ None → HasCome d (Trying after purpose) k n
    tries_on e = comes_on c d (Trying call purpose) (Trying after purpose) k k messages n mark x count (after, None, (silent e, refl), refl, (refl, refl))

    pub tries_nearer : o ≡ None → IsAtRest (parts_of c0)
        → steps_left (parts_of d).cells (parts_of d).wait_lists (Trying after purpose) < steps_left (parts_of c).cells (parts_of c).wait_lists (Trying call purpose)
    tries_nearer e rest =
        comes_nearer c d (Trying call purpose) (Trying after purpose) k k messages n mark x count (after, None, (silent e, refl), refl, (refl, refl)) rest

    -- a call to which the queue gives its last answer
    pub tries_over : (z : QueueReply T) (y : Reply T) (done : Completed T) → o ≡ Some z → answered_next purpose z ≡ Ends y nothing_kept
        → done ≡ record { reply = y; kept = nothing_kept } → IsOver done d k n
    tries_over z y done e ends is =
        over_as done y d k n is (comes_to c d (Trying call purpose) (Finished nothing_kept) k k messages n mark x count y
        (after, Some z, (answered z e, refl), refl, rw ends (refl, refl)))

    -- and one after which somebody is to be told
    pub tries_well : (z : QueueReply T) (w : ListStep T W) → o ≡ Some z → answered_next purpose z ≡ Works w → HasCome d (Working w) k n
    tries_well z w e works =
        comes_on c d (Trying call purpose) (Working w) k k messages n mark x count
        (after, Some z, (answered z e, refl), refl, rw works (refl, refl))

  -- a message is in: one receive is told, and then all streams
  pub tells_all_over : (y : Reply T) (done : Completed T) (c d e : PlainChannel T W) (k l s : S) (n : ℕ)
      → HasCome c (Working (TellReceive (says y))) k n
      → (names : List W) → DoesPlain (told Receives One names) c d → Woken wakes k names l
      → (others : List W) → DoesPlain (told Streams All others) d e → Woken wakes l others s
      → done ≡ record { reply = y; kept = nothing_kept } → IsOver done e s n
  tells_all_over y done c d e k l s n x names one heard others all woken is =
      over_as done y e s n is (comes_to d e (Working (TellStreams (says y))) (Finished nothing_kept) l s n n Nothing
      (comes_on c d (Working (TellReceive (says y))) (Working (TellStreams (says y))) k l n n Nothing x refl
      (names, (one, heard), (refl, (refl, refl))))
      refl y (others, (all, woken), (refl, (refl, refl))))

  -- a message was taken: one send is told
  pub tells_one_over : (y : Reply T) (done : Completed T) (c d : PlainChannel T W) (k l : S) (n : ℕ)
      → HasCome c (Working (TellSend (says y))) k n
      → (names : List W) → DoesPlain (told Sends One names) c d → Woken wakes k names l
      → done ≡ record { reply = y; kept = nothing_kept } → IsOver done d l n
  tells_one_over y done c d k l n x names one heard is =
      over_as done y d l n is (comes_to c d (Working (TellSend (says y))) (Finished nothing_kept) k l n n Nothing x refl y
      (names, (one, heard), (refl, (refl, refl))))
