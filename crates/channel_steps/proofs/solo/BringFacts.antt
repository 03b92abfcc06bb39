-- How long a call that is alone at work may still bring a message.
use Rattle.channel_steps.proofs.solo.Words.{◌≡◌, true, Option, None, Some, Ok, subst, Phase, QueueReply, Reply, Purpose, Closer, Ending, ListenerRef, WaitList, Sends, Closings, Stage, Working, Finished, NextStep, ListStep, TellReceive, TellStreams, TellSend, TellSends, TellAll, Leave, Count, ends_by, closer_ending, told_all_next, answered_next, Channel, Effect, Turned, Worked}
use Rattle.concurrent_queue.specs.declared.call.QueueReply.TheVariants as answer
use Rattle.channel_calls.specs.declared.stage.Purpose.TheVariants as purpose
use Rattle.channel_steps.proofs.solo.TryFacts.{brought_by}

module _ {T W : Type 0} where
  -- it tries, or works to try; one that tells or leaves has brought its message, or brings none
  abbrev pub MayBring : {Q : Type 0} → Stage Q T W → Type 0
  MayBring (Working (TellReceive x)) = ⊥
  MayBring (Working (TellStreams x)) = ⊥
  MayBring (Working (TellSend x)) = ⊥
  MayBring (Working (TellSends n x)) = ⊥
  MayBring (Working (TellAll line by)) = ⊥
  MayBring (Working (Leave x)) = ⊥
  MayBring (Working (Count side)) = ⊥
  MayBring (Finished kept) = ⊥
  MayBring at = Unit {0}

  module _ (r : Option (Reply T)) (s : Stage (Phase T) T W) where
    ended : (x : Reply T) (message : Option T) (held : Option ListenerRef)
        → Turned (let t : NextStep T W = ends_by (record { reply = x; message = message; held = held }) in t) r s → MayBring s → ⊥
    ended x message None t h = subst (λ (z : Stage (Phase T) T W). MayBring z) t.1 h
    ended x message (Some held) t h = subst (λ (z : Stage (Phase T) T W). MayBring z) t.1 h

    ends_late : (x : Ending T) → Turned (let t : NextStep T W = ends_by x in t) r s → MayBring s → ⊥
    ends_late x t h = ended x.reply x.message x.held t h

    told_late : (line : WaitList) (by : Closer) → Turned (let t : NextStep T W = told_all_next line by in t) r s → MayBring s → ⊥
    told_late Closings by t h = ends_late (closer_ending by true) t h
    told_late line by t h = subst (λ (z : Stage (Phase T) T W). MayBring z) t.1 h

    -- who may bring one after such a step may have done so before it
    pub worked_brings : (c : Channel T W) (w : ListStep T W) (e : Effect T W) → Worked c w e r s → MayBring s → MayBring (let at : Stage (Phase T) T W = Working w in at)
    worked_brings c (TellReceive x) e g h = subst (λ (z : Stage (Phase T) T W). MayBring z) g.1.1 h
    worked_brings c (TellStreams x) e g h = ends_late x g.1 h
    worked_brings c (TellSend x) e g h = ends_late x g.1 h
    worked_brings c (TellSends n x) e g h = ends_late x g.1 h
    worked_brings c (TellAll line by) e g h = told_late line by g.1 h
    worked_brings c (Leave x) e g h = subst (λ (z : Stage (Phase T) T W). MayBring z) g.1.1 h
    worked_brings c (Count side) e g h = subst (λ (z : Stage (Phase T) T W). MayBring z) g.1.1 h
    worked_brings c w e g h = tt

    -- once a message came in, none comes any more
    pub brings_once : (x : Purpose T W) (y : QueueReply T) → brought_by y ≡ 1 → Turned (answered_next x y) r s → MayBring s → ⊥
    brings_once (purpose.Poll Sends key task) (answer.Push (Ok u)) e t h = subst (λ (z : Stage (Phase T) T W). MayBring z) t.1 h
    brings_once (purpose.Poll line key task) (answer.Push (Ok u)) e t h = subst (λ (z : Stage (Phase T) T W). MayBring z) t.1 h
    brings_once x (answer.Push (Ok u)) e t h = subst (λ (z : Stage (Phase T) T W). MayBring z) t.1 h
    brings_once (purpose.Poll Sends key task) (answer.Force (Ok d)) e t h = subst (λ (z : Stage (Phase T) T W). MayBring z) t.1 h
    brings_once (purpose.Poll line key task) (answer.Force (Ok d)) e t h = subst (λ (z : Stage (Phase T) T W). MayBring z) t.1 h
    brings_once x (answer.Force (Ok d)) e t h = subst (λ (z : Stage (Phase T) T W). MayBring z) t.1 h
    brings_once x y e t h = absurd (let never : brought_by y ≡ 1 = e in cc)
