-- What a call does next by the view of its seat is its party's next act, at once or after the step by which it takes its room.
use Rattle.std.proofs.Common.{◌≡◌, ◌⊎◌, inl, inr, ℕ, suc, refl, sym, ap, ◌∙◌}
use Rattle.std.specs.Prelude.{Option, None, Some}
use Rattle.concurrent_queue.specs.Bridge.{asking}
use Rattle.concurrent_queue.specs.declared.call.QueueAsk.TheVariants.{Pop}
use Rattle.concurrent_queue.specs.declared.call.QueueMark.TheVariants as queue_mark
use Rattle.concurrent_queue.specs.declared.cells.QueueForm.{QueueForm}
use Rattle.concurrent_queue.specs.declared.queue_call.QueueCall.{QueueCall}
use Rattle.concurrent_queue.proofs.FitsFacts.{starts}
use Rattle.channel_calls.specs.Deeds.{Deed}
use Rattle.channel_calls.specs.Several.{gathering}
use Rattle.channel_calls.specs.Stands.{NextDeed}
use Rattle.channel_calls.specs.Tracked.{unmarked}
use Rattle.channel_calls.specs.Turns.{room_next}
use Rattle.channel_calls.specs.Walks.{ChannelMakes}
use Rattle.channel_calls.specs.declared.mark.Mark.{Mark}
use Rattle.channel_calls.specs.declared.mark.Mark.TheVariants.{Nothing}
use Rattle.channel_calls.specs.declared.reply.Reply.{Reply}
use Rattle.channel_calls.specs.declared.stage.ListStep.TheVariants.{TakeRoom}
use Rattle.channel_calls.specs.declared.stage.Purpose.TheVariants.{RecvMany}
use Rattle.channel_calls.specs.declared.stage.Stage.{Stage}
use Rattle.channel_calls.specs.declared.stage.Stage.TheVariants.{Trying, Working, Finished}
use Rattle.channel_steps.specs.every_run.Bridge.{Act, on_nothing, Notes}
use Rattle.channel_history.specs.Cells.{StandsAt}
use Rattle.channel_history.specs.InHand.{in_hand, handles_at}
use Rattle.channel_history.specs.Party.{with_own, Makes}
use Rattle.channel_history.specs.Steps.{stepped, Steps, PartiesGoOn}
use Rattle.channel_history.specs.declared.party.Belongings.{Belongings}
use Rattle.channel_history.specs.declared.party.Standing.{Standing}
use Rattle.channel_history.proofs.Stages.{in_room, ended_still, place}
use Rattle.channel_history.proofs.Steps.{parties_go_on}

module _ {T W : Type 0} where
  -- a party whose call stands at this stage
  abbrev pub staged : Standing T W → Stage (QueueCall T) T W → Standing T W
  staged s at = record s { stage = Some at }

  pub stepped_again : (s : Standing T W) (at next : Stage (QueueCall T) T W) (answer : Option (Reply T)) → stepped (staged s at) next answer ≡ stepped s next answer
  stepped_again s at next None = refl
  stepped_again s at next (Some r) = refl

  pub stepped_own : (s : Standing T W) (next : Stage (QueueCall T) T W) (answer : Option (Reply T)) → (stepped s next answer).own ≡ s.own
  stepped_own s next None = refl
  stepped_own s next (Some r) = refl

  abbrev pub room_at : ℕ → Stage (QueueCall T) T W
  room_at n = Trying (asking Pop) (RecvMany (gathering n))

  -- the party's own machine stands there, or comes there by a step that touches nothing
  abbrev pub Comes : QueueForm → Standing T W → Stage (QueueCall T) T W → Type 0
  Comes form s at = (s.stage ≡ Some at) ⊎ Steps form s on_nothing (staged s at)

  pub comes : (form : QueueForm) (s : Standing T W) (at next : Stage (QueueCall T) T W) (d : Deed T W) → StandsAt s at → NextDeed at d next
      → (to : Stage (QueueCall T) T W) × (unmarked at ≡ unmarked to) × Comes form s to
  comes form s at next d (inl ended) (m, r, h) = absurd (ended_still at next d m r h ended)
  comes form s at next d (inr (v, is, stands)) (m, r, h) = by (place v at next d m r stands h) where
    by : (unmarked at ≡ unmarked v) ⊎ ((n : ℕ) × (v ≡ Working (TakeRoom (suc n))) × (unmarked at ≡ in_room n)) → (to : Stage (QueueCall T) T W) × (unmarked at ≡ unmarked to) × Comes form s to
    by (inl e) = (v, e, inl is)
    by (inr (n, room, e)) =
        (room_at n, e, inr (Working (TakeRoom (suc n)), Nothing, room_at n, None, is ∙ ap (λ (z : Stage (QueueCall T) T W). Some z) room, (room_next (suc n), refl, inl refl, (refl, (asking Pop, starts Pop queue_mark.Nothing, refl, refl, refl))), refl))

  -- so what the machine does there is the party's next act
  pub acts_on : (form : QueueForm) (s : Standing T W) (at next : Stage (QueueCall T) T W) (o : Act T W) (m : Mark) (answer : Option (Reply T)) → Comes form s at
      → ChannelMakes (Notes form) at on_nothing o m next answer → Makes form s o (stepped s next answer)
  acts_on form s at next o m answer (inl is) makes = let on : PartiesGoOn T W = parties_go_on T W in on.makes form s (stepped s next answer) o (at, m, next, answer, is, makes, refl)
  acts_on form s at next o m answer (inr step) makes =
      let on : PartiesGoOn T W = parties_go_on T W in
      on.later form s (staged s at) (stepped s next answer) on_nothing o tt step
      (on.makes form (staged s at) (stepped s next answer) o (at, m, next, answer, refl, makes, sym (stepped_again s at next answer)))

  -- whatever lies with its seat before and after
  pub makes_with : (form : QueueForm) (s t : Standing T W) (o : Act T W) (before after : Belongings W) → Makes form s o t → Makes form (with_own before s) o (with_own after t)
  makes_with form s t o before after (os, still, l) = (os, still, record { more = l.more; acts = l.acts; given = l.given; asked = l.asked })

  -- what it has in hand there is what it has where its view shows
  bare_hand : (at to : Stage (QueueCall T) T W) → unmarked at ≡ unmarked to → (in_hand to ≡ in_hand at) × (handles_at to ≡ handles_at at)
  bare_hand at to e =
      (sym (listeners to) ∙ (ap (λ (z : Stage (QueueCall T) T W). in_hand z) (sym e) ∙ listeners at), sym (handles to) ∙ (ap (λ (z : Stage (QueueCall T) T W). handles_at z) (sym e) ∙ handles at))
    where
      listeners : (z : Stage (QueueCall T) T W) → in_hand (unmarked z) ≡ in_hand z
      listeners (Trying call p) = refl
      listeners (Working w) = refl
      listeners (Finished kept) = refl

      handles : (z : Stage (QueueCall T) T W) → handles_at (unmarked z) ≡ handles_at z
      handles (Trying call p) = refl
      handles (Working w) = refl
      handles (Finished kept) = refl

  pub same_hand : (s : Standing T W) (at next : Stage (QueueCall T) T W) (d : Deed T W) (shown : Stage (QueueCall T) T W) → StandsAt s at → NextDeed at d next → s.stage ≡ Some shown
      → (in_hand shown ≡ in_hand at) × (handles_at shown ≡ handles_at at)
  same_hand s at next d shown (inl ended) (m, r, h) e = absurd (ended_still at next d m r h ended)
  same_hand s at next d shown (inr (v, is, stands)) (m, r, h) e = by (place v at next d m r stands h) where
    by : (unmarked at ≡ unmarked v) ⊎ ((n : ℕ) × (v ≡ Working (TakeRoom (suc n))) × (unmarked at ≡ in_room n)) → (in_hand shown ≡ in_hand at) × (handles_at shown ≡ handles_at at)
    by (inl same) = bare_hand at shown (same ∙ ap (λ (z : Stage (QueueCall T) T W). unmarked z) (let one : v ≡ shown = cc in one))
    by (inr (n, room, same)) =
        let one : shown ≡ Working (TakeRoom (suc n)) = cc in
        let here = bare_hand at (room_at n) same in
        (ap (λ (z : Stage (QueueCall T) T W). in_hand z) one ∙ here.0, ap (λ (z : Stage (QueueCall T) T W). handles_at z) one ∙ here.1)
