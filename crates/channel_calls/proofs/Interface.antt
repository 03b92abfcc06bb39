-- What a layer above may use: what a step of a call is over cells whose contents are known; what its machine does by one relation and
-- by another; whom a section tells that tells so many more, and whom it wakes.
use Rattle.std.proofs.Common.{◌≡◌, ℕ, true, ◌++◌, Option, map, take, drop, ap}
use Rattle.concurrent_queue.specs.declared.queue_call.QueueCall.{QueueCall}
use Rattle.event_listener.specs.Lists.{told_with, tasks_of}
use Rattle.channel_calls.specs.Deeds.{Deed, Done}
use Rattle.channel_calls.specs.Effects.{Does, IsExact}
use Rattle.channel_calls.specs.Moves.{IsChannelStep}
use Rattle.channel_calls.specs.Parts.{Parts, Listeners, told_more, told_more_wakes}
use Rattle.channel_calls.specs.Walks.{ChannelMakes}
use Rattle.channel_calls.specs.declared.mark.Mark.{Mark}
use Rattle.channel_calls.specs.declared.reply.Reply.{Reply}
use Rattle.channel_calls.specs.declared.stage.Stage.{Stage}
use Rattle.channel_calls.proofs.Carrying as carrying
use Rattle.channel_calls.proofs.NoticeFacts as facts
use Rattle.channel_calls.proofs.Steps as steps

-- what a machine does by one relation it does by another, by which its deed was done too
pub carried : {T W X Y : Type 0} (did : Deed T W → X → X → Type 0) (does : Deed T W → Y → Y → Type 0) (s t : X) (u v : Y) → ((d : Deed T W) → did d s t → does d u v) → (t ≡ s → v ≡ u)
    → (m : Mark) (next : Stage (QueueCall T) T W) (r : Option (Reply T)) (at : Stage (QueueCall T) T W) → ChannelMakes did at s t m next r → ChannelMakes does at u v m next r
carried did does s t u v deed none m next r at h = carrying.carried did does s t u v deed none m next r at h

-- over cells whose deeds are exact it is one step, whatever other calls are under way
module _ {T W C S : Type 0} (did : Deed T W → C → C → Type 0) (parts : C → Parts T W) (exact : IsExact did parts) (wakes : S → W → S → Type 0) where
  abbrev seen : C × S → Parts T W × S
  seen x = (parts x.0, x.1)

  pub exact_step : (a b : C) (k l : S) (m : Mark) (next : Stage (QueueCall T) T W) (r : Option (Reply T)) (at : Stage (QueueCall T) T W)
      → ChannelMakes (Done did wakes) at (a, k) (b, l) m next r → IsChannelStep wakes (parts a) at k (parts b) next m r l
  exact_step a b k l m next r at h =
      steps.made wakes (parts a) (parts b) k l m next r at
      (carried (Done did wakes) (Done Does wakes) (a, k) (b, l) (seen (a, k)) (seen (b, l)) (λ d h. (exact d a b h.0, h.1)) (λ e. ap seen e) m next r at h)

module _ {W : Type 0} where
  -- the first of those that wait
  pub told_firsts : (n : ℕ) (l : Listeners W)
      → told_more n l ≡ record { told = l.told ++ told_with true (take n l.waiting) (map (λ w. tt) (take n l.waiting)); waiting = drop n l.waiting }
  told_firsts n l = facts.told_firsts n l.told l.waiting

  pub woken_firsts : (n : ℕ) (l : Listeners W) → told_more_wakes n l ≡ tasks_of (take n l.waiting)
  woken_firsts n l = facts.woken_firsts n l.told l.waiting
