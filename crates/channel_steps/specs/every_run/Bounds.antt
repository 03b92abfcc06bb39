-- How many messages a channel holds at most, whether one without a bound is ever full, and how often a channel is closed.
use Rattle.std.specs.Prelude.{◌≡◌, ℕ, ◌+◌, ◌≤◌, List, [], ◌∷◌, length, true, Option, None, Some, Err}
use Rattle.channel_calls.specs.Moves.{Channel}
use Rattle.channel_calls.specs.declared.error.Refused.TheVariants as refused
use Rattle.channel_calls.specs.declared.error.TrySendError.TheVariants as try_send_error
use Rattle.channel_calls.specs.declared.mark.Mark.{Mark}
use Rattle.channel_calls.specs.declared.mark.Mark.TheVariants.{TakeDisplaced, Replace}
use Rattle.channel_calls.specs.declared.reply.Reply.{Reply}
use Rattle.channel_calls.specs.declared.reply.Reply.TheVariants as reply
use Rattle.channel_steps.specs.Run.{IsRun, NextConfiguration, new_configuration}
use Rattle.channel_steps.specs.Configuration.{Configuration}
use Rattle.channel_steps.specs.declared.party.Entry.{Entry}
use Rattle.channel_steps.specs.declared.run.Step.{Step}
use Rattle.channel_steps.specs.every_run.Ends.{Each, Replies}

-- a mark of a send that takes an older message out to make room
abbrev pub IsDisplacing : Mark → Type 0
IsDisplacing TakeDisplaced = Unit {0}
IsDisplacing Replace = Unit {0}
IsDisplacing m = ⊥

module _ {T : Type 0} where
  -- a message is refused since the channel is full
  abbrev pub SaysFull : Reply T → Type 0
  SaysFull (reply.TrySend (Err (refused.Plain (try_send_error.Full m)))) = Unit {0}
  SaysFull r = ⊥

  -- no entry refuses a message for that, and none displaces one
  abbrev pub NoneFull : List (Entry T) → Type 0
  NoneFull [] = Unit {0}
  NoneFull (e ∷ es) = (Replies SaysFull e.reply → ⊥) × (IsDisplacing e.mark → ⊥) × NoneFull es

  abbrev pub one_if_closed : Option (Reply T) → ℕ
  one_if_closed (Some (reply.Closed true)) = 1
  one_if_closed r = 0

  -- how many closes answer that they closed the channel
  abbrev pub closings_in : List (Entry T) → ℕ
  closings_in [] = 0
  closings_in (e ∷ es) = one_if_closed e.reply + closings_in es

module _ {T W : Type 0} where
  -- no more messages than fit
  abbrev pub IsWithinBound : Channel T W → Type 0
  IsWithinBound c = (most : ℕ) → c.queue.capacity ≡ Some most → length c.queue.items ≤ most

  -- of this capacity at each of these moments
  abbrev pub AllOf : Option ℕ → List (Channel T W) → Type 0
  AllOf capacity [] = Unit {0}
  AllOf capacity (c ∷ cs) = (c.queue.capacity ≡ capacity) × AllOf capacity cs

  -- what every run keeps: no more messages than fit, and the calls under way have seen no other capacity
  pub record BoundSound (s : Configuration T W) : Type 0 where
    pub fits : IsWithinBound s.now
    pub alike : Each (λ u. AllOf s.now.queue.capacity u.seen) s.under_way

module _ (T W : Type 0) where
  abbrev pub BoundsStay : Type 0
  BoundsStay = (s t : Configuration T W) (steps : List (Step T W)) (trace : List (Entry T)) → BoundSound s → IsRun NextConfiguration s steps trace t → BoundSound t

  -- in every run from a channel that was just opened
  abbrev pub NeverOverfull : Type 0
  NeverOverfull =
      (capacity : Option ℕ) (t : Configuration T W) (steps : List (Step T W)) (trace : List (Entry T)) → IsRun NextConfiguration (new_configuration capacity) steps trace t
      → (t.now.queue.capacity ≡ capacity) × IsWithinBound t.now

  -- in every run from a channel without a bound
  abbrev pub EachUnboundedRunIsNeverFull : Type 0
  EachUnboundedRunIsNeverFull =
      (s t : Configuration T W) (steps : List (Step T W)) (trace : List (Entry T)) → BoundSound s → s.now.queue.capacity ≡ None → IsRun NextConfiguration s steps trace t
      → NoneFull trace

  -- in every run from a channel that was just opened
  abbrev pub EachRunClosesOnce : Type 0
  EachRunClosesOnce =
      (capacity : Option ℕ) (t : Configuration T W) (steps : List (Step T W)) (trace : List (Entry T)) → IsRun NextConfiguration (new_configuration capacity) steps trace t
      → closings_in trace ≤ 1
