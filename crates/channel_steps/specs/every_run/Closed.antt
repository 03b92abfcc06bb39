-- A closed channel stays closed and gets no message but one that was on its way.
use Rattle.std.specs.Prelude.{◌≡◌, ℕ, ◌+◌, ◌≤◌, Bool, true, false, List, length}
use Rattle.concurrent_queue.specs.Queue.{Queue, Phase, is_displaced}
use Rattle.channel_calls.specs.Moves.{Channel}
use Rattle.channel_calls.specs.declared.mark.Mark.{Mark}
use Rattle.channel_calls.specs.declared.mark.Mark.TheVariants.{Append, Replace, Close}
use Rattle.channel_calls.specs.declared.stage.Stage.{Stage}
use Rattle.channel_calls.specs.declared.stage.Stage.TheVariants.{Trying}
use Rattle.channel_steps.specs.Moments.{Shut}
use Rattle.channel_steps.specs.Run.{IsRun, NextConfiguration}
use Rattle.channel_steps.specs.Configuration.{Configuration, Steps}
use Rattle.channel_steps.specs.declared.party.Entry.{Entry}
use Rattle.channel_steps.specs.declared.run.Step.{Step}

abbrev pub one_if : Bool → ℕ
one_if true = 1
one_if false = 0

module _ {T : Type 0} where
  -- the messages that are there, and the one on its way
  abbrev pub within : Queue T → ℕ
  within q = length q.items + one_if q.coming

module _ {T W : Type 0} where
  -- a sending call that took the oldest message out to make room, and is to bring its own in
  abbrev pub HasMadeRoom : Stage (Phase T) T W → Type 0
  HasMadeRoom (Trying f purpose) = is_displaced f.stage ≡ true
  HasMadeRoom at = ⊥

  -- what a step of a call at this stage may do to a closed channel: take a message, or bring in the one on its way
  abbrev pub MayStillDo : Mark → Channel T W → Stage (Phase T) T W → Type 0
  MayStillDo Close c at = ⊥
  MayStillDo Replace c at = ⊥
  MayStillDo Append c at = (c.queue.coming ≡ true) × HasMadeRoom at
  MayStillDo m c at = Unit {0}

  -- after a run the channel is closed still; there are no more messages than there were, with the one on its way; and so
  -- much any call may do then
  pub record StaysClosed (s t : Configuration T W) : Type 0 where
    pub closed : Shut t.now
    pub no_more : within t.now.queue ≤ within s.now.queue
    pub next : (p : ℕ) (e : Entry T) (names : List W) (u : Configuration T W) (st : Steps t p e names u) → MayStillDo e.mark t.now st.mine.at

module _ (T W : Type 0) where
  -- in every run from a closed channel
  abbrev pub ClosingIsForGood : Type 0
  ClosingIsForGood = (s t : Configuration T W) (steps : List (Step T W)) (trace : List (Entry T)) → Shut s.now → IsRun NextConfiguration s steps trace t → StaysClosed s t
