-- Which waiters a call tells, and when.
use Rattle.std.specs.Prelude.{◌≡◌, ℕ, zero, suc, List, [], ◌∷◌, ◌++◌, Option, None, Some}
use Rattle.concurrent_queue.specs.Queue.{Phase}
use Rattle.event_listener.specs.Lists.{told_as, without, passed_wakes}
use Rattle.channel_calls.specs.Moves.{Channel}
use Rattle.channel_calls.specs.Parts.{Listeners, listeners, told_more_wakes, told_all_wakes}
use Rattle.channel_calls.specs.declared.mark.Mark.{Mark}
use Rattle.channel_calls.specs.declared.mark.Mark.TheVariants.{Append, Take, Replace, Close}
use Rattle.channel_calls.specs.declared.stage.ListenerRef.{ListenerRef}
use Rattle.channel_calls.specs.declared.stage.WaitList.{WaitList}
use Rattle.channel_calls.specs.declared.stage.WaitList.TheVariants.{Sends, Receives, Streams, Closings}
use Rattle.channel_calls.specs.declared.stage.Stage.{Stage}
use Rattle.channel_calls.specs.declared.stage.Stage.TheVariants.{Working}
use Rattle.channel_calls.specs.declared.stage.ListStep.TheVariants.{TellReceive, TellStreams, TellSend, TellSends, TellAll, Leave}
use Rattle.channel_steps.specs.Moments.{MarkedMoment}

-- a telling: so many more of a list, or all of it
pub data Telling : Type 0 where
  more_of : ℕ → WaitList → Telling
  all_of : WaitList → Telling

abbrev pub one_of : WaitList → Telling
one_of line = more_of 1 line

-- what a mark has to be followed by: a message tells one more receive and then all streams, a closing all of each list in this
-- order. What makes room for another message tells nobody
abbrev pub owed_for : Mark → List Telling
owed_for Append = one_of Receives ∷ all_of Streams ∷ []
owed_for Replace = one_of Receives ∷ all_of Streams ∷ []
owed_for Close = all_of Sends ∷ all_of Receives ∷ all_of Streams ∷ all_of Closings ∷ []
owed_for _ = []

-- so many takings together tell as many more sends, at once
abbrev pub owed_takings : ℕ → List Telling
owed_takings zero = []
owed_takings (suc n) = more_of (suc n) Sends ∷ []

abbrev pub with_taking : Mark → ℕ → ℕ
with_taking Take n = suc n
with_taking _ n = n

module _ {T W : Type 0} where
  -- how many of these marks are takings
  abbrev pub takings : List (MarkedMoment T W) → ℕ
  takings [] = 0
  takings (d ∷ ds) = with_taking d.mark (takings ds)

  -- what the others have to be followed by
  abbrev pub owed_besides : List (MarkedMoment T W) → List Telling
  owed_besides [] = []
  owed_besides (d ∷ ds) = owed_for d.mark ++ owed_besides ds

  abbrev pub owed : List (MarkedMoment T W) → List Telling
  owed ds = owed_takings (takings ds) ++ owed_besides ds

  -- what the next step of a call tells
  abbrev pub telling : Stage (Phase T) T W → List Telling
  telling (Working (TellReceive x)) = one_of Receives ∷ []
  telling (Working (TellStreams x)) = all_of Streams ∷ []
  telling (Working (TellSend x)) = one_of Sends ∷ []
  telling (Working (TellSends n x)) = more_of n Sends ∷ []
  telling (Working (TellAll line closer)) = all_of line ∷ []
  telling _ = []

  -- the listener of its own that the next step of a call drops
  abbrev pub dropping : Stage (Phase T) T W → Option ListenerRef
  dropping (Working (Leave x)) = x.held
  dropping _ = None

  -- the tasks that the removal of a listener wakes, which passes its notification on
  abbrev pub passed_on_by : ListenerRef → Channel T W → List W
  passed_on_by h c =
      let l : Listeners W = listeners h.line c.wait_lists in
      elim (told_as l h.key) [ Some notice ↦ passed_wakes notice (without h.key l) | None ↦ [] ]

  -- the tasks that a step wakes: those that its notification finds waiting, in order, or the one to which the listener that it drops passes
  -- its notification on; any other step wakes nobody
  abbrev pub WokenBy : List Telling → Option ListenerRef → Channel T W → List W → Type 0
  WokenBy (more_of n line ∷ ts) h c names = names ≡ told_more_wakes n (listeners line c.wait_lists)
  WokenBy (all_of line ∷ ts) h c names = names ≡ told_all_wakes (listeners line c.wait_lists)
  WokenBy [] (Some h) c names = names ≡ passed_on_by h c
  WokenBy [] None c names = names ≡ []
