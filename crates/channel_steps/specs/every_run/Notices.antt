-- How those that were told were told: one at a time, or all at once.
use Rattle.std.specs.Prelude.{◌≡◌, ℕ, Bool, true, false, List, [], ◌∷◌, Option, ◌⊎◌}
use Rattle.event_listener.specs.Lists.{Notice}
use Rattle.event_listener.specs.declared.key.Key.{Key}
use Rattle.channel_calls.specs.Moves.{Channel}
use Rattle.channel_calls.specs.Parts.{listeners}
use Rattle.channel_calls.specs.declared.stage.WaitList.{WaitList}
use Rattle.channel_calls.specs.declared.stage.WaitList.TheVariants.{Sends, Receives, Streams, Closings}
use Rattle.channel_steps.specs.Moments.{Open, Shut}
use Rattle.channel_steps.specs.Run.{IsRun, NextConfiguration, new_configuration}
use Rattle.channel_steps.specs.Configuration.{Configuration, AllKnown, IsBalanced}
use Rattle.channel_steps.specs.declared.party.Entry.{Entry}
use Rattle.channel_steps.specs.declared.run.Step.{Step}
use Rattle.channel_steps.specs.every_run.Closings.{HasClosed, LooksAgain}
use Rattle.channel_steps.specs.every_run.Ends.{Each}
use Rattle.channel_steps.specs.every_run.Waits.{Waits, WaitApart, Any}

-- how one of a list may be told while the channel is open: a send or a receive as one more, a stream by the default, and a wait for the
-- closing not at all
abbrev pub MayBeTold : WaitList → Bool → Type 0
MayBeTold Sends additional = additional ≡ true
MayBeTold Receives additional = additional ≡ true
MayBeTold Streams additional = additional ≡ false
MayBeTold Closings additional = ⊥

-- the lists of which one is told at a time
abbrev pub IsOneByOne : WaitList → Type 0
IsOneByOne Sends = Unit {0}
IsOneByOne Receives = Unit {0}
IsOneByOne line = ⊥

-- each of these was told so
abbrev pub EachTold : (Bool → Type 0) → List (Key × Notice Unit) → Type 0
EachTold P [] = Unit {0}
EachTold P (w ∷ ws) = P w.1.additional × EachTold P ws

-- at least one of these was told so
abbrev pub AnyTold : Bool → List (Key × Notice Unit) → Type 0
AnyTold additional [] = ⊥
AnyTold additional (w ∷ ws) = (w.1.additional ≡ additional) ⊎ AnyTold additional ws

module _ {T W : Type 0} where
  -- those of a list that were told
  abbrev pub told_of : WaitList → Channel T W → List (Key × Notice Unit)
  told_of line c = (listeners line c.wait_lists).told

  -- how those that are told now were told
  pub record TellingsFit (s : Configuration T W) : Type 0 where
    -- while the channel is open
    pub while_open : (line : WaitList) → Open s.now → EachTold (MayBeTold line) (told_of line s.now)
    -- if one send or receive was told by the default the channel is closed, and each that still waits on that list is in
    -- the hand of a poll under way that has found no cause to wait
    pub by_default :
        (line : WaitList) → IsOneByOne line → AnyTold false (told_of line s.now)
        → Shut s.now × ((key : Key) → Waits line key s.now → Any (λ u. LooksAgain line key u.at) s.under_way)

  -- with what every run needs to keep it: what is known of its calls, that no listener is twice on a list, and that a channel
  -- that a call under way has closed is closed
  pub record TellingsSound (s : Configuration T W) : Type 0 where
    pub known : AllKnown s.now s.under_way
    pub balanced : IsBalanced s.now.queue
    pub apart : (line : WaitList) → WaitApart line s.now
    pub closers : Each (λ u. HasClosed u.marks → Shut s.now) s.under_way
    pub fit : TellingsFit s

module _ (T W : Type 0) where
  abbrev pub TellingsStayFit : Type 0
  TellingsStayFit =
      (s t : Configuration T W) (steps : List (Step T W)) (trace : List (Entry T)) → TellingsSound s → IsRun NextConfiguration s steps trace t
      → TellingsSound t

  -- in every run from a channel that was just opened
  abbrev pub TellingsAlwaysFit : Type 0
  TellingsAlwaysFit =
      (cap : Option ℕ) (t : Configuration T W) (steps : List (Step T W)) (trace : List (Entry T))
      → IsRun NextConfiguration (new_configuration cap) steps trace t
      → TellingsFit t
