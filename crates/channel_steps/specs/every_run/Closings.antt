-- One that waits on a closed channel is told by the call that closed it, or a poll that has the listener in hand looks again.
use Rattle.std.specs.Prelude.{◌≡◌, ℕ, ◌≤◌, false, List, ◌∷◌, [], Option, Some, ◌⊎◌}
use Rattle.concurrent_queue.specs.Queue.{Phase, Stage, trying, taken}
use Rattle.event_listener.specs.declared.key.Key.{Key}
use Rattle.channel_calls.specs.declared.mark.Mark.TheVariants.{Close}
use Rattle.channel_calls.specs.declared.stage.Purpose.TheVariants as purpose
use Rattle.channel_calls.specs.declared.stage.WaitList.{WaitList}
use Rattle.channel_calls.specs.declared.stage.WaitList.TheVariants.{Sends, Receives, Streams, Closings}
use Rattle.channel_calls.specs.declared.stage.Stage as stage
use Rattle.channel_calls.specs.declared.stage.Stage.TheVariants.{Trying, Working}
use Rattle.channel_calls.specs.declared.stage.ListStep.TheVariants.{TellSend, TellAll, Leave}
use Rattle.channel_steps.specs.Moments.{MarkedMoment, Shut}
use Rattle.channel_steps.specs.Configuration.{ActiveCall, Configuration, AllKnown, IsBalanced}
use Rattle.channel_steps.specs.Run.{IsRun, NextConfiguration, new_configuration}
use Rattle.channel_steps.specs.declared.party.Entry.{Entry}
use Rattle.channel_steps.specs.declared.run.Step.{Step}
use Rattle.channel_steps.specs.every_run.Ends.{Each}
use Rattle.channel_steps.specs.every_run.Waits.{Waits, WaitApart, Any}

-- in which order a closing tells the lists
abbrev pub place : WaitList → ℕ
place Sends = 0
place Receives = 1
place Streams = 2
place Closings = 3

-- one that tells the first list next has the second one to tell
abbrev pub IsToTell : WaitList → WaitList → Type 0
IsToTell next line = place next ≤ place line

module _ {T : Type 0} where
  -- a try that has found the queue at no step open and with cause to refuse, or has its message
  abbrev pub HasNoCauseToWait : Stage T → Type 0
  HasNoCauseToWait (trying seen) = seen ≡ false
  HasNoCauseToWait (taken v) = Unit {0}
  HasNoCauseToWait s = ⊥

module _ {T W : Type 0} where
  -- one of these is a closing
  abbrev pub HasClosed : List (MarkedMoment T W) → Type 0
  HasClosed [] = ⊥
  HasClosed (d ∷ ds) = (d.mark ≡ Close) ⊎ HasClosed ds

  -- this list is yet to be told
  abbrev pub HasToTell : WaitList → stage.Stage (Phase T) T W → Type 0
  HasToTell line (Working (TellAll next closer)) = IsToTell next line
  HasToTell line at = ⊥

  -- the poll that listens on this list under this key tries again and has found no cause to wait, or it has its answer and
  -- leaves the list next
  abbrev pub LooksAgain : WaitList → Key → stage.Stage (Phase T) T W → Type 0
  LooksAgain line key (Trying f (purpose.Poll at (Some k) task)) = (at ≡ line) × (k ≡ key) × HasNoCauseToWait f.stage
  LooksAgain line key (Working (TellSend x)) = x.held ≡ Some (record { line = line; key = key })
  LooksAgain line key (Working (Leave x)) = x.held ≡ Some (record { line = line; key = key })
  LooksAgain line key at = ⊥

  -- the call that is responsible for one that waits on a closed channel: the one that closed it, or such a poll
  abbrev pub AnswersClosed : WaitList → Key → ActiveCall T W → Type 0
  AnswersClosed line key u = (HasClosed u.marks × HasToTell line u.at) ⊎ LooksAgain line key u.at

  -- on a closed channel a call under way is responsible for each that waits
  abbrev pub ClosingIsOwed : Configuration T W → Type 0
  ClosingIsOwed s = (line : WaitList) (key : Key) → Shut s.now → Waits line key s.now → Any (AnswersClosed line key) s.under_way

  -- for one whose listener no call under way has in hand, as where its poll ended pending, the call that closed the channel is
  -- under way and has its list to tell
  abbrev pub PendingIsOwedTheClosing : Configuration T W → Type 0
  PendingIsOwedTheClosing s =
      (line : WaitList) (key : Key) → Shut s.now → Waits line key s.now → Each (λ u. LooksAgain line key u.at → ⊥) s.under_way
      → Any (λ u. HasClosed u.marks × HasToTell line u.at) s.under_way

  -- with what every run needs to keep it: what is known of its calls, and no listener twice on a list
  pub record ClosingSound (s : Configuration T W) : Type 0 where
    pub known : AllKnown s.now s.under_way
    pub balanced : IsBalanced s.now.queue
    pub apart : (line : WaitList) → WaitApart line s.now
    pub owed : ClosingIsOwed s

module _ (T W : Type 0) where
  abbrev pub ClosingStaysOwed : Type 0
  ClosingStaysOwed = (s t : Configuration T W) (steps : List (Step T W)) (trace : List (Entry T)) → ClosingSound s → IsRun NextConfiguration s steps trace t → ClosingSound t

  -- in every run from a channel that was just opened
  abbrev pub EachRunOwesTheClosing : Type 0
  EachRunOwesTheClosing = (cap : Option ℕ) (t : Configuration T W) (steps : List (Step T W)) (trace : List (Entry T)) → IsRun NextConfiguration (new_configuration cap) steps trace t → ClosingIsOwed t × PendingIsOwedTheClosing t
