-- A stream waits beside a message only while a sending call is to tell it, or a poll that has its listener in hand looks again.
use Rattle.std.specs.Prelude.{◌≡◌, ℕ, List, [], Option, Some, ◌⊎◌}
use Rattle.concurrent_queue.specs.Queue.{Phase, Stage, appended}
use Rattle.event_listener.specs.declared.key.Key.{Key}
use Rattle.channel_calls.specs.declared.ask.ChannelAsk.{ChannelAsk}
use Rattle.channel_calls.specs.declared.ask.ChannelAsk.TheVariants.{TrySend, ForceSend, PollSend}
use Rattle.channel_calls.specs.declared.stage.Purpose.TheVariants as purpose
use Rattle.channel_calls.specs.declared.stage.WaitList.TheVariants.{Streams}
use Rattle.channel_calls.specs.declared.stage.Stage as stage
use Rattle.channel_calls.specs.declared.stage.Stage.TheVariants.{Trying, Working}
use Rattle.channel_calls.specs.declared.stage.ListStep.TheVariants.{TellReceive, TellStreams, TellSend, Leave}
use Rattle.channel_steps.specs.Configuration.{ActiveCall, Configuration, AllKnown, IsBalanced}
use Rattle.channel_steps.specs.Run.{IsRun, NextConfiguration, new_configuration}
use Rattle.channel_steps.specs.declared.party.Entry.{Entry}
use Rattle.channel_steps.specs.declared.run.Step.{Step}
use Rattle.channel_steps.specs.every_run.Ends.{Each}
use Rattle.channel_steps.specs.every_run.Waits.{Waits, WaitApart, Any}

module _ {T : Type 0} where
  abbrev pub HasAppended : Stage T → Type 0
  HasAppended (appended o) = Unit {0}
  HasAppended s = ⊥

module _ {T W : Type 0} where
  -- calls that bring a message
  abbrev pub IsSending : ChannelAsk T W → Type 0
  IsSending (TrySend m) = Unit {0}
  IsSending (ForceSend m) = Unit {0}
  IsSending (PollSend m key task) = Unit {0}
  IsSending ask = ⊥

  -- it has brought its message, and has not told the streams yet
  abbrev pub IsBringing : stage.Stage (Phase T) T W → Type 0
  IsBringing (Trying f a) = HasAppended f.stage
  IsBringing (Working (TellReceive x)) = Unit {0}
  IsBringing (Working (TellStreams x)) = Unit {0}
  IsBringing at = ⊥

  -- the poll of a stream that listens under this key and is about to try again, or has its answer and drops the listener next
  abbrev pub HasInHand : Key → stage.Stage (Phase T) T W → Type 0
  HasInHand key (Trying f (purpose.Poll Streams (Some k) task)) = k ≡ key
  HasInHand key (Working (TellSend x)) = x.held ≡ Some (record { line = Streams; key = key })
  HasInHand key (Working (Leave x)) = x.held ≡ Some (record { line = Streams; key = key })
  HasInHand key at = ⊥

  -- the calls that are responsible for a waiting stream
  abbrev pub AnswersFor : Key → ActiveCall T W → Type 0
  AnswersFor key u = (IsSending u.ask × IsBringing u.at) ⊎ HasInHand key u.at

  -- if a stream waits there is no message, or a call under way is responsible for it
  abbrev pub StreamsAreOwed : Configuration T W → Type 0
  StreamsAreOwed s = (key : Key) → Waits Streams key s.now → (s.now.queue.items ≡ []) ⊎ Any (AnswersFor key) s.under_way

  -- one whose listener no call under way has in hand, as where its poll ended pending: there is no message, or a sending call
  -- under way has brought one and is to tell all streams
  abbrev pub PendingStreamsAreOwed : Configuration T W → Type 0
  PendingStreamsAreOwed s =
      (key : Key) → Waits Streams key s.now → Each (λ u. HasInHand key u.at → ⊥) s.under_way
      → (s.now.queue.items ≡ []) ⊎ Any (λ u. IsSending u.ask × IsBringing u.at) s.under_way

  -- with what every run needs to keep it: what is known of its calls, and no listener twice on the list
  pub record StreamsSound (s : Configuration T W) : Type 0 where
    pub known : AllKnown s.now s.under_way
    pub balanced : IsBalanced s.now.queue
    pub apart : WaitApart Streams s.now
    pub owed : StreamsAreOwed s

module _ (T W : Type 0) where
  abbrev pub StreamsStayOwed : Type 0
  StreamsStayOwed = (s t : Configuration T W) (steps : List (Step T W)) (trace : List (Entry T)) → StreamsSound s → IsRun NextConfiguration s steps trace t → StreamsSound t

  -- in every run from a channel that was just opened
  abbrev pub NoStreamIsForgotten : Type 0
  NoStreamIsForgotten = (cap : Option ℕ) (t : Configuration T W) (steps : List (Step T W)) (trace : List (Entry T)) → IsRun NextConfiguration (new_configuration cap) steps trace t → StreamsAreOwed t × PendingStreamsAreOwed t
