-- A receive waits beside messages only while as many receives are told, are about to be told, or try.
use Rattle.std.specs.Prelude.{ℕ, ◌+◌, ◌≤◌, List, length, Option}
use Rattle.concurrent_queue.specs.Queue.{Phase, Stage, appended}
use Rattle.channel_calls.specs.Moves.{Channel}
use Rattle.channel_calls.specs.declared.ask.ChannelAsk.{ChannelAsk}
use Rattle.channel_calls.specs.declared.ask.ChannelAsk.TheVariants.{TrySend, ForceSend, PollSend, PollRecv}
use Rattle.channel_calls.specs.declared.stage.WaitList.TheVariants.{Receives}
use Rattle.channel_calls.specs.declared.stage.Stage as stage
use Rattle.channel_calls.specs.declared.stage.Stage.TheVariants.{Trying, Working}
use Rattle.channel_calls.specs.declared.stage.ListStep.TheVariants.{TellReceive}
use Rattle.channel_steps.specs.Configuration.{Configuration}
use Rattle.channel_steps.specs.Run.{IsRun, NextConfiguration, new_configuration}
use Rattle.channel_steps.specs.declared.party.Entry.{Entry}
use Rattle.channel_steps.specs.declared.run.Step.{Step}
use Rattle.channel_steps.specs.every_run.Amounts.{HoldsListener, is_trying_anew, AreOwed, PendingAreOwed}
use Rattle.channel_steps.specs.every_run.Notices.{told_of, TellingsSound}

module _ {T : Type 0} where
  abbrev pub has_appended : Stage T → ℕ
  has_appended (appended o) = 1
  has_appended s = 0

module _ {T W : Type 0} where
  -- 1 for a call whose message is in and that has not told a receive yet
  abbrev pub is_to_tell_receive : stage.Stage (Phase T) T W → ℕ
  is_to_tell_receive (Trying f purpose) = has_appended f.stage
  is_to_tell_receive (Working (TellReceive x)) = 1
  is_to_tell_receive at = 0

  -- what a call under way counts for beside the told receives: a sending one that is to tell a receive for one, and so a poll
  -- of a receive that tries with no listener in hand
  abbrev pub counts_for_receives : ChannelAsk T W → stage.Stage (Phase T) T W → ℕ
  counts_for_receives (TrySend m) at = is_to_tell_receive at
  counts_for_receives (ForceSend m) at = is_to_tell_receive at
  counts_for_receives (PollSend m key task) at = is_to_tell_receive at
  counts_for_receives (PollRecv key task) at = is_trying_anew at
  counts_for_receives ask at = 0

  -- there are no more messages than told receives and n more
  abbrev pub MessagesAreFew : Channel T W → ℕ → Type 0
  MessagesAreFew c n = length c.queue.items ≤ length (told_of Receives c) + n

  -- if a receive waits there are no more messages than told receives and calls under way that are to tell one or try as
  -- one; or a call has its listener in hand
  abbrev pub ReceivesAreOwed : Configuration T W → Type 0
  ReceivesAreOwed s = AreOwed Receives MessagesAreFew counts_for_receives (HoldsListener Receives) s

  -- one whose listener no call under way has in hand: the first of it
  abbrev pub PendingReceivesAreOwed : Configuration T W → Type 0
  PendingReceivesAreOwed s = PendingAreOwed Receives MessagesAreFew counts_for_receives (HoldsListener Receives) s

  -- with what every run needs to keep it
  pub record ReceivesSound (s : Configuration T W) : Type 0 where
    pub tellings : TellingsSound s
    pub owed : ReceivesAreOwed s

module _ (T W : Type 0) where
  abbrev pub ReceivesStayOwed : Type 0
  ReceivesStayOwed =
      (s t : Configuration T W) (steps : List (Step T W)) (trace : List (Entry T)) → ReceivesSound s → IsRun NextConfiguration s steps trace t
      → ReceivesSound t

  -- in every run from a channel that was just opened
  abbrev pub NoReceiveIsForgotten : Type 0
  NoReceiveIsForgotten =
      (cap : Option ℕ) (t : Configuration T W) (steps : List (Step T W)) (trace : List (Entry T))
      → IsRun NextConfiguration (new_configuration cap) steps trace t
      → ReceivesAreOwed t × PendingReceivesAreOwed t
