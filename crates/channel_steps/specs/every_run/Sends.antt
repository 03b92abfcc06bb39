-- A send waits beside free places only while as many sends are told, are about to be told, or try.
use Rattle.std.specs.Prelude.{ℕ, ◌+◌, ◌≤◌, List, length, Option, None, Some, ◌⊎◌}
use Rattle.concurrent_queue.specs.Queue.{Phase, Stage, displaced, taken}
use Rattle.channel_calls.specs.Moves.{Channel}
use Rattle.channel_calls.specs.declared.ask.ChannelAsk.{ChannelAsk}
use Rattle.channel_calls.specs.declared.ask.ChannelAsk.TheVariants.{ForceSend, TryRecv, RecvMany, PollSend, PollRecv, PollNext}
use Rattle.channel_calls.specs.declared.stage.Purpose.TheVariants as purpose
use Rattle.channel_calls.specs.declared.stage.WaitList.TheVariants.{Sends}
use Rattle.channel_calls.specs.declared.stage.Stage as stage
use Rattle.channel_calls.specs.declared.stage.Stage.TheVariants.{Trying, Working}
use Rattle.channel_calls.specs.declared.stage.ListStep.TheVariants.{TellSend, TellSends}
use Rattle.channel_steps.specs.Moments.{Shut}
use Rattle.channel_steps.specs.Configuration.{Configuration}
use Rattle.channel_steps.specs.Run.{IsRun, NextConfiguration, new_configuration}
use Rattle.channel_steps.specs.declared.party.Entry.{Entry}
use Rattle.channel_steps.specs.declared.run.Step.{Step}
use Rattle.channel_steps.specs.every_run.Amounts.{HoldsListener, is_trying_anew, AreOwed, PendingAreOwed}
use Rattle.channel_steps.specs.every_run.Notices.{told_of, TellingsSound}

module _ {T : Type 0} where
  abbrev pub has_taken : Stage T → ℕ
  has_taken (taken v) = 1
  has_taken s = 0

  abbrev pub has_displaced : Stage T → ℕ
  has_displaced (displaced d) = 1
  has_displaced s = 0

-- a queue of this capacity has no more places than n; one without bound has more than any number
abbrev pub HasPlaces : Option ℕ → ℕ → Type 0
HasPlaces None n = ⊥
HasPlaces (Some cap) n = cap ≤ n

module _ {T W : Type 0} where
  -- how many messages a call has taken for which it has not told a send yet
  abbrev pub is_to_tell_send : stage.Stage (Phase T) T W → ℕ
  is_to_tell_send (Trying f (purpose.RecvMany g)) = length g.taken + has_taken f.stage
  is_to_tell_send (Trying f a) = has_taken f.stage
  is_to_tell_send (Working (TellSend x)) = 1
  is_to_tell_send (Working (TellSends n x)) = n
  is_to_tell_send at = 0

  -- 1 for a displacing send that made room and has not brought its message yet
  abbrev pub is_on_its_way : stage.Stage (Phase T) T W → ℕ
  is_on_its_way (Trying f purpose) = has_displaced f.stage
  is_on_its_way at = 0

  -- what a call under way counts for beside the messages and the told sends: a receiving one for each send that it is to tell,
  -- and so a displacing send whose message is on its way, and a poll of a send that tries with no listener in hand
  abbrev pub counts_for_sends : ChannelAsk T W → stage.Stage (Phase T) T W → ℕ
  counts_for_sends TryRecv at = is_to_tell_send at
  counts_for_sends (RecvMany n) at = is_to_tell_send at
  counts_for_sends (PollRecv key task) at = is_to_tell_send at
  counts_for_sends (PollNext key task) at = is_to_tell_send at
  counts_for_sends (ForceSend m) at = is_on_its_way at
  counts_for_sends (PollSend m key task) at = is_trying_anew at
  counts_for_sends ask at = 0

  -- the channel is closed; or it has a bound, and no more places than messages, told sends and n more
  abbrev pub PlacesAreFew : Channel T W → ℕ → Type 0
  PlacesAreFew c n = Shut c ⊎ HasPlaces c.queue.capacity (length c.queue.items + length (told_of Sends c) + n)

  -- if a send waits the channel is closed, or has a bound, and no more places than messages, told sends, and calls under
  -- way that are to tell one, bring a message for which they made room, or try as a send; or a call has its listener in hand
  abbrev pub SendsAreOwed : Configuration T W → Type 0
  SendsAreOwed s = AreOwed Sends PlacesAreFew counts_for_sends (HoldsListener Sends) s

  -- one whose listener no call under way has in hand: the first of it
  abbrev pub PendingSendsAreOwed : Configuration T W → Type 0
  PendingSendsAreOwed s = PendingAreOwed Sends PlacesAreFew counts_for_sends (HoldsListener Sends) s

  -- with what every run needs to keep it
  pub record SendsSound (s : Configuration T W) : Type 0 where
    pub tellings : TellingsSound s
    pub owed : SendsAreOwed s

module _ (T W : Type 0) where
  abbrev pub SendsStayOwed : Type 0
  SendsStayOwed =
      (s t : Configuration T W) (steps : List (Step T W)) (trace : List (Entry T)) → SendsSound s → IsRun NextConfiguration s steps trace t
      → SendsSound t

  -- in every run from a channel that was just opened
  abbrev pub NoSendIsForgotten : Type 0
  NoSendIsForgotten =
      (cap : Option ℕ) (t : Configuration T W) (steps : List (Step T W)) (trace : List (Entry T))
      → IsRun NextConfiguration (new_configuration cap) steps trace t
      → SendsAreOwed t × PendingSendsAreOwed t
