-- What calls under way are to those that wait, and what they have done so far.
use Rattle.std.specs.Prelude.{◌+◌, ◌-◌, ◌^◌, ◌||◌, ◌∷◌}
use Rattle.channel_world_runs.specs.Words.{min, Bool, true, false, List, [], ChannelAsk, Sends, Receives, MarkedMoment, ActiveCall, takings, Activity, Role, Sending, Receiving, Other}
use Rattle.channel_calls.specs.declared.mark.Mark.{Mark}
use Rattle.channel_calls.specs.declared.mark.Mark.TheVariants.{Take, Close}

-- the same call after a step with this mark
abbrev pub activity_after : Mark → Activity → Activity
activity_after Close d = record d { has_closed = true }
activity_after Take d = record d { taken = min (d.taken + 1) (2 ^ 64 - 1) }
activity_after m d = d

abbrev pub is_close : Mark → Bool
is_close Close = true
is_close m = false

module _ {T W : Type 0} where
  -- A send, a displacing send, and a poll or the giving up of a send are sending; a receive of one message or of several, a poll
  -- of a stream, and a poll or the giving up of a receive are receiving.
  abbrev pub role_of : ChannelAsk T W → Role
  role_of (ChannelAsk.TrySend m) = Sending
  role_of (ChannelAsk.ForceSend m) = Sending
  role_of (ChannelAsk.PollSend m key task) = Sending
  role_of ChannelAsk.PollFinishedSend = Sending
  role_of (ChannelAsk.RefusePoll Sends message key) = Sending
  role_of (ChannelAsk.GiveUp Sends message key) = Sending
  role_of ChannelAsk.TryRecv = Receiving
  role_of (ChannelAsk.RecvMany n) = Receiving
  role_of (ChannelAsk.PollNext key task) = Receiving
  role_of (ChannelAsk.PollRecv key task) = Receiving
  role_of (ChannelAsk.RefusePoll Receives message key) = Receiving
  role_of (ChannelAsk.GiveUp Receives message key) = Receiving
  role_of a = Other

  -- a call that has made no step
  abbrev pub activity_begun : ChannelAsk T W → Activity
  activity_begun a = record { role = role_of a; has_closed = false; taken = 0 }

  abbrev pub any_close : List (MarkedMoment T W) → Bool
  any_close [] = false
  any_close (d ∷ ds) = is_close d.mark || any_close ds

  -- what a call under way is in a configuration; its takings are counted as far as a machine number goes
  abbrev pub activity_of : ActiveCall T W → Activity
  activity_of u = record { role = role_of u.ask; has_closed = any_close u.marks; taken = min (takings u.marks) (2 ^ 64 - 1) }
