-- Whether a poll leaves a listener to its operation.
use Rattle.std.specs.Prelude.{◌≡◌, Bool, true, false, Option, None, Some, is_some}
use Rattle.event_listener.specs.declared.key.Key.{Key}
use Rattle.futures.specs.declared.task.Poll.{Poll}
use Rattle.futures.specs.declared.task.Poll.TheVariants.{Pending, Ready}
use Rattle.channel_calls.specs.declared.reply.Reply.{Reply}
use Rattle.channel_calls.specs.declared.reply.Reply.TheVariants as reply

abbrev pub is_pending : {A : Type 0} → Poll A → Bool
is_pending Pending = true
is_pending (Ready a) = false

-- whether a poll answered that it waits
abbrev pub pends : {T : Type 0} → Reply T → Bool
pends (reply.SendPoll p) = is_pending p
pends (reply.RecvPoll p) = is_pending p
pends (reply.ClosedPoll p) = is_pending p
pends (reply.Next p) = is_pending p
pends _ = false

-- a send that has its message has a listener exactly where it waits; a finished one has none
abbrev pub SendLists : {A T : Type 0} → Option T → Poll A → Option Key → Type 0
SendLists (Some v) p key = is_some key ≡ is_pending p
SendLists None p key = key ≡ None
