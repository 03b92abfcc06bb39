-- How many more steps of its own a call under way makes at most, if the others are quiet.
use Rattle.std.specs.Prelude.{ℕ, ◌+◌, ◌*◌, if◌then◌else◌, List, map, slice_get, unwrap_or, None, Some}
use Rattle.concurrent_queue.specs.Contents.{Contents}
use Rattle.concurrent_queue.specs.Step.{rank}
use Rattle.concurrent_queue.specs.declared.queue_call.QueueCall.{QueueCall}
use Rattle.channel_calls.specs.Parts.{Parts, WaitLists, listeners, waits, is_raised}
use Rattle.channel_calls.specs.Turns.{line_of}
use Rattle.channel_calls.specs.declared.ask.ChannelAsk.{ChannelAsk}
use Rattle.channel_calls.specs.declared.ask.ChannelAsk.TheVariants.{RecvMany}
use Rattle.channel_calls.specs.declared.stage.Purpose.{Purpose}
use Rattle.channel_calls.specs.declared.stage.Purpose.TheVariants as purpose
use Rattle.channel_calls.specs.declared.stage.Stage.{Stage}
use Rattle.channel_calls.specs.declared.stage.Stage.TheVariants.{Trying, Working, Finished}
use Rattle.channel_calls.specs.declared.stage.ListStep.{ListStep}
use Rattle.channel_calls.specs.declared.stage.ListStep.TheVariants.{TellReceive, TellStreams, TellSend, TellSends, TakeRoom, TellAll, Insert, Register, Leave, Lower, Count, Load, Raise}
use Rattle.channel_steps.specs.Known.{left_to_tell}
use Rattle.channel_steps.specs.declared.party.Party.{Party}

-- ---- how many steps that takes at most

-- a call of the queue: 63, and the one that answers
abbrev pub one_try : ℕ
one_try = 63 + 1

-- a listener comes in, its poll tries once more, tells twice, and the listener leaves
abbrev pub listening_try : ℕ
listening_try = 1 + one_try + 3

-- a listener that was told is used up, its poll tries without one, and goes on as one that has none
abbrev pub told_try : ℕ
told_try = 1 + one_try + listening_try

-- all that a call may have left that takes so many messages more than one: a poll that tries with a listener, which another call
-- tells by then
abbrev pub most_left : ℕ → ℕ
most_left more = one_try + told_try + one_try * more

-- ---- how many are left

-- after a call of the queue, by what that is for: a poll that holds no listener listens and tries once more; one whose listener
-- waits ends pending; one whose listener was told goes on without it. For each further message there is one more call of the queue.
abbrev pub left_after_try : {T W : Type 0} → WaitLists W → Purpose T W → ℕ
left_after_try a (purpose.Poll line None task) = listening_try
left_after_try a (purpose.Poll line (Some key) task) = if waits key (listeners line a) then 3 else told_try
left_after_try a purpose.TrySend = 3
left_after_try a purpose.ForceSend = 3
left_after_try a purpose.TryRecv = 2
left_after_try a (purpose.RecvMany g) = 2 + one_try * g.more
left_after_try a purpose.Ask = 0
left_after_try a (purpose.Close c) = 5
left_after_try a purpose.IsTerminated = one_try
left_after_try a (purpose.Upgrade side) = 2

module _ {T W : Type 0} where
  -- on a list or a count, and after that
  abbrev pub left_to_work : WaitLists W → ListStep T W → ℕ
  left_to_work a (TellReceive x) = 3
  left_to_work a (TellStreams x) = 2
  left_to_work a (TellSend x) = 2
  left_to_work a (TellSends n x) = 2
  left_to_work a (TakeRoom n) = 3 + one_try * n
  left_to_work a (TellAll line c) = left_to_tell line
  left_to_work a (Insert w task) = listening_try
  left_to_work a (Register w key task) = if waits key (listeners (line_of w) a) then 1 else told_try
  left_to_work a (Leave x) = 1
  left_to_work a (Lower side key) = 1 + one_try + 5
  left_to_work a (Count side) = 1
  left_to_work a (Load side m) = 2
  left_to_work a (Raise side n m) = if is_raised side n a then 1 else 3

  -- by its stage
  abbrev pub steps_left : Contents T → WaitLists W → Stage (QueueCall T) T W → ℕ
  steps_left c a (Trying call purpose) = rank c call + 1 + left_after_try a purpose
  steps_left c a (Working w) = left_to_work a w
  steps_left c a (Finished kept) = 0

  -- the call of a party
  abbrev pub party_left : Parts T W → Party T W → ℕ
  party_left parts p = steps_left parts.cells parts.wait_lists p.call.stage

  -- all calls under way, in the order in which they began
  abbrev pub all_left : Parts T W → List (Party T W) → List ℕ
  all_left parts parties = map (party_left parts) parties

module _ {T W : Type 0} where
  -- how many messages a call may take more than one
  abbrev pub most_wanted : ChannelAsk T W → ℕ
  most_wanted (RecvMany n) = n
  most_wanted ask = 0

-- the k-th of them; none is left to a call that has ended
abbrev pub left_at : ℕ → List ℕ → ℕ
left_at k ns = unwrap_or (slice_get ns k) 0
