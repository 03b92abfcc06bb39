-- A call that is stepped to its end with nobody else at work.
use Rattle.std.specs.Prelude.{◌≡◌, ◌+◌, ◌<◌, ◌≤◌, ◌^◌, [], Some, ◌⊎◌}
use Rattle.concurrent_queue.specs.Queue.{Queue}
use Rattle.concurrent_queue.specs.Step.{Fits}
use Rattle.event_listener.specs.Notices.{Woken}
use Rattle.channel_calls.specs.declared.ask.ChannelAsk.{ChannelAsk}
use Rattle.channel_calls.specs.Parts.{Parts}
use Rattle.channel_calls.specs.Moves.{channel}
use Rattle.channel_steps.specs.solo.Alone.{Outcome, Alone}
use Rattle.channel_calls.specs.declared.whole.Completed.{Completed}

module _ {T : Type 0} where
  -- one more message may be accepted within the positions of a queue; a queue of one slot counts none
  abbrev pub HasNextPosition : Queue T → Type 0
  HasNextPosition q = (q.capacity ≡ Some 1) ⊎ (q.accepted < 2 ^ 61)

module _ {T W : Type 0} where
  -- the cells mean a queue, and no call is under way
  abbrev pub IsAtRest : Parts T W → Type 0
  IsAtRest parts = (q : Queue T) × HasNextPosition q × Fits parts.cells q []

  -- what a call left, from a channel with this queue
  pub record AnsweredAlone {S : Type 0} (wakes : S → W → S → Type 0) (ask : ChannelAsk T W) (q : Queue T) (parts : Parts T W) (sink : S) (done : Completed T) (parts' : Parts T W) (sink' : S) : Type 0 where
    pub outcome : Outcome T W
    pub does : Alone ask (channel q parts) outcome
    pub reply : done.reply ≡ outcome.reply
    pub kept : done.kept ≡ outcome.kept
    pub wait_lists : parts'.wait_lists ≡ outcome.channel.wait_lists
    pub at_rest : Fits parts'.cells outcome.channel.queue []
    pub capacity : outcome.channel.queue.capacity ≡ q.capacity
    pub accepted : outcome.channel.queue.accepted ≤ q.accepted + 1
    pub woken : Woken wakes sink outcome.woken sink'

  -- whatever queue the cells mean
  abbrev pub AnswersAlone : {S : Type 0} → (S → W → S → Type 0) → ChannelAsk T W → Parts T W → S → Completed T → Parts T W → S → Type 0
  AnswersAlone wakes ask parts sink done parts' sink' =
      (q : Queue T) → HasNextPosition q → Fits parts.cells q [] → AnsweredAlone wakes ask q parts sink done parts' sink'

  -- a channel of one slot, which counts no positions, with no call under way
  abbrev pub IsOneSlot : Parts T W → Type 0
  IsOneSlot parts = (q : Queue T) × (q.capacity ≡ Some 1) × Fits parts.cells q []
