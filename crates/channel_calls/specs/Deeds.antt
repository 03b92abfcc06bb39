-- What is done to a channel's cells by one step of a call of its queue, by one section on one of its lists or by one operation on
-- one of its counts, with its answer. Nothing here speaks of what the cells hold, so it is said of cells that threads share as well.
use Rattle.std.specs.Prelude.{ℕ, Bool, List, [], Option, Result}
use Rattle.concurrent_queue.specs.declared.queue_call.QueueCall.{QueueCall}
use Rattle.concurrent_queue.specs.declared.call.QueueReply.{QueueReply}
use Rattle.event_listener.specs.Notices.{Woken}
use Rattle.event_listener.specs.declared.key.Key.{Key}
use Rattle.event_listener.specs.declared.error.ListenError.{ListenError}
use Rattle.channel_calls.specs.declared.stage.WaitList.{WaitList}
use Rattle.channel_calls.specs.declared.stage.Telling.{Telling}
use Rattle.channel_calls.specs.declared.stage.Side.{Side}

-- a deed, with its answer. A notification and a removal answer which tasks they woke, in order
pub data Deed (T W : Type 0) : Type 0 where
  stepped : QueueCall T → QueueCall T → Option (QueueReply T) → Deed T W
  inserted : WaitList → Result Key ListenError → Deed T W
  registered : WaitList → Key → W → Option W → Deed T W
  taken_off : WaitList → Key → List W → Deed T W
  told : WaitList → Telling → List W → Deed T W
  counted : Side → ℕ → Deed T W
  lowered : Side → ℕ → Deed T W
  raised : Side → ℕ → Bool → Deed T W

module _ {T W : Type 0} where
  -- the tasks that it woke
  abbrev pub woken_by : Deed T W → List W
  woken_by (taken_off line key names) = names
  woken_by (told line telling names) = names
  woken_by _ = []

  -- it was done to the cells, and the tasks that it woke went to the sink in order, and no others
  abbrev pub Done : {C S : Type 0} → (Deed T W → C → C → Type 0) → (S → W → S → Type 0) → Deed T W → C × S → C × S → Type 0
  Done did wakes d before now = did d before.0 now.0 × Woken wakes before.1 (woken_by d) now.1
