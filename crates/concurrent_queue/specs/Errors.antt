-- What a refusal says.
use Rattle.std.specs.Prelude.{Bool, true, false}
use Rattle.concurrent_queue.specs.declared.error.PushError.{PushError}
use Rattle.concurrent_queue.specs.declared.error.PushError.TheVariants as push
use Rattle.concurrent_queue.specs.declared.error.ForcePushError.{ForcePushError}
use Rattle.concurrent_queue.specs.declared.error.ForcePushError.TheVariants as force
use Rattle.concurrent_queue.specs.declared.error.PopError.{PopError}
use Rattle.concurrent_queue.specs.declared.error.PopError.TheVariants as pop

module _ {T : Type 0} where
  abbrev pub push_message : PushError T → T
  push_message (push.Full v) = v
  push_message (push.Closed v) = v
  push_message (push.NoMemory v) = v

  abbrev pub says_full : PushError T → Bool
  says_full (push.Full v) = true
  says_full _ = false

  abbrev pub says_closed : PushError T → Bool
  says_closed (push.Closed v) = true
  says_closed _ = false

  abbrev pub force_message : ForcePushError T → T
  force_message (force.Closed v) = v
  force_message (force.NoMemory v) = v

abbrev pub says_empty : PopError → Bool
says_empty pop.Empty = true
says_empty pop.Closed = false

abbrev pub says_shut : PopError → Bool
says_shut pop.Empty = false
says_shut pop.Closed = true
