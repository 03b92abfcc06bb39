-- What an error of a channel holds.
use Rattle.std.specs.Prelude.{Bool, true, false, not, Option, Some, None}
use Rattle.channel_calls.specs.declared.error.SendError.{SendError}
use Rattle.channel_calls.specs.declared.error.TrySendError.{TrySendError}
use Rattle.channel_calls.specs.declared.error.TrySendError.TheVariants as try_send
use Rattle.channel_calls.specs.declared.error.TryRecvError.{TryRecvError}
use Rattle.channel_calls.specs.declared.error.TryRecvError.TheVariants as try_recv
use Rattle.channel_calls.specs.declared.error.Refused.{Refused}
use Rattle.channel_calls.specs.declared.error.Refused.TheVariants as refused

module _ {T : Type 0} where
  -- the message that wasn't sent
  abbrev pub unsent : SendError T → T
  unsent e = e.0

  abbrev pub try_unsent : TrySendError T → T
  try_unsent (try_send.Full m) = m
  try_unsent (try_send.Closed m) = m

  -- whether it was refused by an open and full channel, and not by a closed one
  abbrev pub found_full : TrySendError T → Bool
  found_full (try_send.Full m) = true
  found_full (try_send.Closed m) = false

  -- the message of a send that was refused, whatever refused it
  abbrev pub handed_back : Refused (SendError T) T → T
  handed_back (refused.Plain e) = unsent e
  handed_back (refused.NoMemory m) = m
  handed_back (refused.SerialsUsedUp m) = m

  -- the message of a polled send that a closed channel refused; if memory or serials were wanting the send has it still
  abbrev pub given_back : Refused (SendError T) Unit → Option T
  given_back (refused.Plain e) = Some (unsent e)
  given_back (refused.NoMemory u) = None
  given_back (refused.SerialsUsedUp u) = None

  -- that of a send that doesn't wait
  abbrev pub try_handed_back : Refused (TrySendError T) T → T
  try_handed_back (refused.Plain e) = try_unsent e
  try_handed_back (refused.NoMemory m) = m
  try_handed_back (refused.SerialsUsedUp m) = m

  -- whether an open and full channel refused it
  abbrev pub was_full : Refused (TrySendError T) T → Bool
  was_full (refused.Plain e) = found_full e
  was_full (refused.NoMemory m) = false
  was_full (refused.SerialsUsedUp m) = false

  -- whether a closed channel refused it
  abbrev pub was_closed : Refused (TrySendError T) T → Bool
  was_closed (refused.Plain e) = not (found_full e)
  was_closed (refused.NoMemory m) = false
  was_closed (refused.SerialsUsedUp m) = false

  -- the same refusal, of no message
  abbrev pub bare_send : Refused (SendError T) T → Refused (SendError Unit) Unit
  bare_send (refused.Plain e) = refused.Plain (record { 0 = tt })
  bare_send (refused.NoMemory m) = refused.NoMemory tt
  bare_send (refused.SerialsUsedUp m) = refused.SerialsUsedUp tt

  abbrev pub bare_try_send : Refused (TrySendError T) T → Refused (TrySendError Unit) Unit
  bare_try_send (refused.Plain (try_send.Full m)) = refused.Plain (try_send.Full tt)
  bare_try_send (refused.Plain (try_send.Closed m)) = refused.Plain (try_send.Closed tt)
  bare_try_send (refused.NoMemory m) = refused.NoMemory tt
  bare_try_send (refused.SerialsUsedUp m) = refused.SerialsUsedUp tt

-- the channel's own refusal; none if memory or serials were wanting
abbrev pub own_refusal : {E K : Type 0} → Refused E K → Option E
own_refusal (refused.Plain e) = Some e
own_refusal (refused.NoMemory k) = None
own_refusal (refused.SerialsUsedUp k) = None

module _ {E K : Type 0} where
  -- whether the channel itself refused it, or it was refused for want of memory
  abbrev pub was_own : Refused E K → Bool
  was_own (refused.Plain e) = true
  was_own (refused.NoMemory k) = false
  was_own (refused.SerialsUsedUp k) = false

  abbrev pub wanted_memory : Refused E K → Bool
  wanted_memory (refused.Plain e) = false
  wanted_memory (refused.NoMemory k) = true
  wanted_memory (refused.SerialsUsedUp k) = false

-- whether it was refused by an open and empty channel, and not by a closed one
abbrev pub found_empty : TryRecvError → Bool
found_empty try_recv.Empty = true
found_empty try_recv.Closed = false

module _ {K : Type 0} where
  -- whether an open and empty channel refused it, or one that was closed and empty
  abbrev pub was_empty : Refused TryRecvError K → Bool
  was_empty (refused.Plain e) = found_empty e
  was_empty (refused.NoMemory k) = false
  was_empty (refused.SerialsUsedUp k) = false

  abbrev pub was_over : Refused TryRecvError K → Bool
  was_over (refused.Plain e) = not (found_empty e)
  was_over (refused.NoMemory k) = false
  was_over (refused.SerialsUsedUp k) = false
