-- What contracts see of the handles of a channel that threads share, and of its sends.
use Rattle.std.specs.Prelude.{◌≡◌, ℕ, Bool, false, Option, Some, None, Result, Ok, Err}
use Rattle.std.specs.Arc.{arc_value}
use Rattle.concurrent_queue.specs.Contents.{no_contents}
use Rattle.concurrent_queue.specs.declared.cells.QueueForm.{QueueForm}
use Rattle.event_listener.specs.declared.key.Key.{Key}
use Rattle.event_listener.specs.declared.waking.Task.{Task}
use Rattle.futures.specs.declared.task.Poll.{Poll}
use Rattle.channel_calls.specs.Errors.{unsent, handed_back}
use Rattle.channel_calls.specs.Listed.{is_pending}
use Rattle.channel_calls.specs.Parts.{Parts, new_wait_lists}
use Rattle.channel_calls.specs.declared.error.Refused.{Refused}
use Rattle.channel_calls.specs.declared.error.Refused.TheVariants.{Plain, NoMemory, SerialsUsedUp}
use Rattle.channel_calls.specs.declared.error.SendError.{SendError}
use Rattle.atomic_table.specs.Seated.{TableId}
use Rattle.channel_cells.specs.Channel as table
use Rattle.channel_history.specs.Party.{fresh}
use Rattle.channel_history.specs.declared.party.Standing.{Standing}
use Rattle.async_channel.specs.declared.with_bound.Bounded.{Bounded}
use Rattle.async_channel.specs.declared.shared.Shared.{Shared}
use Rattle.async_channel.specs.declared.link.Link.{Link}
use Rattle.async_channel.specs.declared.link.Link.TheVariants as link

-- the channel of a handle: how many messages it holds at most, the first of its four identities, and the memory that its handles share,
-- which no other channel's is: with a bound it is this table, and without one it has this seal
pub record Handle : Type 0 where
  pub form : QueueForm
  pub id : ℕ
  pub seal : ℕ
  pub table : Option TableId

-- a receiver: its channel, the listener that is listed for it as a stream, and with a bound where the party of its polls stands
pub record Receiving (T : Type 0) : Type 0 where
  pub channel : Handle
  pub key : Option Key
  pub party : Standing T Task

-- a receive, or a wait for the closing: the same
pub record Listening (T : Type 0) : Type 0 where
  pub channel : Handle
  pub key : Option Key
  pub party : Standing T Task

-- a send: the same, and its message, which a finished one has no more
pub record Sending (T : Type 0) : Type 0 where
  pub channel : Handle
  pub message : Option T
  pub key : Option Key
  pub party : Standing T Task

module _ {T : Type 0} where
  -- a receiver that has not been polled as a stream
  abbrev pub new_receiving : Handle → Receiving T
  new_receiving h = record { channel = h; key = None; party = fresh }

  -- an operation that has not been polled
  abbrev pub new_listening : Handle → Listening T
  new_listening h = record { channel = h; key = None; party = fresh }

module _ {T L : Type 0} where
  abbrev pub form_of : Shared T L → QueueForm
  form_of c = c.queue.form

  abbrev pub channel_of : Shared T L → Handle
  channel_of c = record { form = form_of c; id = c.id; seal = c.seal.id; table = None }

module _ {T : Type 0} where
  abbrev pub bounded_channel : Bounded T → Handle
  bounded_channel c = record { form = table.form_of c.table; id = c.id; seal = 0; table = Some (table.id_of c.table) }

  -- a send that has not been polled
  abbrev pub new_sending : Handle → T → Sending T
  new_sending h m = record { channel = h; message = Some m; key = None; party = fresh }

  -- whether a listener is listed after a poll: of a send that had its message, where it waits
  abbrev pub waits_on : {A : Type 0} → Option T → Poll A → Bool
  waits_on (Some v) p = is_pending p
  waits_on None p = false

  -- all of it lies in the shared part
  abbrev pub handle_of : Link T → Handle
  handle_of (link.Bounded channel) = bounded_channel (arc_value channel)
  handle_of (link.Unbounded shared) = channel_of (arc_value shared)

  -- the message that a refused send returns
  abbrev pub Unsent : Refused (SendError T) T → T
  Unsent e = handed_back e

  -- what the poll of a send with this message gives once it is ready: a closed channel returns the message
  abbrev pub Gives : Option T → Result Unit (Refused (SendError T) Unit) → Type 0
  Gives m (Err (Plain e)) = m ≡ Some (unsent e)
  Gives m (Err (NoMemory u)) = Unit {0}
  Gives m (Err (SerialsUsedUp u)) = Unit {0}
  Gives m (Ok u) = Unit {0}

-- shared cells name no contents
abbrev pub no_parts : {T W : Type 0} → QueueForm → Parts T W
no_parts f = record { cells = no_contents f; wait_lists = new_wait_lists }
