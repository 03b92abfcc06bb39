-- What the cells of a call know by the view of its seat.
use Rattle.std.specs.Prelude.{◌≡◌, List}
use Rattle.concurrent_queue.specs.Contents.{no_contents}
use Rattle.concurrent_queue.specs.declared.cells.QueueForm.{QueueForm}
use Rattle.concurrent_queue.specs.declared.cells.QueueForm.TheVariants.{Unbounded}
use Rattle.event_listener.specs.Notices.{Woken}
use Rattle.channel_calls.specs.Deeds.{told}
use Rattle.channel_calls.specs.Parts.{Parts, new_wait_lists}
use Rattle.channel_calls.specs.declared.stage.Telling.{Telling}
use Rattle.channel_calls.specs.declared.stage.WaitList.{WaitList}
use Rattle.channel_history.specs.Cells.{May, Did}
use Rattle.channel_history.specs.declared.party.Standing.{Standing}
use Rattle.atomic_table.specs.Seated.{TableId}
use Rattle.channel_cells.specs.declared.cells.CallCells.{CallCells}

module _ {T W : Type 0} where
  -- cells of which nothing is known hold anything
  abbrev pub no_parts : Parts T W
  no_parts = record { cells = no_contents Unbounded; wait_lists = new_wait_lists }

  -- a call's next deed is this notification, whichever tasks it wakes; and it was made, and has woken those that the sink got
  abbrev pub MayNotify : QueueForm → WaitList → Telling → Standing T W → Type 0
  MayNotify form line telling s = (names : List W) → May form (told line telling names) s

  abbrev pub HasNotified : {S : Type 0} → (S → W → S → Type 0) → QueueForm → WaitList → Telling → Standing T W → Standing T W → S → S → Type 0
  HasNotified wakes form line telling s t sink after = (names : List W) × Did form (told line telling names) s t × Woken wakes sink names after

module _ {T W R : Type 0} where
  -- where the party of a call stands by the view of its seat, on a queue of which form, and of which table
  abbrev pub view_of : CallCells T W R → Standing T W
  view_of c = c.queue.seat.seat.me.0.state

  abbrev pub form_in : CallCells T W R → QueueForm
  form_in c = c.queue.seat.seat.me.0.form

  abbrev pub table_in : CallCells T W R → TableId
  table_in c = c.queue.seat.seat.table_id

  -- the same party, on the same channel
  abbrev pub IsSameParty : CallCells T W R → CallCells T W R → Type 0
  IsSameParty a b = (table_in b ≡ table_in a) × (b.queue.seat.seat.me.0.who ≡ a.queue.seat.seat.me.0.who) × (b.queue.seat.seat.me.0.over ≡ a.queue.seat.seat.me.0.over)

  abbrev pub IsSameCall : CallCells T W R → CallCells T W R → Type 0
  IsSameCall a b = (form_in b ≡ form_in a) × IsSameParty a b
