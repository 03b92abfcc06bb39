-- What a channel's table and its seats know.
use Rattle.concurrent_queue.specs.declared.cells.QueueForm.{QueueForm}
use Rattle.concurrent_queue.specs.declared.history.rule.View.{View}
use Rattle.concurrent_queue.specs.declared.history.seats.IdleSeat.{IdleSeat}
use Rattle.channel_history.specs.declared.party.Standing.{Standing}
use Rattle.atomic_table.specs.Seated.{TableId}
use Rattle.channel_cells.specs.declared.channel.ChannelTable.{ChannelTable}

module _ {T W : Type 0} where
  -- which form the channel's queue has, and which table is the channel's
  abbrev pub form_of : ChannelTable T W → QueueForm
  form_of c = c.table.table.shared.key

  abbrev pub id_of : ChannelTable T W → TableId
  id_of c = c.table.table.shared.table_id

  -- where the party of a seat stands
  abbrev pub standing_of : IdleSeat T (Standing T W) → Standing T W
  standing_of s = s.seat.me.0.state

  abbrev pub view_in : IdleSeat T (Standing T W) → View T (Standing T W)
  view_in s = s.seat.me.0

  abbrev pub seat_table : IdleSeat T (Standing T W) → TableId
  seat_table s = s.seat.table_id
