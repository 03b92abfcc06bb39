-- What the words of a question know by the view of its seat.
use Rattle.std.specs.Prelude.{◌≡◌}
use Rattle.concurrent_queue.specs.declared.cells.QueueForm.{QueueForm}
use Rattle.channel_history.specs.declared.party.Standing.{Standing}
use Rattle.atomic_table.specs.Seated.{TableId}
use Rattle.channel_cells.specs.declared.questions.CallWords.{CallWords}

module _ {T W : Type 0} where
  abbrev pub words_view : CallWords T W → Standing T W
  words_view c = c.queue.seat.seat.me.0.state

  abbrev pub words_form : CallWords T W → QueueForm
  words_form c = c.queue.seat.seat.me.0.form

  abbrev pub words_table : CallWords T W → TableId
  words_table c = c.queue.seat.seat.table_id

  -- of the same party, on the same channel
  abbrev pub IsSameTable : CallWords T W → CallWords T W → Type 0
  IsSameTable a b = words_table b ≡ words_table a
