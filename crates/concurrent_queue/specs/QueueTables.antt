-- Which form of queue a table is of.
use Rattle.concurrent_queue.specs.declared.cells.QueueForm.{QueueForm}
use Rattle.concurrent_queue.specs.declared.shared.ruled.QueueTable.{QueueTable}

abbrev pub form_of : {T : Type 0} → QueueTable T → QueueForm
form_of t = t.table.table.shared.key
