-- Which form of queue a memory is of, and which table it has.
use Rattle.std.specs.Prelude.{Option, None, Some}
use Rattle.atomic_table.specs.Seated.{TableId}
use Rattle.concurrent_queue.specs.QueueTables.{form_of}
use Rattle.concurrent_queue.specs.declared.cells.QueueForm.{QueueForm}
use Rattle.concurrent_queue.specs.declared.cells.QueueForm.TheVariants.{Unbounded}
use Rattle.concurrent_queue.specs.declared.shared.queue.Memory.{Memory}
use Rattle.concurrent_queue.specs.declared.shared.queue.Memory.TheVariants.{Ruled, Endless}

abbrev pub memory_form : {T : Type 0} → Memory T → QueueForm
memory_form (Ruled table) = form_of table
memory_form (Endless ends) = Unbounded

-- the table of a queue with a bound
abbrev pub table_in : {T : Type 0} → Memory T → Option TableId
table_in (Ruled table) = Some table.table.table.shared.table_id
table_in (Endless ends) = None
