-- How many messages fit into a queue, by its form.
use Rattle.std.specs.Prelude.{ℕ, Option, None, Some}
use Rattle.concurrent_queue.specs.declared.cells.QueueForm.{QueueForm}
use Rattle.concurrent_queue.specs.declared.cells.QueueForm.TheVariants.{Bounded, Unbounded}

abbrev pub capacity_of : QueueForm → Option ℕ
capacity_of (Bounded cap) = Some cap
capacity_of Unbounded = None
