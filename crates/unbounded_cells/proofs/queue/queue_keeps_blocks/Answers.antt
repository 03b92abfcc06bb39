use Rattle.unbounded_cells.specs.OfQueue as queue
use Rattle.unbounded_cells.proofs.queue.queue_keeps_blocks.Goals as goal

pub returns : goal.returns
returns g c = record { kept = queue.queue_keeps_blocks _ c.histories_touch_their_own.ensures.own c.parties_are_among_others.ensures.among }
