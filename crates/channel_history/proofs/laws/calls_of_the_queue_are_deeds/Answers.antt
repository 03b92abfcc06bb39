use Rattle.channel_history.proofs.QueueCells as queue_cells
use Rattle.channel_history.proofs.laws.calls_of_the_queue_are_deeds.Goals as goal

pub returns : goal.returns
returns g c = record { moves = queue_cells.queue_calls_move _ _; whole = queue_cells.queue_calls_are_deeds _ _ _ }
