use Rattle.channel_history.proofs.Cells as cells
use Rattle.channel_history.proofs.laws.views_keep_what_cells_ask.Goals as goal

pub returns : goal.returns
returns g c = record { keeps = cells.views_keep_what_cells_ask _ _ }
