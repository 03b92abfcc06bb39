use Rattle.channel_history.proofs.CellActs as cell_acts
use Rattle.channel_history.proofs.laws.sections_act.Goals as goal

pub returns : goal.returns
returns g c = record { acts = cell_acts.sections_act _ _ }
