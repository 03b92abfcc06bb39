use Rattle.channel_history.proofs.Handles as handles
use Rattle.channel_history.proofs.laws.handles_are_counted.Goals as goal

pub returns : goal.returns
returns g c = record { counted = handles.handles_are_counted _ _ }
