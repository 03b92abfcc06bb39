use Rattle.channel_history.proofs.Joining.{joins_keep}
use Rattle.channel_history.proofs.Splitting.{splits_keep}
use Rattle.channel_history.proofs.laws.what_lies_with_seats_passes.Goals as goal

pub returns : goal.returns
returns g c = record { joins = joins_keep _ _; splits = splits_keep _ _ }
