use Rattle.channel_history.proofs.Deeds as deeds
use Rattle.channel_history.proofs.laws.deeds_do.Goals as goal

pub returns : goal.returns
returns g c = record { deeds = deeds.deeds_do _ _ }
