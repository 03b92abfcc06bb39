use Rattle.channel_history.proofs.Keeping as keeping
use Rattle.channel_history.proofs.laws.a_new_channel_has_a_history.Goals as goal

pub returns : goal.returns
returns g c = record { opens = keeping.opens_well _ _ }
