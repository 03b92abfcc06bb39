use Rattle.channel_history.proofs.InHand as in_hand
use Rattle.channel_history.proofs.laws.calls_hold_their_own.Goals as goal

pub returns : goal.returns
returns g c = record { holds = in_hand.calls_hold_their_own _ _ }
