use Rattle.queue_history.proofs.Concluded as concluded
use Rattle.queue_history.proofs.accounts.three_parties_conclude.Goals as goal

pub returns : goal.returns
returns g c = record { concluded = concluded.three_parties_conclude _ c.runs_are_accounted.ensures.accounted c.nothing_else_was_accepted.ensures.nothing_else }
