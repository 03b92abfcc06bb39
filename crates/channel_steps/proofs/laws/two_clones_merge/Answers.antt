-- By going through the events.
use Rattle.channel_steps.proofs.every_run.BridgeRow.{two_clones_merge}
use Rattle.channel_steps.proofs.laws.two_clones_merge.Goals as goal

pub returns : goal.returns
returns g c = record { merge = two_clones_merge _ _ _ g.S.Wakes.wakes }
