-- From what every step keeps, in the configuration in which the world stands.
use Rattle.channel_world.proofs.Lemmas.{world_state_of}
use Rattle.channel_world.proofs.CountFacts.{counts_live, open_has_both, are_by_drops, counts_at_rest}
use Rattle.channel_world.proofs.laws.counts_are_live_handles.Goals as goal

pub returns : goal.returns
returns g c =
    let w = (world_state_of c.args.world.now) in
    let k = c.keeps.ensures in
    record { counts = counts_live w k; while_open = open_has_both w k; drops = are_by_drops w; at_rest = counts_at_rest w k }
