-- From the law of runs: a way is one.
use Rattle.channel_world.proofs.Lemmas.{world_state_of}
use Rattle.channel_world.proofs.SinceFacts.{is_never_full, is_never_full_to_here, is_never_full_since, is_never_full_from_rest}
use Rattle.channel_world.proofs.laws.an_unbounded_world_is_never_full.Goals as goal

pub returns : goal.returns
returns g c = record {
  since_opening = is_never_full (world_state_of c.args.world.now);
  to_here = is_never_full_to_here (world_state_of c.args.world.now);
  since = is_never_full_since (world_state_of c.args.world.now);
  from_rest = is_never_full_from_rest (world_state_of c.args.world.now);
}
