-- From each step of the way.
use Rattle.channel_world.proofs.Lemmas.{world_state_of}
use Rattle.channel_world.proofs.SinceFacts.{closes_once, closes_once_to_here, closes_what_is_left, closes_once_from_rest, none_closes_again}
use Rattle.channel_world.proofs.laws.the_channel_is_closed_once.Goals as goal

pub returns : goal.returns
returns g c = record {
  since_opening = closes_once (world_state_of c.args.world.now);
  to_here = closes_once_to_here (world_state_of c.args.world.now);
  left = closes_what_is_left (world_state_of c.args.world.now);
  from_rest = closes_once_from_rest (world_state_of c.args.world.now);
  again = none_closes_again (world_state_of c.args.world.now);
}
