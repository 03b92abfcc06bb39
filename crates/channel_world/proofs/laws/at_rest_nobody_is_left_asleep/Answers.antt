-- From the state of the model that it shows, in which nobody is left asleep.
use Rattle.channel_world.proofs.Lemmas.{world_state_of}
use Rattle.channel_world.proofs.SleepFacts.{left_at_rest, no_receive_left, no_send_left, no_stream_left, left_on_a_closed}
use Rattle.channel_world.proofs.laws.at_rest_nobody_is_left_asleep.Goals as goal

pub returns : goal.returns
returns g c =
    let w = (world_state_of c.args.world.now) in
    let k = c.keeps_names.ensures.stands in
    let rests = c.a_channel_at_rest_is_a_world.ensures.as_in_the_world in
    record {
      state = left_at_rest w k rests;
      receives = no_receive_left w k rests;
      sends = no_send_left w k rests;
      streams = no_stream_left w k rests;
      closing = left_on_a_closed w k rests;
    }
