-- From what every step keeps, in the configuration in which the world stands, since no name stands twice.
use Rattle.channel_world.proofs.Lemmas.{world_state_of}
use Rattle.channel_world.proofs.SleepFacts.{calls_at_rest}
use Rattle.channel_world.proofs.NumberFacts.{messages_at_rest, pending_at_rest, woken_at_rest}
use Rattle.channel_world.proofs.laws.numbers_are_those_at_rest.Goals as goal

pub returns : goal.returns
returns g c =
    let w = (world_state_of c.args.world.now) in
    let k = c.keeps_names.ensures.stands in
    let rests = c.a_channel_at_rest_is_a_world.ensures.as_in_the_world in
    let apart = c.keeps_names.ensures.apart in
    record {
      calls = calls_at_rest w;
      messages = messages_at_rest w k;
      pending = pending_at_rest w k rests apart;
      woken = woken_at_rest w k;
    }
