-- From what is owed to who sleeps, since no name stands twice.
use Rattle.channel_world.proofs.Lemmas.{world_state_of}
use Rattle.channel_world.proofs.KindFacts.{a_line_awake, none_where_closed, no_receive_sleeps, no_send_sleeps, no_stream_sleeps}
use Rattle.channel_world.proofs.SleepFacts.{receives_answered, sends_answered, streams_answered, closing_answered, no_receive_beside_a_message, no_stream_beside_a_message, no_send_beside_a_place, nobody_on_a_closed, all_awake}
use Rattle.channel_world.proofs.laws.who_sleeps_is_answered_for.Goals as goal

pub returns : goal.returns
returns g c =
    let w = (world_state_of c.args.world.now) in
    let k = c.keeps_names.ensures.stands in
    record {
      owed = k.stands.owed;
      receives = receives_answered w k;
      sends = sends_answered w k;
      streams = streams_answered w k;
      closing = closing_answered w k;
      receive_beside = no_receive_beside_a_message w k;
      stream_beside = no_stream_beside_a_message w k;
      beside_a_place = no_send_beside_a_place w k;
      on_a_closed = nobody_on_a_closed w k;
      awake = all_awake w k;
      receive_by_kind = no_receive_sleeps w k;
      send_by_kind = no_send_sleeps w k;
      stream_by_kind = no_stream_sleeps w k;
      closing_by_kind = none_where_closed w k;
      line_by_line = a_line_awake w k;
    }
