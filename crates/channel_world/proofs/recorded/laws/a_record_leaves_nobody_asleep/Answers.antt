-- From the invariant of records.
use Rattle.channel_world.proofs.Lemmas.{nobody_left}
use Rattle.channel_world.proofs.recorded.laws.a_record_leaves_nobody_asleep.Goals as goal

pub returns : goal.returns
returns g c = record { awake = nobody_left }
