-- From the accounts of records.
use Rattle.channel_world.proofs.Lemmas.{in_order}
use Rattle.channel_world.proofs.recorded.laws.a_record_loses_nothing.Goals as goal

pub returns : goal.returns
returns g c = record { in_order = in_order }
