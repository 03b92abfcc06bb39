-- From what a poll by name asks.
use Rattle.channel_world.proofs.NamedMerges.{polls_by_name}
use Rattle.channel_world.proofs.laws.blocking_polls_by_name.Goals as goal

pub returns : goal.returns
returns g c = record { polls = polls_by_name _ }
