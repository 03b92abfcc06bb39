-- Who comes in looks again, and who brings a message tells all streams.
use Rattle.channel_steps.proofs.every_run.Streams.{streams_stay_owed, no_stream_is_forgotten}
use Rattle.channel_steps.proofs.laws.no_stream_is_forgotten.Goals as goal

pub returns : goal.returns
returns g c = record { kept = streams_stay_owed _ _; owed = no_stream_is_forgotten _ _ }
