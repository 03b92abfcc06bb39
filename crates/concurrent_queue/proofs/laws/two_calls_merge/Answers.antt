-- By going through the events.
use Rattle.concurrent_queue.proofs.BridgeRow.{four_events_lead, two_calls_merge}
use Rattle.concurrent_queue.proofs.laws.two_calls_merge.Goals as goal

pub returns : goal.returns
returns g c = record { merge = two_calls_merge; lead = four_events_lead }
