use Rattle.event_listener.proofs.SectionCalls.{runs_are_calls}
use Rattle.event_listener.proofs.laws.sections_are_calls.Goals as goal

pub returns : goal.returns
returns g c = runs_are_calls
