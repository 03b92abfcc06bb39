use Rattle.event_listener.proofs.RunOrder.{runs_keep_the_order}
use Rattle.event_listener.proofs.laws.sections_keep_the_order.Goals as goal

pub returns : goal.returns
returns g c = runs_keep_the_order
