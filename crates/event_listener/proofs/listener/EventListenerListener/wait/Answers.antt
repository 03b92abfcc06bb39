use Rattle.std.proofs.Common.{sym}
use Rattle.event_listener.proofs.listener.EventListenerListener.wait.Goals as goal

pub returns-clause-waited : goal.returns-clause-waited
returns-clause-waited g c = rw (sym c.self.view_is) c.wait.ensures.waited
