use Rattle.std.proofs.Common.{sym}
use Rattle.event_listener.proofs.InsideLemmas.{told-length, in-order}
use Rattle.event_listener.proofs.list.List.told.Goals as goal

pub returns-clause-count : goal.returns-clause-count
returns-clause-count g c = sym (told-length c.self.inside c.self.invariant c.args.self.now c.self.view_is)

pub returns-clause-in_order : goal.returns-clause-in_order
returns-clause-in_order g c = in-order c.self.inside c.self.invariant c.args.self.now c.self.view_is
