use Rattle.event_listener.specs.Order.{HasLeft}
use Rattle.std.proofs.Common.{sym, subst}
use Rattle.event_listener.proofs.list.List.poll.Goals as goal

pub returns-in-Told-clause-left : goal.returns-in-Told-clause-left
returns-in-Told-clause-left g c = λ key h. c.leave.ensures.left key (subst (λ v. HasLeft v key) (sym c.kind.ensures.same) (record { given = h.given; unlisted = h.unlisted }))
