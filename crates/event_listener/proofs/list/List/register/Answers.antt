use Rattle.event_listener.proofs.list.List.register.Goals as goal

pub returns-in-Told-clause-left : goal.returns-in-Told-clause-left
returns-in-Told-clause-left g c = λ key h. c.leave.ensures.left key (c.store.ensures.left key h)
